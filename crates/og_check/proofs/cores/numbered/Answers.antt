use Rattle.std.proofs.Common.{◌∙◌, ap, sym, Ok, Err, true≢false}
use Rattle.og_value.specs.Words.{folded, is_word}
use Rattle.og_check.proofs.NumberLemmas.{numbered_stays, numbered_word}
use Rattle.og_check.proofs.cores.numbered.Goals as goal

pub returns-in-Ok : goal.returns-in-Ok
returns-in-Ok c =
    let same = c.as_bytes.ensures.value ∙ c.in_ok-word.ensures.ok in
    ap Ok (sym (c.in-Ok.ensures.name ∙ ap folded same ∙ numbered_stays c.args.number c.ranges.number.fits))

pub unreachable-requires : goal.unreachable-requires
unreachable-requires c =
    let same = c.as_bytes.ensures.value ∙ c.in_ok-word.ensures.ok in
    let word = ap is_word same ∙ numbered_word c.args.number c.ranges.number.fits in
    true≢false (sym word ∙ c.of.ensures.not_a_name (c.in-Err-NotAName.is ∙ ap Err c.in-Err-NotAName.field-0-is))

use Rattle.std.proofs.Common.{◌+◌, ℕ, Err, true≢false, ap, sym, ◌∙◌, suc, ◌≡◌, arith}
use Rattle.og_value.specs.Words.{folded, is_word}
use Rattle.og_view.specs.Placed as spec
use Rattle.og_view.proofs.PlacedLemmas.{letters_lower, letters_word}
use Rattle.og_view.proofs.placed.name_of.Goals as goal

-- one more
one_more : (k : ℕ) → k + 1 ≡ suc k
one_more k = omega arith

pub unreachable-requires : goal.unreachable-requires
unreachable-requires c =
    let k = c.requires.0 in
    true≢false (sym (ap is_word (c.requires.1 ∙ ap spec.letters (one_more k)) ∙ letters_word k) ∙ c.in-Err-NotAName.ensures.not_a_name (ap Err c.in-Err-NotAName.field-0-is))

pub returns-in-Ok : goal.returns-in-Ok
returns-in-Ok c = c.in-Ok.ensures.name ∙ ap folded c.requires.1 ∙ letters_lower (c.requires.0 + 1) ∙ sym c.requires.1

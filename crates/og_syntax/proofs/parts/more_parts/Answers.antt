use Rattle.std.proofs.Common.{◌-◌, ◌∙◌, sym, arith}
use Rattle.std.proofs.lemmas.Result.{err_from_is_err_and}
use Rattle.og_syntax.specs.Reading.{by, more_if, with_front}
use Rattle.og_syntax.proofs.Loops.{one_more, no_turn, no_part, not_read}
use Rattle.og_syntax.proofs.parts.more_parts.Goals as goal
use Rattle.og_syntax.proofs.parts.more_parts.Goals.{then-more-test+else-begins, else-more-test}

pub more-preserved : goal.more-preserved
more-preserved g c =
    one_more (g.P.Parts.begins c.args.kind.now) (by c.args.reading.now (g.P.Parts.part c.args.kind.now)) c.more.parts c.push.new.self c.more.turns (c.more.turns - 1) c.more.rest.now c.in_ok-part.left.now c.in_ok-part.part _
    c.in_ok-push.ensures.ok (omega (arith, c.more-test.true)) (sym c.begins.ensures ∙ c.if-begins.true) c.in_ok-part.ensures c.more.invariant

pub returns-in_err-part : goal.returns-in_err-part
returns-in_err-part g c =
    let r = err_from_is_err_and c.from_residual.result c.from_residual.ensures.1 in
    rw (r.1, r.2)
    (not_read (g.P.Parts.begins c.args.kind.now) (by c.args.reading.now (g.P.Parts.part c.args.kind.now)) c.more.parts c.more.turns (c.more.turns - 1) c.more.rest.now
    (with_front c.args.parts (more_if (g.P.Parts.begins c.args.kind.now) (by c.args.reading.now (g.P.Parts.part c.args.kind.now)) c.args.lexemes.now)) _
    (omega (arith, c.more-test.true)) (sym c.begins.ensures ∙ c.if-begins.true) c.more.invariant c.in_err-part.ensures)

pub returns : goal.returns
returns g c = elim c.more-test.branch [
  | then-more-test+else-begins w ↦
      no_part (g.P.Parts.begins c.args.kind.now) (by c.args.reading.now (g.P.Parts.part c.args.kind.now)) c.more.parts c.more.turns c.more.rest.now _ (sym w.begins.ensures ∙ w.if-begins.false) c.more.invariant
  | else-more-test w ↦
      no_turn (g.P.Parts.begins c.args.kind.now) (by c.args.reading.now (g.P.Parts.part c.args.kind.now)) c.more.parts c.more.turns c.more.rest.now _ (omega (arith, w.more-test.false)) c.more.invariant
]

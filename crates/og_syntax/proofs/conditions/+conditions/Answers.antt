use Rattle.std.proofs.Common.{◌-◌, ◌∙◌, ap, sym, arith}
use Rattle.std.proofs.lemmas.Result.{err_from_is_err_and}
use Rattle.og_syntax.specs.Lexemes.{is, sort_at}
use Rattle.og_syntax.specs.Reader.{neg_in, conj_of}
use Rattle.og_syntax.specs.Reading.{by, past}
use Rattle.og_syntax.specs.declared.lexeme.Sort.TheVariants as k
use Rattle.og_syntax.proofs.Loops.{one_more, no_turn, no_part, not_read}
use Rattle.og_syntax.proofs.conditions.+conditions.Goals as goal
use Rattle.og_syntax.proofs.conditions.+conditions.Goals.{more_conjunctions_in-then-more-test+else-same_sort, more_conjunctions_in-else-more-test}

pub more_conjunctions_in-more-preserved : goal.more_conjunctions_in-more-preserved
more_conjunctions_in-more-preserved t c =
    one_more (λ ts. is k.Or (sort_at ts)) (past k.Or (conj_of (by c.args.reading.now neg_in c.args.depth))) c.more.parts c.push.new.self c.more.turns (c.more.turns - 1) c.more.rest.now c.in_ok-part.left.now c.in_ok-part.part _
    c.in_ok-push.ensures.ok (omega (arith, c.more-test.true)) (ap (λ s. is k.Or s) (sym c.sort_at.ensures) ∙ sym c.same_sort.ensures ∙ c.if-same_sort.true) c.in_ok-part.ensures c.more.invariant

pub more_conjunctions_in-returns-in_err-part : goal.more_conjunctions_in-returns-in_err-part
more_conjunctions_in-returns-in_err-part t c =
    let r = err_from_is_err_and c.from_residual.result c.from_residual.ensures.1 in
    rw (r.1, r.2)
    (not_read (λ ts. is k.Or (sort_at ts)) (past k.Or (conj_of (by c.args.reading.now neg_in c.args.depth))) c.more.parts c.more.turns (c.more.turns - 1) c.more.rest.now _ _
    (omega (arith, c.more-test.true)) (ap (λ s. is k.Or s) (sym c.sort_at.ensures) ∙ sym c.same_sort.ensures ∙ c.if-same_sort.true) c.more.invariant c.in_err-part.ensures)

pub more_conjunctions_in-returns : goal.more_conjunctions_in-returns
more_conjunctions_in-returns t c = elim c.more-test.branch [
  | more_conjunctions_in-then-more-test+else-same_sort w ↦
      no_part (λ ts. is k.Or (sort_at ts)) (past k.Or (conj_of (by c.args.reading.now neg_in c.args.depth))) c.more.parts c.more.turns c.more.rest.now _ (ap (λ s. is k.Or s) (sym w.sort_at.ensures) ∙ sym w.same_sort.ensures ∙ w.if-same_sort.false) c.more.invariant
  | more_conjunctions_in-else-more-test w ↦
      no_turn (λ ts. is k.Or (sort_at ts)) (past k.Or (conj_of (by c.args.reading.now neg_in c.args.depth))) c.more.parts c.more.turns c.more.rest.now _ (omega (arith, w.more-test.false)) c.more.invariant
]

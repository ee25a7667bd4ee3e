use Rattle.std.proofs.Common.{◌≡◌, ◌∙◌, sym, arith}
use Rattle.std.proofs.lemmas.Int.{ints}
use Rattle.std.proofs.lemmas.Bool.Decides.{Decides-int_eq}
use Rattle.std.proofs.lemmas.Result.{IfOk-weaker, on_err_weaker, err_from_is_err_and}
use Rattle.og_time.proofs.PointTexts.{made, no_ends, some_unless}
use Rattle.og_time.proofs.text.read_ends.Goals as goal

pub returns-in_err-low-clause-refused : goal.returns-in_err-low-clause-refused
returns-in_err-low-clause-refused c =
    let p = err_from_is_err_and c.from_residual.result c.from_residual.ensures.1 in
    rw p.1 (λ q h. c.in_err-low.ensures.refused q.low h.low_end)

pub returns-in_err-high-clause-refused : goal.returns-in_err-high-clause-refused
returns-in_err-high-clause-refused c =
    let p = err_from_is_err_and c.from_residual-in_err-high.result c.from_residual-in_err-high.ensures.1 in
    rw p.1 (λ q h. c.in_err-high.ensures.refused q.high h.high_end)

pub returns-then-eq-clause-refused : goal.returns-then-eq-clause-refused
returns-then-eq-clause-refused c q h =
    let same = (Decides-int_eq c.in_ok-low.low c.in_ok-high.high).0 (sym c.eq.ensures ∙ c.if-eq.true) in
    no_ends _ _ c.in_ok-low.low c.in_ok-high.high q c.in_ok-low.ensures.value c.in_ok-high.ensures.value (λ less. omega (arith, ints, same, less)) h

pub returns-clause-value : goal.returns-clause-value
returns-clause-value c =
    let m = made _ _ _ _ _ c.new.ensures c.ok_or.ensures.value in
    let apart : c.in_ok-low.low ≡ c.in_ok-high.high → ⊥ = λ same. cc (sym ((Decides-int_eq c.in_ok-low.low c.in_ok-high.high).1 same) ∙ sym c.eq.ensures ∙ c.if-eq.false) in
    IfOk-weaker c.ok_or.result _ _ (λ p h. rw h.1 (record {
      low_end = c.in_ok-low.ensures.value;
      high_end = c.in_ok-high.ensures.value;
      rising = omega (arith, ints, h.0, apart);
      some = omega (arith, some_unless _ _ c.are_empty.ensures c.if-are_empty.false);
    })) m.0

pub returns-clause-refused : goal.returns-clause-refused
returns-clause-refused c =
    let m = made _ _ _ _ _ c.new.ensures c.ok_or.ensures.value in
    on_err_weaker c.ok_or.result (λ no q h. no_ends _ _ c.in_ok-low.low c.in_ok-high.high q c.in_ok-low.ensures.value c.in_ok-high.ensures.value (λ less. no (omega (arith, ints, less))) h) m.1

use Rattle.std.proofs.Common.{◌≡◌, ◌++◌, ◌+◌, ◌<◌, ◌∷◌, Bool, true, false, List, [], length, get_or, ap, ap₂, sym, subst, take, ◌∙◌, arith}
use Rattle.std.specs.List.{All}
use Rattle.og_base.specs.Ranges.{Range}
use Rattle.og_value.specs.declared.value.Value.{Value}
use Rattle.og_rel.specs.Places.{places}
use Rattle.og_rel.specs.Relations.{HasDays, passing}
use Rattle.og_reduce.proofs.FoundLemmas.{passing-in, passing-not, skipped, stored-copied}
use Rattle.og_rel.proofs.PlaceLemmas.{places-in, places-not}
use Rattle.og_reduce.proofs.stored.Stored.found.Goals.{then-row_passes+in_ok-push+in_ok-copy+in_ok-copy-2+in_ok-push-2, else-row_passes}
use Rattle.og_reduce.proofs.stored.Stored.found.Goals as goal

pub rows-init : goal.rows-init
rows-init g c =
    let passes = g.T.RowTest.passes c.args.test.now in
    let holds : List Value × List Range → Bool = λ p. passes p.0 in
    let rel = c.args.self.now in
    let n = c.next-i.result in
    let next = c.next-i.ensures in
    let none : List Value × List Range = ([], []) in
    record {
      within = next.most;
      places = c.new-at.ensures.items ∙ sym (skipped (places holds) rel 0 n (λ k least before. places-not holds rel k none (omega (arith, before, next.most)) (next.others k none least before)) next.least);
      rows = c.new-rows.ensures ∙ sym (skipped (passing passes) rel 0 n (λ k least before. passing-not passes rel k none (omega (arith, before, next.most)) (next.others k none least before)) next.least);
    }

pub rows-preserved : goal.rows-preserved
rows-preserved g c =
    let passes = g.T.RowTest.passes c.args.test.now in
    let holds : List Value × List Range → Bool = λ p. passes p.0 in
    let i = c.rows.i in
    let rel = c.args.self.now in
    let n = c.next-i-in-rows.result in
    let next = c.next-i-in-rows.ensures in
    let none : List Value × List Range = ([], []) in
    let there : i < length rel = omega (arith, c.rows-test.true, c.len.ensures ∙ ap length c.self.view_is) in
    let step : (c.if-row_passes.at.items ≡ places holds (take (i + 1) rel)) × (c.if-row_passes.rows ≡ passing passes (take (i + 1) rel)) = elim c.if-row_passes.branch [
      | then-row_passes+in_ok-push+in_ok-copy+in_ok-copy-2+in_ok-push-2 w ↦
          let is : passes (get_or rel i none).0 ≡ true = sym (c.row_passes.ensures none) ∙ w.if-row_passes.true in (
            ap (λ at. at.items) w.at-is ∙ w.in_ok-push.ensures.items ∙ ap (λ at. at ++ i ∷ []) c.rows.invariant.places ∙ sym (places-in holds rel i none there is),
            w.rows-is ∙ w.in_ok-push-2.ensures.pushed
                ∙ ap₂ (λ before one. before ++ one) c.rows.invariant.rows
                (stored-copied rel i none w.in_ok-copy.field-0 w.in_ok-copy-2.field-0 there (subst (All (λ p. HasDays p.1)) c.self.view_is c.some_days.ensures)
                (w.in_ok-copy.ensures ∙ w.row.ensures none ∙ ap (λ rel. (get_or rel i none).0) c.self.view_is) (w.in_ok-copy-2.ensures ∙ w.days.ensures none ∙ ap (λ rel. (get_or rel i none).1) c.self.view_is))
                ∙ sym (passing-in passes rel i none there is),
          )
      | else-row_passes w ↦
          let is : passes (get_or rel i none).0 ≡ false = sym (c.row_passes.ensures none) ∙ w.if-row_passes.false in (
            ap (λ at. at.items) w.at-is ∙ c.rows.invariant.places ∙ sym (places-not holds rel i none there is),
            w.rows-is ∙ c.rows.invariant.rows ∙ sym (passing-not passes rel i none there is),
          )
    ] in
    record {
      within = next.most;
      places = step.0 ∙ sym (skipped (places holds) rel (i + 1) n (λ k least before. places-not holds rel k none (omega (arith, before, next.most)) (next.others k none least before)) next.least);
      rows = step.1 ∙ sym (skipped (passing passes) rel (i + 1) n (λ k least before. passing-not passes rel k none (omega (arith, before, next.most)) (next.others k none least before)) next.least);
    }

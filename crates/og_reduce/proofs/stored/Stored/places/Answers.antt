use Rattle.std.proofs.Common.{◌≡◌, ◌++◌, ◌+◌, ◌<◌, ◌∷◌, Bool, List, [], length, ap, sym, take, ◌∙◌, arith}
use Rattle.og_base.specs.Ranges.{Range}
use Rattle.og_value.specs.declared.value.Value.{Value}
use Rattle.og_rel.specs.Places.{places}
use Rattle.og_rel.proofs.PlaceLemmas.{places-in, places-not}
use Rattle.og_reduce.proofs.FoundLemmas.{skipped}
use Rattle.og_reduce.proofs.stored.Stored.places.Goals.{then-row_passes+in_ok-push, else-row_passes}
use Rattle.og_reduce.proofs.stored.Stored.places.Goals as goal

pub rows-init : goal.rows-init
rows-init g c =
    let holds : List Value × List Range → Bool = λ p. g.T.RowTest.passes c.args.test.now p.0 in
    let rel = c.args.self.now in
    let n = c.next-i.result in
    let next = c.next-i.ensures in
    record {
      within = next.most;
      places =
          c.new-at.ensures.items
          ∙ sym (skipped (places holds) rel 0 n (λ k least before. places-not holds rel k ([], []) (omega (arith, before, next.most)) (next.others k ([], []) least before)) next.least);
    }

pub rows-preserved : goal.rows-preserved
rows-preserved g c =
    let holds : List Value × List Range → Bool = λ p. g.T.RowTest.passes c.args.test.now p.0 in
    let rel = c.args.self.now in
    let i = c.rows.i in
    let n = c.next-i-in-rows.result in
    let next = c.next-i-in-rows.ensures in
    let there : i < length rel = omega (arith, c.rows-test.true, c.len.ensures ∙ ap length c.self.view_is) in
    let step : c.if-row_passes.at.items ≡ places holds (take (i + 1) rel) = elim c.if-row_passes.branch [
      | then-row_passes+in_ok-push w ↦
          ap (λ at. at.items) w.at-is ∙ w.in_ok-push.ensures.items ∙ ap (λ at. at ++ i ∷ []) c.rows.invariant.places
          ∙ sym (places-in holds rel i ([], []) there (sym (c.row_passes.ensures ([], [])) ∙ w.if-row_passes.true))
      | else-row_passes w ↦ ap (λ at. at.items) w.at-is ∙ c.rows.invariant.places ∙ sym (places-not holds rel i ([], []) there (sym (c.row_passes.ensures ([], [])) ∙ w.if-row_passes.false))
    ] in
    record {
      within = next.most;
      places =
          step
          ∙ sym (skipped (places holds) rel (i + 1) n (λ k least before. places-not holds rel k ([], []) (omega (arith, before, next.most)) (next.others k ([], []) least before)) next.least);
    }

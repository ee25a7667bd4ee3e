use Rattle.std.proofs.Common.{◌≡◌, ◌++◌, ◌+◌, ◌<◌, Bool, List, [], filter, length, get_or, ap, ap₂, sym, subst, take, ◌∙◌, arith}
use Rattle.std.specs.List.{All}
use Rattle.og_base.specs.Ranges.{Range}
use Rattle.og_value.specs.declared.value.Value.{Value}
use Rattle.og_rel.specs.Places.{others_at}
use Rattle.og_rel.specs.Relations.{HasDays}
use Rattle.og_reduce.proofs.FoundLemmas.{is_among-at, is_among-none, kept-not, kept-one, kept-out, skipped, stored-copied}
use Rattle.og_reduce.proofs.stored.Stored.others.Goals.{then-not-is_place+then-row_passes+in_ok-copy+in_ok-copy-2+in_ok-push, else-not-is_place, else-not-is_place-via-then-not-is_place+else-row_passes, else-not-is_place-via-else-not-is_place}
use Rattle.og_reduce.proofs.stored.Stored.others.Goals as goal

pub rows-init : goal.rows-init
rows-init g c =
    let keeps : List Value × List Range → Bool = λ p. g.T.RowTest.passes c.args.test.now p.0 in
    let at = c.args.at.now in
    let rel = c.args.self.now in
    let n = c.next-i.result in
    let next = c.next-i.ensures in
    record {
      within = next.most;
      most = omega arith;
      before = λ j none. absurd (omega (arith, none));
      rows =
          c.new-rows.ensures
          ∙ sym (skipped (λ l. filter keeps (others_at at l)) rel 0 n
          (λ k least before. kept-not keeps at (length rel) rel k ([], []) c.requires (omega (arith, before, next.most)) (next.others k ([], []) least before)) next.least);
    }

pub rows-preserved : goal.rows-preserved
rows-preserved g c =
    let keeps : List Value × List Range → Bool = λ p. g.T.RowTest.passes c.args.test.now p.0 in
    let at = c.args.at.now in
    let rel = c.args.self.now in
    let i = c.rows.i in
    let n = c.next-i-in-rows.result in
    let next = c.next-i-in-rows.ensures in
    let end = length rel in
    let none : List Value × List Range = ([], []) in
    let there : i < end = omega (arith, c.rows-test.true, c.len.ensures ∙ ap length c.self.view_is) in
    let step : c.if-not-is_place.rows ≡ filter keeps (others_at at (take (i + 1) rel)) = elim c.if-not-is_place.branch [
      | then-not-is_place+then-row_passes+in_ok-copy+in_ok-copy-2+in_ok-push w ↦
          let other = is_among-none i at (c.is_place.ensures.no end c.requires w.if-not-is_place.true) in
          w.rows-is ∙ w.in_ok-push.ensures.pushed
          ∙ ap₂ (λ before one. before ++ one) c.rows.invariant.rows
          (stored-copied rel i none w.in_ok-copy.field-0 w.in_ok-copy-2.field-0 there (subst (All (λ p. HasDays p.1)) c.self.view_is c.some_days.ensures)
          (w.in_ok-copy.ensures ∙ w.row.ensures none ∙ ap (λ rel. (get_or rel i none).0) c.self.view_is) (w.in_ok-copy-2.ensures ∙ w.days.ensures none ∙ ap (λ rel. (get_or rel i none).1) c.self.view_is))
          ∙ sym (kept-one keeps at end rel i none c.requires there other (sym (w.row_passes.ensures none) ∙ w.if-row_passes.true))
      | else-not-is_place w ↦ w.rows-is ∙ c.rows.invariant.rows ∙ sym (elim w.else-not-is_place.branch [
        | else-not-is_place-via-then-not-is_place+else-row_passes w' ↦ kept-not keeps at end rel i none c.requires there (sym (w'.row_passes.ensures none) ∙ w'.if-row_passes.false)
        | else-not-is_place-via-else-not-is_place w' ↦
            let here = c.is_place.ensures.yes w'.if-not-is_place.false in
            kept-out keeps at end rel i none c.requires there (is_among-at i c.place_from-k.result at here.0 here.1)
      ])
    ] in
    record {
      within = next.most;
      most = c.place_from-k.ensures.most;
      before = λ j less. omega (arith, c.place_from-k.ensures.before j less, next.least);
      rows =
          step
          ∙ sym (skipped (λ l. filter keeps (others_at at l)) rel (i + 1) n
          (λ k least before. kept-not keeps at end rel k none c.requires (omega (arith, before, next.most)) (next.others k none least before)) next.least);
    }

use Rattle.std.proofs.Common.{◌≡◌, ◌++◌, ◌&&◌, ℤ, IfOk, map, refl, ap, subst, ◌∙◌}
use Rattle.std.proofs.lemmas.Bool.{and_parts}
use Rattle.std.proofs.lemmas.Result.{IfOk-weaker}
use Rattle.og_base.specs.Calendar.{IsRefDay}
use Rattle.og_base.specs.Set.{set_of}
use Rattle.og_join.specs.Joined.{joined}
use Rattle.og_ops.proofs.RowLemmas.{set_of-map}
use Rattle.og_rel.specs.Relations.{relation_at}
use Rattle.og_value.specs.Values.{row_at}
use Rattle.og_query.specs.Conditions.{truth}
use Rattle.og_query.proofs.QueryLemmas.{rows_ordered}
use Rattle.og_plan.specs.Meaning.{all_hold}
use Rattle.og_exec.specs.Images.{images}
use Rattle.og_exec.specs.Tables.{rows_on}
use Rattle.og_exec.proofs.SpanLemmas.{columns_told, condition_is, already_said, now_said}
use Rattle.og_exec.proofs.overlaps.columns_joined.Goals as goal

pub overlap_join_with-requires-clause-told : goal.overlap_join_with-requires-clause-told
overlap_join_with-requires-clause-told g c κs within =
    columns_told c.args.left.now c.args.right.now c.args.width c.args.place c.args.spans.now.pair.now c.args.spans.now.known (λ d row. all_hold d c.args.rest.now row)
    c.requires.within c.requires.place c.requires.known (c.if-say_overlap.ensures refl)

pub overlap_join_with-joined-requires-clause-told : goal.overlap_join_with-joined-requires-clause-told
overlap_join_with-joined-requires-clause-told g c κs within =
    let a = c.args.spans.now.pair.now.left in
    let b = c.args.place in
    columns_told c.args.left.now c.args.right.now c.args.width b c.args.spans.now.pair.now c.args.spans.now.known
    (λ d row. truth d row c.overlap_of-overlap.result && all_hold d c.args.rest.now row)
    c.requires.within c.requires.place c.requires.known
    (λ d row h. condition_is c.overlap_of-overlap.result a b c.overlap_of-overlap.ensures d row
    ∙ (and_parts (truth d row c.overlap_of-overlap.result) (all_hold d c.args.rest.now row) h).0)

pub returns-then-say_overlap-clause-law : goal.returns-then-say_overlap-clause-law
returns-then-say_overlap-clause-law g c =
    let rest = c.args.rest.now in
    let image = g.M.PairMap.image c.args.pair_map.now in
    IfOk-weaker c.overlap_join_with.result _ _
    (λ r law d day. law d day
    ∙ set_of-map rows_ordered (image d) (joined (λ x y. x ++ y) (λ x y. all_hold d rest (x ++ y)) (rows_on c.args.left.now d) (rows_on c.args.right.now d))
    ∙ ap (λ rows. images (image d) rows) (already_said d rest c.args.spans.now.pair.now.left c.args.place (c.if-say_overlap.ensures refl) (rows_on c.args.left.now d) (rows_on c.args.right.now d)))
    (subst (λ order. IfOk c.overlap_join_with.result (λ r. (d : ℤ) → IsRefDay d
    → relation_at order row_at r d
    ≡ set_of order (map (image d) (joined (λ x y. x ++ y) (λ x y. all_hold d rest (x ++ y)) (relation_at order row_at c.args.left.now d) (relation_at order row_at c.args.right.now d)))))
    (λ i x y. c.order_of_rows.ensures.order x y i) c.overlap_join_with.ensures.law)

pub returns-clause-law : goal.returns-clause-law
returns-clause-law g c =
    let rest = c.args.rest.now in
    let image = g.M.PairMap.image c.args.pair_map.now in
    let a = c.args.spans.now.pair.now.left in
    let b = c.args.place in
    IfOk-weaker c.overlap_join_with-joined.result _ _
    (λ r law d day. law d day
    ∙ set_of-map rows_ordered (image d) (joined (λ x y. x ++ y) (λ x y. truth d (x ++ y) c.overlap_of-overlap.result && all_hold d rest (x ++ y)) (rows_on c.args.left.now d) (rows_on c.args.right.now d))
    ∙ ap (λ rows. images (image d) rows) (now_said d c.overlap_of-overlap.result rest a b c.overlap_of-overlap.ensures (rows_on c.args.left.now d) (rows_on c.args.right.now d)))
    (subst (λ order. IfOk c.overlap_join_with-joined.result (λ r. (d : ℤ) → IsRefDay d
    → relation_at order row_at r d
    ≡ set_of order (map (image d) (joined (λ x y. x ++ y) (λ x y. truth d (x ++ y) c.overlap_of-overlap.result && all_hold d rest (x ++ y)) (relation_at order row_at c.args.left.now d) (relation_at order row_at c.args.right.now d)))))
    (λ i x y. c.order_of_rows.ensures.order x y i) c.overlap_join_with-joined.ensures.law)

use Rattle.std.proofs.Common.{◌≡◌, ◌+◌, ◌++◌, ◌&&◌, ℤ, Bool, Ordering, IfOk, map, refl, subst₂, ◌∙◌}
use Rattle.std.proofs.lemmas.Result.{IfOk-weaker}
use Rattle.og_base.specs.Calendar.{IsRefDay}
use Rattle.og_base.specs.Set.{set_of}
use Rattle.og_join.specs.Joined.{joined}
use Rattle.og_ops.proofs.RowLemmas.{set_of-map}
use Rattle.og_rel.specs.Relations.{relation_at}
use Rattle.og_value.specs.Values.{row_at}
use Rattle.og_plan.specs.Meaning.{all_hold}
use Rattle.og_query.specs.Queries.{Fixed}
use Rattle.og_query.proofs.QueryLemmas.{rows_ordered}
use Rattle.og_exec.specs.Keys.{have_one_key}
use Rattle.og_exec.specs.KeyLaws.{tie_apart}
use Rattle.og_exec.specs.Tables.{rows_on}
use Rattle.og_exec.proofs.SpanLemmas.{columns_told}
use Rattle.og_exec.proofs.keys.columns_joined.Goals as goal

pub returns-in_default-clause-law : goal.returns-in_default-clause-law
returns-in_default-clause-law g c =
    let image = g.M.PairMap.image c.args.pair_map.now in
    IfOk-weaker c.key_join_with.result _ _
    (λ r law d day. law d day
    ∙ set_of-map rows_ordered (image d) (joined (λ x y. x ++ y) (λ x y. have_one_key c.args.pairs.now x y && all_hold d c.args.rest.now (x ++ y)) (rows_on c.args.left.now d) (rows_on c.args.right.now d)))
    (subst₂ {A = Fixed → Fixed → Ordering} {B = Fixed → Fixed → Bool} (λ order tie. IfOk c.key_join_with.result (λ r. (d : ℤ) → IsRefDay d
    → relation_at order row_at r d
    ≡ set_of order (map (image d) (joined (λ x y. x ++ y) (λ x y. tie x y && all_hold d c.args.rest.now (x ++ y)) (relation_at order row_at c.args.left.now d) (relation_at order row_at c.args.right.now d)))))
    (λ i x y. c.order_of_rows.ensures.order x y i) (λ i x y. tie_apart c.args.pairs.now x y i) c.key_join_with.ensures.law)

pub key_span_join-requires-clause-told : goal.key_span_join-requires-clause-told
key_span_join-requires-clause-told g c κs within =
    columns_told c.args.left.now c.args.right.now c.first_width-width.result (c.first_width-width.result + c.in-Some.pair.right) c.in-Some.pair c.are_as_wide.result (λ d row. all_hold d c.args.rest.now row)
    c.in-Some.ensures.within refl c.are_as_wide.ensures c.in-Some.ensures.says

pub returns-clause-law : goal.returns-clause-law
returns-clause-law g c =
    let image = g.M.PairMap.image c.args.pair_map.now in
    IfOk-weaker c.key_span_join.result _ _
    (λ r law d day. law d day
    ∙ set_of-map rows_ordered (image d) (joined (λ x y. x ++ y) (λ x y. have_one_key c.args.pairs.now x y && all_hold d c.args.rest.now (x ++ y)) (rows_on c.args.left.now d) (rows_on c.args.right.now d)))
    (subst₂ {A = Fixed → Fixed → Ordering} {B = Fixed → Fixed → Bool} (λ order tie. IfOk c.key_span_join.result (λ r. (d : ℤ) → IsRefDay d
    → relation_at order row_at r d
    ≡ set_of order (map (image d) (joined (λ x y. x ++ y) (λ x y. tie x y && all_hold d c.args.rest.now (x ++ y)) (relation_at order row_at c.args.left.now d) (relation_at order row_at c.args.right.now d)))))
    (λ i x y. c.order_of_rows.ensures.order x y i) (λ i x y. tie_apart c.args.pairs.now x y i) c.key_span_join.ensures.law)

use Rattle.std.proofs.Common.{◌≡◌, ◌&&◌, ℤ, Bool, List, length, subst, sym, ap, ◌∙◌, arith}
use Rattle.std.specs.List.{All, Contains, list_any}
use Rattle.std.specs.Ordering.{eq_by_cmp}
use Rattle.std.proofs.lemmas.Bool.{and_parts}
use Rattle.std.proofs.lemmas.List.{length-map}
use Rattle.std.proofs.lemmas.List.Elements.{All-weaker}
use Rattle.og_base.specs.Calendar.{IsRefDay}
use Rattle.og_base.specs.Set.{IsExactOrder}
use Rattle.og_rel.specs.Relations.{present}
use Rattle.og_base.specs.Ranges.{Range}
use Rattle.og_ops.specs.Lending.{lent}
use Rattle.og_ops.specs.declared.semijoins.KeyedRow.{KeyedRow}
use Rattle.og_join.specs.declared.span_key.SpanKey.{SpanKey}
use Rattle.og_join.specs.Joined.{AreTold}
use Rattle.og_join.specs.SameKey.{AreHitsOf, HaveDayKeys, HaveSpans}
use Rattle.og_join.specs.Sought.{IsSought}
use Rattle.og_join.proofs.SoughtLemmas.{sought_alike}
use Rattle.og_join.proofs.SameKeyLemmas.{hits_law, hits_size, AreHitsOf-all, AreTold-among, AreTold-one, Tells}
use Rattle.og_join.proofs.keys.key_span_join.Goals as goal

pub returns-clause-law : goal.returns-clause-law
returns-clause-law g c =
    let at = g.R.Instant.meaning in
    let glued = g.R.Glue.glued in
    let image = g.M.PairMap.image c.args.pair_map.now in
    let holds = g.C.DayCond.holds c.args.cond.now in
    let keys = c.args.keys.now in
    let left = c.args.left.now in
    let ord = g.met.R.Fixed.Ord g.world.𝓛 g.world.𝓜 g.world.𝓡 ((λ s x. x), (λ x. x), (λ x. x), λ x. x) in
    let row = g.met.R.Instant g.world.𝓛 g.world.𝓜 g.world.𝓡 ((λ s x. x), (λ x. x), (λ x. x), λ x. x) in
    let o : IsExactOrder g.R.Fixed.Ord.cmp = record { total = ord.total; exact = row.exact } in
    let others = c.in_ok-others.others.items in
    let given = c.in_ok-right.right in
    let given_is : given ≡ others = c.in_ok-right.ensures ∙ c.as_slice.ensures.value in
    let lent_rows = c.in_ok-others.ensures.lent in
    let left_span = g.S.Spans.left_of c.args.spans.now in
    let right_span = g.S.Spans.right_of c.args.spans.now in
    let key_ord = g.met.Q.Key.Ord g.world.𝓛 g.world.𝓜 g.world.𝓡 ((λ s x. x), (λ x. x), (λ x. x), λ x. x) in
    let same_key : g.row.R-Fixed.Denot → g.row.R-Fixed.Denot → Bool = λ x y. eq_by_cmp g.Q.Key.Ord.cmp (g.Q.Keys.left_of keys x) (g.Q.Keys.right_of keys y) in
    let told : AreTold glued at holds left_span right_span left (lent given) =
    AreTold-among glued at holds left_span right_span left c.args.right.now (lent given) (subst (λ rows. All (Contains c.args.right.now) (lent rows)) (sym given_is) lent_rows.among) c.requires.told in
    let hits : AreHitsOf glued image same_key holds at left (lent given) c.in_ok-hits.hits.items =
    subst (λ rel. AreHitsOf glued image same_key holds at rel (lent given) c.in_ok-hits.hits.items) c.pairs.ensures
    (AreHitsOf-all at glued image same_key holds (lent given) (Tells glued at holds left_span right_span (lent given)) _
    (λ p made tells gives. gives (subst (HaveDayKeys at (g.Q.Keys.right_of keys)) (sym given_is) lent_rows.keys) (subst (HaveSpans right_span) (sym given_is) lent_rows.spans)
    (AreTold-one glued at holds left_span right_span (lent given) (p.row, p.days) tells))
    c.pairs.result.now c.in_ok-hits.hits.items (subst (All (Tells glued at holds left_span right_span (lent given))) (sym c.pairs.ensures) told) c.in_ok-hits.ensures) in
    let same : (d : ℤ) → IsRefDay d → All (λ x. (t : g.row.R-Fixed.Denot → Bool) → list_any (λ y. (same_key x y && holds d (glued x y)) && t y) (present at (lent given) d)
    ≡ list_any (λ y. (same_key x y && holds d (glued x y)) && t y) (present at c.args.right.now d)) (present at left d) =
    λ d r. All-weaker (λ x. IsSought g.Q.Key.Ord.cmp c.in_ok-sought.sought (g.Q.Keys.left_of keys x))
    (λ x. (t : g.row.R-Fixed.Denot → Bool) → list_any (λ y. (same_key x y && holds d (glued x y)) && t y) (present at (lent given) d)
    ≡ list_any (λ y. (same_key x y && holds d (glued x y)) && t y) (present at c.args.right.now d))
    (λ x is t. ap (λ rows. list_any (λ y. (same_key x y && holds d (glued x y)) && t y) (present at (lent rows) d)) given_is
    ∙ lent_rows.found (λ y. (same_key x y && holds d (glued x y)) && t y) d r
    (λ y e. sought_alike key_ord.total c.in_ok-sought.sought (g.Q.Keys.left_of keys x) (g.Q.Keys.right_of keys y)
    (and_parts (same_key x y) (holds d (glued x y)) (and_parts (same_key x y && holds d (glued x y)) (t y) e).0).0 is))
    (present at left d) (c.in_ok-sought.ensures d r) in
    λ d r. hits_law at glued image same_key holds (lent given) o left c.args.right.now c.of-2.result c.in_ok-hits.hits.items d r c.of-2.ensures (same d r) hits

pub returns-clause-size : goal.returns-clause-size
returns-clause-size g c =
    let at = g.R.Instant.meaning in
    let glued = g.R.Glue.glued in
    let image = g.M.PairMap.image c.args.pair_map.now in
    let holds = g.C.DayCond.holds c.args.cond.now in
    let keys = c.args.keys.now in
    let left = c.args.left.now in
    let given = c.in_ok-right.right in
    let given_is : given ≡ c.in_ok-others.others.items = c.in_ok-right.ensures ∙ c.as_slice.ensures.value in
    let lent_rows = c.in_ok-others.ensures.lent in
    let left_span = g.S.Spans.left_of c.args.spans.now in
    let right_span = g.S.Spans.right_of c.args.spans.now in
    let same_key : g.row.R-Fixed.Denot → g.row.R-Fixed.Denot → Bool = λ x y. eq_by_cmp g.Q.Key.Ord.cmp (g.Q.Keys.left_of keys x) (g.Q.Keys.right_of keys y) in
    let told : AreTold glued at holds left_span right_span left (lent given) =
    AreTold-among glued at holds left_span right_span left c.args.right.now (lent given) (subst (λ rows. All (Contains c.args.right.now) (lent rows)) (sym given_is) lent_rows.among) c.requires.told in
    let hits : AreHitsOf glued image same_key holds at left (lent given) c.in_ok-hits.hits.items =
    subst (λ rel. AreHitsOf glued image same_key holds at rel (lent given) c.in_ok-hits.hits.items) c.pairs.ensures
    (AreHitsOf-all at glued image same_key holds (lent given) (Tells glued at holds left_span right_span (lent given)) _
    (λ p made tells gives. gives (subst (HaveDayKeys at (g.Q.Keys.right_of keys)) (sym given_is) lent_rows.keys) (subst (HaveSpans right_span) (sym given_is) lent_rows.spans)
    (AreTold-one glued at holds left_span right_span (lent given) (p.row, p.days) tells))
    c.pairs.result.now c.in_ok-hits.hits.items (subst (All (Tells glued at holds left_span right_span (lent given))) (sym c.pairs.ensures) told) c.in_ok-hits.ensures) in
    let lend : KeyedRow g.row.R.Denot (SpanKey g.row.Q-Key.Denot) → g.row.R.Denot × List Range = λ s. (s.row.now, s.days.now) in
    hits_size at glued image same_key holds (lent given) left c.of-2.result c.in_ok-hits.hits.items (length c.args.right.now) c.of-2.ensures
    (omega (arith, length-map given lend, ap length given_is, lent_rows.size)) hits

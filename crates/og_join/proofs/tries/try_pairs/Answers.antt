use Rattle.std.proofs.Common.{◌≡◌, ◌++◌, ℕ, List, take, refl, subst, ap, rules, arith, ◌∙◌}
use Rattle.std.proofs.lemmas.List.{append_assoc, take_all}
use Rattle.og_par.specs.Phase.{MadeOfEach}
use Rattle.og_par.proofs.PhaseLemmas.{MadeOfEach-more}
use Rattle.og_rel.specs.declared.pair.Pair.{Pair}
use Rattle.og_join.specs.Tried.{IsMadeOf, rows_meet}
use Rattle.og_join.proofs.tries.try_pairs.Goals as goal

pub pairs-preserved : goal.pairs-preserved
pairs-preserved g c =
    let sides = c.args.sides.now in
    let gives : ℕ × ℕ → List (Pair g.row.R.Denot) → Type 0 = λ places. IsMadeOf (g.M.PairMap.image sides.pair_map.now) g.R.Instant.meaning (rows_meet g.R.Glue.glued g.R.Instant.meaning (g.C.DayCond.holds sides.cond.now) sides.left.now sides.right.now places.0 places.1) in
    let before = c.pairs.invariant in
    let made = c.in_ok-try_rows.ensures in (
      before.0 ++ made.0,
      MadeOfEach-more gives c.args.pairs.now c.pairs.places-index _ made.0 before.0 (before.0 ++ made.0) c.pairs-test.true (search rules) refl made.1 before.1,
      made.2 ∙ ap (λ l. l ++ made.0) before.2 ∙ append_assoc c.args.out.now.items before.0 made.0,
    )

pub returns : goal.returns
returns g c =
    let sides = c.args.sides.now in
    let gives : ℕ × ℕ → List (Pair g.row.R.Denot) → Type 0 = λ places. IsMadeOf (g.M.PairMap.image sides.pair_map.now) g.R.Instant.meaning (rows_meet g.R.Glue.glued g.R.Instant.meaning (g.C.DayCond.holds sides.cond.now) sides.left.now sides.right.now places.0 places.1) in
    let made = c.pairs.invariant in
    let all : take c.pairs.places-index c.args.pairs.now ≡ c.args.pairs.now = take_all c.pairs.places-index c.args.pairs.now (omega (arith, c.pairs-test.false)) in
    (made.0, subst (λ xs. MadeOfEach gives xs made.0) all made.1, made.2)

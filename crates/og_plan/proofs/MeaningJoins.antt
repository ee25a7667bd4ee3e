-- A join has the rows of the one input joined to those of the other where all of its parts hold.
use Rattle.std.proofs.Common.{◌≡◌, ◌++◌, ◌&&◌, ℕ, ℤ, Bool, true, not, List, [], ◌∷◌, is_some, length, map, filter, refl, sym, ap, ◌∙◌}
use Rattle.std.specs.List.{flat_map, list_all, list_any}
use Rattle.og_base.proofs.SetMembers.{list_any-map, list_any-filter, list_any-set_of}
use Rattle.og_rel.proofs.AlgebraLemmas.{list_any-flat_map}
use Rattle.og_value.specs.declared.kind.Kind.{Kind}
use Rattle.og_query.specs.Conditions.{truth}
use Rattle.og_query.specs.Queries.{Fixed, Named}
use Rattle.og_query.specs.declared.condition.Cond.{Cond}
use Rattle.og_query.proofs.QueryLemmas.{rows_ordered}
use Rattle.og_plan.specs.declared.plan.ColPair.{ColPair}
use Rattle.og_plan.specs.declared.plan.Plan.{Plan}
use Rattle.og_plan.specs.declared.plan.Plan.TheVariants.{Product}
use Rattle.og_plan.specs.Joins.{listed, key_of, overlap_of, filtered, overlap_joined, key_joined, joined_by}
use Rattle.og_plan.specs.Meaning.{all_hold, matches, are_equal, do_overlap, node_rows, plan_rows}
use Rattle.og_plan.proofs.PlanEquations.{fold-Filter, fold-Product, fold-KeyJoin, fold-OverlapJoin}
use Rattle.og_plan.proofs.MeaningKeys.{key_told, overlap_told, found_and_rest, first_adds_nothing}

-- of some joined row: of some row of the one list joined to some of the other, where they are joined
pub any_joined : (t : Fixed → Bool) (lefts rights : List Fixed) → list_any t (flat_map (λ l. map (λ r. l ++ r) rights) lefts) ≡ list_any (λ l. list_any (λ r. t (l ++ r)) rights) lefts
any_joined t lefts rights =
    list_any-flat_map t (λ l. map (λ r. l ++ r) rights) lefts ∙ (λ i. list_any (λ l. list_any-map t (λ r. l ++ r) rights i) lefts)

-- of some match: of some row of the one list joined to some of the other, where they meet
any_match : (t : Fixed → Bool) (meets : Fixed → Fixed → Bool) (lefts rights : List Fixed)
    → list_any t (matches meets lefts rights) ≡ list_any (λ l. list_any (λ r. meets l r && t (l ++ r)) rights) lefts
any_match t meets lefts rights =
    list_any-set_of rows_ordered.exact t (flat_map (λ l. map (λ r. l ++ r) (filter (meets l) rights)) lefts)
    ∙ list_any-flat_map t (λ l. map (λ r. l ++ r) (filter (meets l) rights)) lefts
    ∙ (λ i. list_any (λ l. (list_any-map t (λ r. l ++ r) (filter (meets l) rights) ∙ list_any-filter (λ r. t (l ++ r)) (meets l) rights) i) lefts)

module _ (d : ℤ) (rows : Named) where
  -- of some row of a filtered plan: of some row of the plan for which all parts hold
  pub any_filtered : (t : Fixed → Bool) (plan : Plan) (parts : List Cond)
      → list_any t (plan_rows d rows (filtered plan parts)) ≡ list_any (λ row. all_hold d parts row && t row) (plan_rows d rows plan)
  any_filtered t plan [] = refl
  any_filtered t plan (part ∷ parts) =
      ap (list_any t) (fold-Filter (node_rows d rows) plan (part ∷ parts)) ∙ list_any-filter t (all_hold d (part ∷ parts)) (plan_rows d rows plan)

  -- where two rows meet that are joined by these keys, else by these periods
  abbrev meet_by : List ColPair → List ColPair → List Cond → List Cond → Fixed → Fixed → Bool
  meet_by (key ∷ keys) periods rest parts l r = list_all (are_equal l r) (key ∷ keys) && all_hold d rest (l ++ r)
  meet_by [] (pair ∷ pairs) rest parts l r = do_overlap l r pair && all_hold d parts (l ++ r)
  meet_by [] [] rest parts l r = all_hold d parts (l ++ r)

  -- of some row of a join: of some row of the one input joined to some of the other, where they meet
  any_met : (t : Fixed → Bool) (left right : Plan) (keys periods : List ColPair) (rest parts : List Cond)
      → list_any t (plan_rows d rows (key_joined left right keys rest (overlap_joined left right periods parts)))
      ≡ list_any (λ l. list_any (λ r. meet_by keys periods rest parts l r && t (l ++ r)) (plan_rows d rows right)) (plan_rows d rows left)
  any_met t left right (key ∷ keys) periods rest parts =
      ap (list_any t) (fold-KeyJoin (node_rows d rows) left right (key ∷ keys) rest)
      ∙ any_match t (λ l r. list_all (are_equal l r) (key ∷ keys) && all_hold d rest (l ++ r)) (plan_rows d rows left) (plan_rows d rows right)
  any_met t left right [] (pair ∷ pairs) rest parts =
      ap (list_any t) (fold-OverlapJoin (node_rows d rows) left right pair parts)
      ∙ any_match t (λ l r. do_overlap l r pair && all_hold d parts (l ++ r)) (plan_rows d rows left) (plan_rows d rows right)
  any_met t left right [] [] rest parts =
      any_filtered t (Product left right) parts
      ∙ ap (list_any (λ row. all_hold d parts row && t row)) (fold-Product (node_rows d rows) left right)
      ∙ any_match (λ row. all_hold d parts row && t row) (λ l r. true) (plan_rows d rows left) (plan_rows d rows right)

  module _ (kinds : List Kind) (start : ℕ) (parts : List Cond) where
    -- the keys that are found in the parts
    abbrev keys_in : List ColPair
    keys_in = flat_map (λ part. listed (key_of kinds start part)) parts

    -- the pairs of periods
    abbrev periods_in : List ColPair
    periods_in = flat_map (λ part. listed (overlap_of start part)) parts

    -- the parts in which no key is found
    abbrev without_key : List Cond
    without_key = filter (λ part. not (is_some (key_of kinds start part))) parts

    -- where two rows meet that are joined by the parts
    abbrev pub meet : Fixed → Fixed → Bool
    meet = meet_by keys_in periods_in without_key parts

    -- of some row of a join by the parts
    pub any_of_join : (t : Fixed → Bool) (left right : Plan)
        → list_any t (plan_rows d rows (joined_by kinds start left right parts)) ≡ list_any (λ l. list_any (λ r. meet l r && t (l ++ r)) (plan_rows d rows right)) (plan_rows d rows left)
    any_of_join t left right = any_met t left right keys_in periods_in without_key parts

  -- two rows meet where all parts hold of them both together
  pub meet_told : (kinds : List Kind) (parts : List Cond) (l r : Fixed) → meet kinds (length l) parts l r ≡ all_hold d parts (l ++ r)
  meet_told kinds parts l r = at (keys_in kinds (length l) parts) (periods_in kinds (length l) parts) refl refl
    where
      at : (keys periods : List ColPair) → keys_in kinds (length l) parts ≡ keys → periods_in kinds (length l) parts ≡ periods
          → meet_by keys periods (without_key kinds (length l) parts) parts l r ≡ all_hold d parts (l ++ r)
      at (key ∷ keys) periods is other =
          ap (λ ks. list_all (are_equal l r) ks && all_hold d (without_key kinds (length l) parts) (l ++ r)) (sym is)
          ∙ found_and_rest (key_of kinds (length l)) (are_equal l r) (truth d (l ++ r)) (key_told d kinds l r) parts
      at [] (pair ∷ pairs) is other =
          first_adds_nothing (overlap_of (length l)) (do_overlap l r) (truth d (l ++ r)) (overlap_told d kinds l r) parts pair pairs other
      at [] [] is other = refl

-- A query that fits its tables has what its plan takes for granted.
use Rattle.std.proofs.Common.{◌≡◌, ◌++◌, ◌<◌, ◌≤◌, ℕ, true, List, [], ◌∷◌, Option, Some, None, length, map, refl, sym, subst, ◌∙◌}
use Rattle.std.specs.List.{All, AllByRecursion, flat_map, list_all}
use Rattle.std.proofs.lemmas.Bool.{and_parts}
use Rattle.std.proofs.lemmas.List.Elements.{All-from_recursion, All-weaker, All-append, All-map, All-nil, recursion_from_All}
use Rattle.std.proofs.lemmas.Option.{slice_get_within}
use Rattle.og_value.specs.declared.kind.Kind.{Kind}
use Rattle.og_value.specs.declared.kind.Kind.TheVariants as k
use Rattle.og_value.specs.declared.schema.Column.{Column}
use Rattle.og_value.specs.declared.term.Func.{Func}
use Rattle.og_query.specs.Fits.{Schemas, core_kinds, IsFitSemi, IsFitCore, IsFitRest, IsFitQuery}
use Rattle.og_query.specs.Kinds.{with_kind, all_kinds, call_kind_of, kind_in, are_comparable, is_date, is_period, fits}
use Rattle.og_query.specs.declared.expression.Expr.{Expr}
use Rattle.og_query.specs.declared.condition.Cond.{Cond}
use Rattle.og_query.specs.declared.query.Core.{Core}
use Rattle.og_query.specs.declared.query.Query.{Query}
use Rattle.og_query.specs.declared.query.Rest.{Rest}
use Rattle.og_query.proofs.Equations.{induction-Expr, induction-Cond, fold-Column, fold-Lit, fold-Not, fold-Compare, fold-Relate, fold-Empty, fold-Contains, kind_in-Column, kind_in-Call, fits-And, fits-Or, fits-Not, fits-Compare, fits-Relate, fits-Empty, fits-Contains}
use Rattle.og_plan.specs.Parts.{expr_places_step, expr_places, places_step, places_of}
use Rattle.og_plan.specs.PlanOf.{HaveTables}
use Rattle.og_plan.specs.Premises.{AreInRange, IsInRange, named_columns, core_tables, query_tables}
use Rattle.og_plan.proofs.MeaningPlaces.{all_both}
use Rattle.og_plan.proofs.PartEquations.{expr_places-Call, places_of-And, places_of-Or}

-- there is a kind
abbrev IsThere : Option Kind → Type 0
IsThere asked = (kind : Kind) × (asked ≡ Some kind)

-- a day is there
date_there : (asked : Option Kind) → is_date asked ≡ true → IsThere asked
date_there (Some kind) e = (kind, refl)
date_there None e = cc

-- a period is there
period_there : (asked : Option Kind) → is_period asked ≡ true → IsThere asked
period_there (Some kind) e = (kind, refl)
period_there None e = cc

-- both of what is compared are there
both_there : (left right : Option Kind) → are_comparable left right ≡ true → IsThere left × IsThere right
both_there (Some left) (Some right) e = ((left, refl), (right, refl))
both_there (Some k.Int) None e = cc
both_there (Some k.Text) None e = cc
both_there (Some k.Date) None e = cc
both_there (Some k.Period) None e = cc
both_there None right e = cc

module _ (kinds : List Kind) where
  -- the place is one of a row with these kinds
  abbrev IsPlace : ℕ → Type 0
  IsPlace place = place < length kinds

  -- an expression that has a kind names such places alone
  abbrev IsWithin : Expr → Type 0
  IsWithin expr = IsThere (kind_in kinds expr) → AllByRecursion IsPlace (expr_places expr)

  -- and so do arguments that have kinds
  args_within : (args : List Expr) → AllByRecursion IsWithin args → (found : List Kind) → all_kinds (map (kind_in kinds) args) ≡ Some found → AllByRecursion IsPlace (flat_map expr_places args)
  args_within [] each found e = tt
  args_within (arg ∷ args) each found e = first (kind_in kinds arg) (all_kinds (map (kind_in kinds) args)) (each.0) (args_within args each.1) found e
    where
      first : (one : Option Kind) (more : Option (List Kind)) → (IsThere one → AllByRecursion IsPlace (expr_places arg)) → ((found : List Kind) → more ≡ Some found → AllByRecursion IsPlace (flat_map expr_places args))
          → (found : List Kind) → with_kind one more ≡ Some found → AllByRecursion IsPlace (expr_places arg ++ flat_map expr_places args)
      first (Some one) (Some more) here there found e = all_both IsPlace (expr_places arg) (flat_map expr_places args) (here (one, refl)) (there more refl)
      first (Some one) None here there found e = cc
      first None more here there found e = cc

  -- a call that has a kind has arguments that have some
  args_there : (func : Func) (found : Option (List Kind)) → IsThere (call_kind_of func found) → (kinds : List Kind) × (found ≡ Some kinds)
  args_there func (Some found) there = (found, refl)
  args_there func None there = cc (there.1)

  expr_within : (expr : Expr) → IsWithin expr
  expr_within =
      induction-Expr IsWithin
      (λ place there. subst (AllByRecursion IsPlace) (sym (fold-Column expr_places_step place)) (slice_get_within kinds place there.0 (sym (kind_in-Column kinds place) ∙ there.1), tt))
      (λ value there. subst (AllByRecursion IsPlace) (sym (fold-Lit expr_places_step value)) tt)
      (λ func args each there.
      let found = args_there func (all_kinds (map (kind_in kinds) args)) (there.0, sym (kind_in-Call kinds func args) ∙ there.1) in
      subst (AllByRecursion IsPlace) (sym (expr_places-Call func args)) (args_within args each found.0 found.1))

  -- two expressions that have kinds name such places alone
  two_within : (left right : Expr) → IsThere (kind_in kinds left) → IsThere (kind_in kinds right) → AllByRecursion IsPlace (expr_places left ++ expr_places right)
  two_within left right one other = all_both IsPlace (expr_places left) (expr_places right) (expr_within left one) (expr_within right other)

  -- a condition that fits names such places alone
  abbrev IsFitWithin : Cond → Type 0
  IsFitWithin cond = fits kinds cond ≡ true → AllByRecursion IsPlace (places_of cond)

  -- and so do conditions that fit
  all_within : (conds : List Cond) → AllByRecursion IsFitWithin conds → list_all (fits kinds) conds ≡ true → AllByRecursion IsPlace (flat_map places_of conds)
  all_within [] each fit = tt
  all_within (cond ∷ conds) each fit =
      let both = and_parts (fits kinds cond) (list_all (fits kinds) conds) fit in
      all_both IsPlace (places_of cond) (flat_map places_of conds) (each.0 both.0) (all_within conds each.1 both.1)

  cond_within : (cond : Cond) → IsFitWithin cond
  cond_within =
      induction-Cond IsFitWithin
      (λ conds each fit. subst (AllByRecursion IsPlace) (sym (places_of-And conds)) (all_within conds each (sym (fits-And kinds conds) ∙ fit)))
      (λ conds each fit. subst (AllByRecursion IsPlace) (sym (places_of-Or conds)) (all_within conds each (sym (fits-Or kinds conds) ∙ fit)))
      (λ cond within fit. subst (AllByRecursion IsPlace) (sym (fold-Not places_step cond)) (within (sym (fits-Not kinds cond) ∙ fit)))
      (λ op left right fit.
      let both = both_there (kind_in kinds left) (kind_in kinds right) (sym (fits-Compare kinds op left right) ∙ fit) in
      subst (AllByRecursion IsPlace) (sym (fold-Compare places_step op left right)) (two_within left right both.0 both.1))
      (λ pred left right fit.
      let both = and_parts (is_period (kind_in kinds left)) (is_period (kind_in kinds right)) (sym (fits-Relate kinds pred left right) ∙ fit) in
      subst (AllByRecursion IsPlace) (sym (fold-Relate places_step pred left right))
      (two_within left right (period_there (kind_in kinds left) both.0) (period_there (kind_in kinds right) both.1)))
      (λ period fit. subst (AllByRecursion IsPlace) (sym (fold-Empty places_step period)) (expr_within period (period_there (kind_in kinds period) (sym (fits-Empty kinds period) ∙ fit))))
      (λ period day fit.
      let both = and_parts (is_period (kind_in kinds period)) (is_date (kind_in kinds day)) (sym (fits-Contains kinds period day) ∙ fit) in
      subst (AllByRecursion IsPlace) (sym (fold-Contains places_step period day))
      (two_within period day (period_there (kind_in kinds period) both.0) (date_there (kind_in kinds day) both.1)))

-- each core of a query that fits has a table
pub fit_have_tables : (schemas : Schemas) (query : Query) → IsFitQuery schemas query → HaveTables query
fit_have_tables schemas query fit = (fit.first.some, All-weaker (IsFitRest schemas query.first) (λ rest. 1 ≤ length rest.core.tables) (λ rest h. h.core.some) query.rest fit.rest)

-- and a condition that names columns of its row alone
pub fit_are_in_range : (schemas : Schemas) (query : Query) → IsFitQuery schemas query → AreInRange query
fit_are_in_range schemas query fit = (core_in_range query.first fit.first, All-weaker (IsFitRest schemas query.first) (λ rest. IsInRange rest.core) (λ rest h. core_in_range rest.core h.core) query.rest fit.rest)
  where
    core_in_range : (core : Core) → IsFitCore schemas core → IsInRange core
    core_in_range core fit = All-from_recursion (IsPlace (core_kinds core)) (places_of core.cond) (cond_within (core_kinds core) core.cond fit.cond)

module _ (schemas : Schemas) where
  -- the name has the columns
  abbrev IsNamed : List ℕ × List Column → Type 0
  IsNamed table = schemas table.0 ≡ Some table.1

  -- the tables of a core that fits are as they are named
  core_named : (core : Core) → IsFitCore schemas core → All IsNamed (core_tables core)
  core_named core fit =
      All-append IsNamed (map named_columns core.tables) (map (λ semi. named_columns semi.table) core.semis)
      (All-map IsNamed named_columns core.tables fit.tables)
      (All-map IsNamed (λ semi. named_columns semi.table) core.semis (All-weaker (IsFitSemi schemas (core_kinds core)) (λ semi. IsNamed (named_columns semi.table)) (λ semi h. h.table) core.semis fit.semis))

  -- and so are those of further cores
  rest_named : (rests : List Rest) → AllByRecursion (λ rest. All IsNamed (core_tables rest.core)) rests → All IsNamed (flat_map (λ rest. core_tables rest.core) rests)
  rest_named [] each = All-nil IsNamed
  rest_named (rest ∷ rests) each = All-append IsNamed (core_tables rest.core) (flat_map (λ rest. core_tables rest.core) rests) each.0 (rest_named rests each.1)

  -- the tables of a query that fits are as they are named
  pub fit_are_named : (query : Query) → IsFitQuery schemas query → All IsNamed (query_tables query)
  fit_are_named query fit =
      All-append IsNamed (core_tables query.first) (flat_map (λ rest. core_tables rest.core) query.rest) (core_named query.first fit.first)
      (rest_named query.rest (recursion_from_All (λ rest. All IsNamed (core_tables rest.core)) query.rest (All-weaker (IsFitRest schemas query.first) (λ rest. All IsNamed (core_tables rest.core)) (λ rest h. core_named rest.core h.core) query.rest fit.rest)))

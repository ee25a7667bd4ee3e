-- The rows of a plan have the kinds of its shape, where the tables are there.
use Rattle.std.proofs.Common.{◌≡◌, ◌++◌, ◌+◌, ◌&&◌, ℕ, ℤ, Bool, true, false, List, [], ◌∷◌, Option, Some, None, length, map, if◌then◌else◌, refl, sym, ap, ap₂, subst, ◌∙◌}
use Rattle.std.specs.List.{All, list_all}
use Rattle.std.proofs.lemmas.List.{map-append, length-append}
use Rattle.std.proofs.lemmas.Option.{same_Some}
use Rattle.std.proofs.lemmas.List.Elements.{All-nil, All-cons, All-head, All-tail, All-filter}
use Rattle.og_base.specs.Ranges.{holds_day}
use Rattle.og_base.proofs.SetLemmas.{All-set_of}
use Rattle.og_rel.specs.Relations.{present}
use Rattle.og_value.specs.Cells.{kind_of}
use Rattle.og_value.specs.Order.{row_order}
use Rattle.og_value.specs.Values.{value_at, row_at}
use Rattle.og_value.specs.declared.kind.Kind.{Kind}
use Rattle.og_value.specs.declared.schema.Column.{Column}
use Rattle.og_value.specs.declared.value.Value.{Value}
use Rattle.og_value.specs.declared.value.Value.TheVariants as v
use Rattle.og_query.specs.Fits.{IsFitRow}
use Rattle.og_query.specs.Kinds.{fixed_kind, kinds_of}
use Rattle.og_query.specs.Queries.{Fixed}
use Rattle.og_plan.specs.Meaning.{all_hold, are_equal, do_overlap, matches, node_rows, plan_rows}
use Rattle.og_plan.specs.Shapes.{both_kinds, shape_step, plan_kinds, scans_step, scans_of}
use Rattle.og_plan.specs.declared.plan.Plan.{Plan, fold-Plan}
use Rattle.og_plan.proofs.PlanEquations.{induction-Plan, fold-Scan, fold-Filter, fold-Product, fold-KeyJoin, fold-OverlapJoin, fold-Project, fold-Combine, fold-Semis}
use Rattle.og_exec.specs.Tables.{Relation, Relations, rows_or_none, rows_at, IsThere, AreThere}
use Rattle.og_exec.proofs.MatchLemmas.{all_matches}

-- what holds of each member of two lists holds of each of the first
pub all_first : {A : Type 0} (P : A → Type 0) (xs ys : List A) → All P (xs ++ ys) → All P xs
all_first P [] ys all = All-nil P
all_first P (x ∷ xs) ys all = All-cons P x xs (All-head P x (xs ++ ys) all) (all_first P xs ys (All-tail P x (xs ++ ys) all))

-- and of each of the second
pub all_second : {A : Type 0} (P : A → Type 0) (xs ys : List A) → All P (xs ++ ys) → All P ys
all_second P [] ys all = all
all_second P (x ∷ xs) ys all = all_second P xs ys (All-tail P x (xs ++ ys) all)

-- the value of each day has the kind of the value
kind_at_day : (value : Value) (d : ℤ) → fixed_kind (value_at value d) ≡ kind_of value
kind_at_day (v.Int n) d = refl
kind_at_day (v.Text t) d = refl
kind_at_day (v.Point p) d = refl
kind_at_day (v.Period i) d = refl

-- and the row of each day the kinds of the row
kinds_at_day : (row : List Value) (d : ℤ) → map fixed_kind (row_at row d) ≡ map kind_of row
kinds_at_day [] d = refl
kinds_at_day (value ∷ row) d = ap₂ (λ k ks. k ∷ ks) (kind_at_day value d) (kinds_at_day row d)

-- a row of one day has these kinds
abbrev pub HasKinds : List Kind → Fixed → Type 0
HasKinds kinds row = map fixed_kind row ≡ kinds

-- the rows of a day of rows that fit columns have their kinds
present_fit : (columns : List Column) (d : ℤ) (rel : Relation) → All (λ p. IsFitRow columns p.0) rel → All (HasKinds (kinds_of columns)) (present row_at rel d)
present_fit columns d [] fit = All-nil (HasKinds (kinds_of columns))
present_fit columns d (p ∷ rel) fit =
    with_first (holds_day p.1 d) (kinds_at_day p.0 d ∙ All-head (λ p. IsFitRow columns p.0) p rel fit) (present_fit columns d rel (All-tail (λ p. IsFitRow columns p.0) p rel fit))
  where
    with_first : (h : Bool) → HasKinds (kinds_of columns) (row_at p.0 d) → All (HasKinds (kinds_of columns)) (present row_at rel d)
        → All (HasKinds (kinds_of columns)) (if h then row_at p.0 d ∷ present row_at rel d else present row_at rel d)
    with_first true first more = All-cons (HasKinds (kinds_of columns)) (row_at p.0 d) (present row_at rel d) first more
    with_first false first more = more

-- a table that is there has rows of the kinds of its columns
table_fits : (named : Relations) (name : List ℕ) (columns : List Column) (d : ℤ) → IsThere named (name, columns) → All (HasKinds (kinds_of columns)) (rows_at named d name)
table_fits named name columns d there =
    subst (λ o. All (HasKinds (kinds_of columns)) (rows_or_none o d)) (sym there.1)
    (All-set_of row_order (HasKinds (kinds_of columns)) (present row_at there.0 d) (present_fit columns d there.0 there.2))

-- the shape of a plan
abbrev shape : Plan → Option (List Kind) × Bool
shape = fold-Plan (Option (List Kind) × Bool) shape_step

-- the kinds of two inputs
pub record BothKinds (left right : Option (List Kind)) (kinds : List Kind) : Type 0 where
  pub first : List Kind
  pub second : List Kind
  pub is_first : left ≡ Some first
  pub is_second : right ≡ Some second
  pub joined : first ++ second ≡ kinds

-- where both inputs together have kinds, each has some
both_of : (left right : Option (List Kind)) (kinds : List Kind) → both_kinds left right ≡ Some kinds → BothKinds left right kinds
both_of (Some l) (Some r) kinds e = record { first = l; second = r; is_first = refl; is_second = refl; joined = same_Some (l ++ r) kinds e }
both_of (Some l) None kinds e = cc
both_of None (Some r) kinds e = cc
both_of None None kinds e = cc

-- a row of both has as many values as a row of each
pub width_of_both : (left right : Option (List Kind)) (kinds : List Kind) (m n : ℕ) → both_kinds left right ≡ Some kinds
    → ((ks : List Kind) → left ≡ Some ks → m ≡ length ks) → ((ks : List Kind) → right ≡ Some ks → n ≡ length ks) → m + n ≡ length kinds
width_of_both left right kinds m n e wide other =
    let both = both_of left right kinds e in
    ap₂ (λ i j. i + j) (wide both.first both.is_first) (other both.second both.is_second) ∙ sym (length-append both.first both.second) ∙ ap length both.joined

module _ (named : Relations) (d : ℤ) where
  -- the rows of the plan of that day
  abbrev pub day_rows : Plan → List Fixed
  day_rows = plan_rows d (rows_at named d)

  -- where the plan has kinds and its tables are there, its rows have these kinds
  abbrev pub KeepsKinds : Plan → Type 0
  KeepsKinds plan = (kinds : List Kind) → AreThere named (scans_of plan) → plan_kinds plan ≡ Some kinds → All (HasKinds kinds) (day_rows plan)

  -- two rows joined have the kinds of both
  joined_kinds : (l r kinds : List Kind) → l ++ r ≡ kinds → (x y : Fixed) → HasKinds l x → HasKinds r y → HasKinds kinds (x ++ y)
  joined_kinds l r kinds e x y a b = map-append fixed_kind x y ∙ ap₂ (λ ks ls. ks ++ ls) a b ∙ e

  -- matched rows have the kinds of both inputs
  matched : (meets : Fixed → Fixed → Bool) (left right : Plan) → KeepsKinds left → KeepsKinds right → (kinds : List Kind)
      → AreThere named (scans_of left ++ scans_of right) → both_kinds (plan_kinds left) (plan_kinds right) ≡ Some kinds
      → All (HasKinds kinds) (matches meets (day_rows left) (day_rows right))
  matched meets left right keep_left keep_right kinds there e =
      let both = both_of (plan_kinds left) (plan_kinds right) kinds e in
      all_matches (HasKinds both.first) (HasKinds both.second) (HasKinds kinds) (joined_kinds both.first both.second kinds both.joined) meets (day_rows left) (day_rows right)
      (keep_left both.first (all_first (IsThere named) (scans_of left) (scans_of right) there) both.is_first)
      (keep_right both.second (all_second (IsThere named) (scans_of left) (scans_of right) there) both.is_second)

  -- the rows of every plan have its kinds
  pub keeps_kinds : (plan : Plan) → KeepsKinds plan
  keeps_kinds =
      induction-Plan KeepsKinds
      (λ name schema kinds there e.
      subst (All (HasKinds kinds)) (sym (fold-Scan (node_rows d (rows_at named d)) name schema))
      (subst (λ ks. All (HasKinds ks) (rows_at named d name)) (same_Some (kinds_of schema) kinds (sym (ap (λ s. s.0) (fold-Scan shape_step name schema)) ∙ e))
      (table_fits named name schema d (All-head (IsThere named) (name, schema) [] (subst (AreThere named) (fold-Scan scans_step name schema) there)))))
      (λ input parts keep kinds there e.
      subst (All (HasKinds kinds)) (sym (fold-Filter (node_rows d (rows_at named d)) input parts))
      (All-filter (all_hold d parts) (HasKinds kinds) (day_rows input)
      (keep kinds (subst (AreThere named) (fold-Filter scans_step input parts) there) (sym (ap (λ s. s.0) (fold-Filter shape_step input parts)) ∙ e))))
      (λ left right keep_left keep_right kinds there e.
      subst (All (HasKinds kinds)) (sym (fold-Product (node_rows d (rows_at named d)) left right))
      (matched (λ l r. true) left right keep_left keep_right kinds (subst (AreThere named) (fold-Product scans_step left right) there)
      (sym (ap (λ s. s.0) (fold-Product shape_step left right)) ∙ e)))
      (λ left right pairs rest keep_left keep_right kinds there e.
      subst (All (HasKinds kinds)) (sym (fold-KeyJoin (node_rows d (rows_at named d)) left right pairs rest))
      (matched (λ l r. list_all (are_equal l r) pairs && all_hold d rest (l ++ r)) left right keep_left keep_right kinds (subst (AreThere named) (fold-KeyJoin scans_step left right pairs rest) there)
      (sym (ap (λ s. s.0) (fold-KeyJoin shape_step left right pairs rest)) ∙ e)))
      (λ left right pair rest keep_left keep_right kinds there e.
      subst (All (HasKinds kinds)) (sym (fold-OverlapJoin (node_rows d (rows_at named d)) left right pair rest))
      (matched (λ l r. do_overlap l r pair && all_hold d rest (l ++ r)) left right keep_left keep_right kinds (subst (AreThere named) (fold-OverlapJoin scans_step left right pair rest) there)
      (sym (ap (λ s. s.0) (fold-OverlapJoin shape_step left right pair rest)) ∙ e)))
      (λ input items keep kinds there e. no_kinds kinds (sym (ap (λ s. s.0) (fold-Project shape_step input items)) ∙ e))
      (λ op left right keep_left keep_right kinds there e. no_kinds kinds (sym (ap (λ s. s.0) (fold-Combine shape_step op left right)) ∙ e))
      (λ input semis keep kinds there e. no_kinds kinds (sym (ap (λ s. s.0) (fold-Semis shape_step input semis)) ∙ e))
    where
      no_kinds : {G : Type 0} (kinds : List Kind) → None ≡ Some kinds → G
      no_kinds kinds e = cc

-- An expression that fits the kinds of a row has a value of its kind.
use Rattle.std.proofs.Common.{◌≡◌, ℕ, ℤ, zero, suc, List, [], ◌∷◌, Option, Some, None, map, slice_get, slice_index_or, refl, ap, sym, ◌∙◌}
use Rattle.std.specs.List.{AllByRecursion}
use Rattle.og_value.specs.Cells.{kind_of}
use Rattle.og_value.specs.Values.{value_at}
use Rattle.og_value.specs.declared.kind.Kind.{Kind}
use Rattle.og_value.specs.declared.term.Func.{Func}
use Rattle.og_value.specs.declared.term.Func.TheVariants as func
use Rattle.og_value.specs.declared.value.FixedValue.{FixedValue}
use Rattle.og_value.specs.declared.value.FixedValue.TheVariants as f
use Rattle.og_value.specs.declared.value.Value.{Value}
use Rattle.og_value.specs.declared.value.Value.TheVariants as v
use Rattle.og_query.specs.Expressions.{no_value, call_of, meaning}
use Rattle.og_query.specs.Kinds.{fixed_kind, call_kind, call_kind_of, all_kinds, with_kind, kind_in}
use Rattle.og_query.specs.declared.expression.Expr.{Expr}
use Rattle.og_query.proofs.Equations.{induction-Expr, meaning-Column, meaning-Lit, meaning-Call, kind_in-Column, kind_in-Lit, kind_in-Call}

-- the value at a place has the kind at that place
value_fits : (row : List FixedValue) (place : ℕ) (kind : Kind) → slice_get (map fixed_kind row) place ≡ Some kind → fixed_kind (slice_index_or row place no_value) ≡ kind
value_fits [] place kind e = cc
value_fits (x ∷ row) zero kind e = cc
value_fits (x ∷ row) (suc place) kind e = value_fits row place kind e

-- the value of a literal on a day has the kind of the literal
literal_fits : (value : Value) (d : ℤ) (kind : Kind) → Some (kind_of value) ≡ Some kind → fixed_kind (value_at value d) ≡ kind
literal_fits (v.Int n) d kind e = cc
literal_fits (v.Text t) d kind e = cc
literal_fits (v.Point p) d kind e = cc
literal_fits (v.Period i) d kind e = cc

-- a function of values has the kind that it has of their kinds
call_fits : (func : Func) (values : List FixedValue) (kind : Kind) → call_kind func (map fixed_kind values) ≡ Some kind → fixed_kind (call_of func values) ≡ kind
call_fits func.Least (f.Date a ∷ f.Date b ∷ []) kind e = cc
call_fits func.Greatest (f.Date a ∷ f.Date b ∷ []) kind e = cc
call_fits func.Common (f.Period p ∷ f.Period q ∷ []) kind e = cc
call_fits func.Start (f.Period p ∷ []) kind e = cc
call_fits func.End (f.Period p ∷ []) kind e = cc
call_fits func.Period (f.Date a ∷ f.Date b ∷ []) kind e = cc
call_fits _ _ kind e = cc

module _ (d : ℤ) (row : List FixedValue) where
  -- where an expression fits the row, its value has its kind
  abbrev HasItsKind : Expr → Type 0
  HasItsKind expr = (kind : Kind) → kind_in (map fixed_kind row) expr ≡ Some kind → fixed_kind (meaning d row expr) ≡ kind

  -- where all arguments have a kind, their values have these kinds
  values_fit : (args : List Expr) → AllByRecursion HasItsKind args → (kinds : List Kind) → all_kinds (map (kind_in (map fixed_kind row)) args) ≡ Some kinds → map fixed_kind (map (meaning d row) args) ≡ kinds
  values_fit [] all kinds e = cc
  values_fit (arg ∷ args) all kinds e = first (kind_in (map fixed_kind row) arg) (all_kinds (map (kind_in (map fixed_kind row)) args)) kinds (all.0) (values_fit args all.1) e
    where
      first : (k : Option Kind) (ks : Option (List Kind)) (kinds : List Kind)
          → ((kind : Kind) → k ≡ Some kind → fixed_kind (meaning d row arg) ≡ kind)
          → ((kinds : List Kind) → ks ≡ Some kinds → map fixed_kind (map (meaning d row) args) ≡ kinds)
          → with_kind k ks ≡ Some kinds → fixed_kind (meaning d row arg) ∷ map fixed_kind (map (meaning d row) args) ≡ kinds
      first (Some k) (Some ks) kinds one more e = (λ i. one k refl i ∷ more ks refl i) ∙ (cc e)
      first (Some k) None kinds one more e = cc
      first None ks kinds one more e = cc

  -- a call of arguments that fit has its kind
  of_values : (func : Func) (values : List FixedValue) (ks : Option (List Kind)) → ((kinds : List Kind) → ks ≡ Some kinds → map fixed_kind values ≡ kinds)
      → (kind : Kind) → call_kind_of func ks ≡ Some kind → fixed_kind (call_of func values) ≡ kind
  of_values func values None fit kind e = cc
  of_values func values (Some kinds) fit kind e = call_fits func values kind (ap (call_kind func) (fit kinds refl) ∙ e)

  pub value_has_its_kind : (expr : Expr) → HasItsKind expr
  value_has_its_kind =
      induction-Expr HasItsKind
      (λ place kind e. ap fixed_kind (meaning-Column d row place) ∙ value_fits row place kind (sym (kind_in-Column (map fixed_kind row) place) ∙ e))
      (λ value kind e. ap fixed_kind (meaning-Lit d row value) ∙ literal_fits value d kind (sym (kind_in-Lit (map fixed_kind row) value) ∙ e))
      (λ func args all kind e.
      ap fixed_kind (meaning-Call d row func args)
      ∙ of_values func (map (meaning d row) args) (all_kinds (map (kind_in (map fixed_kind row)) args)) (values_fit args all) kind (sym (kind_in-Call (map fixed_kind row) func args) ∙ e))

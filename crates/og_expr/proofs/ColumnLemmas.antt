-- The value at a place of a row of one day, and tests of it.
use Rattle.std.proofs.Common.{◌≡◌, ◌&&◌, ◌<◌, ℕ, ℤ, Bool, true, false, Option, Some, None, List, length, get_or, slice_get, slice_index_or, refl, sym, ap, ap₂, ◌∙◌, true≢false}
use Rattle.std.specs.Option.{option_map, unwrap_or}
use Rattle.std.proofs.lemmas.Option.{slice_get-map, unwrap_or-slice_get}
use Rattle.og_value.specs.declared.value.Value.{Value}
use Rattle.og_value.specs.Values.{value_at, row_at}
use Rattle.og_value.specs.declared.value.Value.TheVariants as values
use Rattle.og_query.specs.Expressions.{no_value}
use Rattle.og_query.specs.declared.condition.Cond.{Cond}
use Rattle.std.specs.List.{list_all}
use Rattle.std.proofs.lemmas.Bool.{and_parts}
use Rattle.std.proofs.lemmas.List.Folds.{list_all_at}
use Rattle.og_expr.specs.Bounds.{may_hold}
use Rattle.og_expr.specs.ColumnTests.{Tells, TellsAll, is_above, is_below, may_pass, stands_between}
use Rattle.og_expr.specs.declared.column_test.ColumnTest.{ColumnTest}

module _ (values : List Value) (place : ℕ) (d : ℤ) where
  at_place : slice_index_or (row_at values d) place no_value ≡ unwrap_or (option_map (λ v. value_at v d) (slice_get values place)) no_value
  at_place =
      sym (unwrap_or-slice_get (row_at values d) place no_value)
      ∙ ap (λ o. unwrap_or o no_value) (slice_get-map (λ v. value_at v d) values place)

  -- where a value stands at the place
  pub some_value : (v : Value) → slice_get values place ≡ Some v → value_at v d ≡ slice_index_or (row_at values d) place no_value
  some_value v is = sym (at_place ∙ ap (λ o. unwrap_or (option_map (λ w. value_at w d) o) no_value) is)

  -- where none does
  pub no_value_there : slice_get values place ≡ None → no_value ≡ slice_index_or (row_at values d) place no_value
  no_value_there is = sym (at_place ∙ ap (λ o. unwrap_or (option_map (λ w. value_at w d) o) no_value) is)

-- bounds that let through what two others do
module _ (a b r : ColumnTest) (both : (row : List Value) → may_pass a row ≡ true → may_pass b row ≡ true → may_pass r row ≡ true) (parts : List Cond) where
  -- they tell of conditions where the first do, and the second tell of one of these
  pub tells-and : TellsAll a parts → (i : ℕ) (part : Cond) → i < length parts → part ≡ get_or parts i part → Tells b part → TellsAll r parts
  tells-and all i part there is one row out = by (may_pass a row) refl (may_pass b row) refl
    where
      by : (x : Bool) → may_pass a row ≡ x → (y : Bool) → may_pass b row ≡ y → list_all (may_hold row) parts ≡ false
      by false first y second = all row first
      by true first false second = list_all_at (may_hold row) parts i part there (ap (may_hold row) (sym is) ∙ one row second)
      by true first true second = absurd (true≢false (sym (both row first second) ∙ out))

-- what lies between both of two bounds of a column lies between the stricter ones
pub between-both : (least greatest other_least other_greatest both_least both_greatest : Option ℤ) → ((n : ℤ) → is_above least n ≡ true → is_above other_least n ≡ true → is_above both_least n ≡ true)
    → ((n : ℤ) → is_below greatest n ≡ true → is_below other_greatest n ≡ true → is_below both_greatest n ≡ true)
    → (o : Option Value) → stands_between least greatest o ≡ true → stands_between other_least other_greatest o ≡ true → stands_between both_least both_greatest o ≡ true
between-both least greatest other_least other_greatest both_least both_greatest above below None one other = refl
between-both least greatest other_least other_greatest both_least both_greatest above below (Some (values.Int n)) one other =
    let p = and_parts _ _ one in
    let q = and_parts _ _ other in
    ap₂ (λ a b. a && b) (above n p.0 q.0) (below n p.1 q.1)
between-both least greatest other_least other_greatest both_least both_greatest above below (Some (values.Text t)) one other = one
between-both least greatest other_least other_greatest both_least both_greatest above below (Some (values.Point p)) one other = one
between-both least greatest other_least other_greatest both_least both_greatest above below (Some (values.Period p)) one other = one

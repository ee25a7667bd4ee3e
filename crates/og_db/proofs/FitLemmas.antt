-- Rows that fit their columns: on each day, and so on all.
use Rattle.std.proofs.Common.{◌≡◌, ℕ, ℤ, true, false, cond, List, [], ◌∷◌, Option, Some, None, map, Contains, if◌then◌else◌, refl, sym, ap, ap₂, ◌∙◌, subst, inl, inr, ⊎_elim}
use Rattle.std.specs.Bool.{⊤}
use Rattle.std.specs.List.{All, AllByRecursion}
use Rattle.std.specs.Option.{option_map}
use Rattle.std.specs.Str.{bytes_eq}
use Rattle.std.proofs.lemmas.List.Elements.{All-contains, All-contains_itself, All-from_recursion, All-weaker, recursion_from_All}
use Rattle.std.proofs.lemmas.Option.{same_Some}
use Rattle.og_base.specs.Calendar.{IsRefDay}
use Rattle.og_base.specs.Ranges.{Range, holds_day}
use Rattle.og_base.proofs.SetLemmas.{All-set_of, Contains-cons, Contains-cons_cases, Contains-nil, Contains-set_of}
use Rattle.og_value.specs.Cells.{kind_of}
use Rattle.og_value.specs.Order.{row_order}
use Rattle.og_value.specs.Values.{value_at, row_at}
use Rattle.og_value.specs.declared.kind.What.TheVariants as what
use Rattle.og_value.specs.declared.schema.Column.{Column}
use Rattle.og_value.specs.declared.value.Value.{Value}
use Rattle.og_value.specs.declared.value.Value.TheVariants as v
use Rattle.og_rel.specs.Relations.{HasDays, present, relation_at}
use Rattle.og_ops.proofs.DayLemmas.{some_day}
use Rattle.og_query.specs.Fits.{IsFitRow, columns_of, schemas_of}
use Rattle.og_query.specs.Kinds.{fixed_kind}
use Rattle.og_query.proofs.QueryLemmas.{rows_ordered}
use Rattle.og_db.specs.Database.{Relation, HaveKinds, IsTableOf}
use Rattle.og_db.specs.Fits.{IsFitFixed}
use Rattle.og_db.specs.Held.{Held, described, found, known_of, rows_of}

-- a value has on each day the kind that it has
kind_at : (value : Value) (d : ℤ) → fixed_kind (value_at value d) ≡ kind_of value
kind_at (v.Int n) d = refl
kind_at (v.Text t) d = refl
kind_at (v.Point p) d = refl
kind_at (v.Period i) d = refl

-- and so the values of a row
kinds_at : (row : List Value) (d : ℤ) → map fixed_kind (row_at row d) ≡ map kind_of row
kinds_at [] d = refl
kinds_at (value ∷ row) d = ap₂ (λ k ks. k ∷ ks) (kind_at value d) (kinds_at row d)

module _ {R F : Type 0} (at : R → ℤ → F) (d : ℤ) where
  -- what holds of each row on the day holds of each that is present
  pub All-present : (P : F → Type 0) (rel : List (R × List Range)) → AllByRecursion (λ p. P (at p.0 d)) rel → AllByRecursion P (present at rel d)
  All-present P [] all = tt
  All-present P (p ∷ rel) all =
      elim (holds_day p.1 d) as (λ b. AllByRecursion P (if b then at p.0 d ∷ present at rel d else present at rel d)) [
        | true ↦ (all.0, All-present P rel all.1)
        | false ↦ All-present P rel all.1
      ]

  -- a row that is present on the day is among the rows of that day
  Contains-present : (rel : List (R × List Range)) (p : R × List Range) → holds_day p.1 d ≡ true → Contains rel p → Contains (present at rel d) (at p.0 d)
  Contains-present [] p held c = Contains-nil p c
  Contains-present (q ∷ rel) p held c =
      let rest = Contains-present rel p held in
      ⊎_elim (λ same. subst (λ b. Contains (if b then at q.0 d ∷ present at rel d else present at rel d) (at p.0 d)) (sym held ∙ ap (λ r. holds_day r.1 d) (sym same)) (Contains-cons (at q.0 d) (at p.0 d) (present at rel d) (inl (ap (λ r. at r.0 d) same))))
      (λ c. elim (holds_day q.1 d) as (λ b. Contains (if b then at q.0 d ∷ present at rel d else present at rel d) (at p.0 d)) [
        | true ↦ Contains-cons (at q.0 d) (at p.0 d) (present at rel d) (inr (rest c))
        | false ↦ rest c
      ])
      (Contains-cons_cases q p rel c)

module _ (columns : List Column) (rel : Relation) where
  -- rows that fit do so on each day
  pub fit_on_day : HaveKinds columns rel → (d : ℤ) → All (IsFitFixed columns) (relation_at row_order row_at rel d)
  fit_on_day fit d =
      All-set_of row_order (IsFitFixed columns) (present row_at rel d)
      (All-from_recursion (IsFitFixed columns) (present row_at rel d)
      (All-present row_at d (IsFitFixed columns) rel
      (recursion_from_All (λ p. IsFitFixed columns (row_at p.0 d)) rel
      (All-weaker (λ p. IsFitRow columns p.0) (λ p. IsFitFixed columns (row_at p.0 d)) (λ p e. kinds_at p.0 d ∙ e) rel fit))))

  -- rows that have days fit where they do so on each day
  pub fit_from_days : All (λ p. HasDays p.1) rel → ((d : ℤ) → IsRefDay d → All (IsFitFixed columns) (relation_at row_order row_at rel d)) → HaveKinds columns rel
  fit_from_days days fit = All-weaker (Contains rel) (λ p. IsFitRow columns p.0) (λ p c. on (some_day p.1 (has p c).1 (has p c).0) c) rel (All-contains_itself rel)
    where
      has : (p : List Value × List Range) → Contains rel p → HasDays p.1
      has p c = All-contains (λ p. HasDays p.1) rel p days c

      on : {p : List Value × List Range} → (d : ℤ) × IsRefDay d × (holds_day p.1 d ≡ true) → Contains rel p → IsFitRow columns p.0
      on {p} some c =
          let d = some.0 in
          sym (kinds_at p.0 d)
          ∙ All-contains (IsFitFixed columns) (relation_at row_order row_at rel d) (row_at p.0 d) (fit d some.1)
          (Contains-set_of rows_ordered.exact (present row_at rel d) (row_at p.0 d) (Contains-present row_at d rel p some.2 c))

-- the rows of a name fit its columns
pub fit_of : (db : List (Held Relation)) (name : List ℕ) (columns : List Column) (rows : Relation) → All (λ h. HaveKinds h.columns h.rows) db
    → option_map (λ k. k.1) (known_of db name) ≡ Some columns → rows_of db name ≡ Some rows → HaveKinds columns rows
fit_of db name columns rows fit known is = at (found db name) (each db (recursion_from_All (λ h. HaveKinds h.columns h.rows) db fit)) known is
  where
    Fits : Option (Held Relation) → Type 0
    Fits None = ⊤
    Fits (Some h) = HaveKinds h.columns h.rows

    each : (db : List (Held Relation)) → AllByRecursion (λ h. HaveKinds h.columns h.rows) db → Fits (found db name)
    each [] all = tt
    each (h ∷ hs) all =
        elim (bytes_eq name h.name) as (λ b. Fits (cond b (Some h) (found hs name))) [
          | true ↦ all.0
          | false ↦ each hs all.1
        ]

    at : (o : Option (Held Relation)) → Fits o → option_map (λ k. k.1) (option_map described o) ≡ Some columns → option_map (λ h. h.rows) o ≡ Some rows → HaveKinds columns rows
    at None fits known is = cc
    at (Some h) fits known is = subst (HaveKinds columns) (inside is) (subst (λ cs. HaveKinds cs h.rows) (inside known) fits)
      where
        inside : {A : Type 0} {a b : A} → Some a ≡ Some b → a ≡ b
        inside e = cc

-- a name that is known has rows that fit its columns
pub named_held : (db : List (Held Relation)) → All (λ h. HaveKinds h.columns h.rows) db → (name : List ℕ) (columns : List Column)
    → schemas_of (known_of db) name ≡ Some columns → (rel : Relation) × (rows_of db name ≡ Some rel) × HaveKinds columns rel
named_held db fit name columns known = at (found db name) refl known
  where
    at : (o : Option (Held Relation)) → found db name ≡ o → columns_of (option_map described o) ≡ Some columns
        → (rel : Relation) × (rows_of db name ≡ Some rel) × HaveKinds columns rel
    at None is known = cc
    at (Some h) is known = (
      h.rows,
      ap (option_map (λ h. h.rows)) is,
      fit_of db name columns h.rows fit (ap (λ o. option_map (λ k. k.1) (option_map described o)) is ∙ known) (ap (option_map (λ h. h.rows)) is),
    )

module _ (db : List (Held Relation)) (name : List ℕ) (columns : List Column) (known : IsTableOf columns db name) where
  -- a table has a relation
  pub table_has_rows : rows_of db name ≡ None → ⊥
  table_has_rows none = at (found db name) known none
    where
      at : (o : Option (Held Relation)) → option_map described o ≡ Some (what.Table, columns) → option_map (λ h. h.rows) o ≡ None → ⊥
      at None is none = cc
      at (Some h) is none = cc

  -- and has no other columns
  pub same_columns : (others : List Column) → IsTableOf others db name → columns ≡ others
  same_columns others also = ap (λ k. k.1) (same_Some (what.Table, columns) (what.Table, others) (sym known ∙ also))

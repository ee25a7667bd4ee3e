-- A core that has a name at one place at most: what it has by new rows of the name is told by the tables of the other places.
use Rattle.std.proofs.Common.{◌≡◌, ◌≤◌, ◌++◌, ◌&&◌, ℕ, ℤ, suc, Bool, true, false, List, [], ◌∷◌, length, filter, map, if◌then◌else◌, refl, sym, ap, ap₂, ◌∙◌, arith}
use Rattle.std.specs.List.{AllByRecursion, flat_map, list_all}
use Rattle.std.specs.Str.{bytes_eq}
use Rattle.std.proofs.lemmas.Bool.{leb-true}
use Rattle.std.proofs.lemmas.List.{append_assoc}
use Rattle.og_base.specs.Set.{set_of}
use Rattle.og_value.specs.Order.{row_order}
use Rattle.og_query.specs.Combinations.{combinations}
use Rattle.og_query.specs.Conditions.{truth}
use Rattle.og_query.specs.Queries.{Fixed, image}
use Rattle.og_query.specs.declared.query.Core.{Core}
use Rattle.og_query.specs.declared.query.From1.{From1}
use Rattle.og_query.specs.declared.query.Query.{Query}
use Rattle.og_query.specs.declared.query.Rest.{Rest}
use Rattle.og_exec.specs.Tables.{Relations, rows_at, rows_on}
use Rattle.og_db.specs.Database.{Relation}
use Rattle.og_view.specs.Placed.{cores_of, gets, has_once, more_rows}
use Rattle.og_view.specs.Rows.{rows_over, turns}
use Rattle.og_view.proofs.MoreLemmas.{none_each}

-- no combinations with a list that has none
no_combinations : (front back : List (List Fixed)) → combinations (front ++ [] ∷ back) ≡ []
no_combinations [] back = refl
no_combinations (rows ∷ front) back = ap (λ rest. flat_map (λ row. map (λ more. row ++ more) rest) rows) (no_combinations front back) ∙ none_each rows

module _ (d : ℤ) (core : Core) (name : List ℕ) (new : From1 → List Fixed) (none : (table : From1) → bytes_eq name table.name ≡ false → new table ≡ []) where
  -- the rows over lists behind others
  abbrev behind : List (List Fixed) → List (List Fixed) → List Fixed
  behind front lists = rows_over d core (front ++ lists)

  no_rows : (front back : List (List Fixed)) → behind front ([] ∷ back) ≡ []
  no_rows front back = ap (λ all. set_of row_order (map (image d core.items) (filter (λ row. truth d row core.cond) all))) (no_combinations front back)

  -- how many of some tables have the name
  abbrev named_in : List From1 → ℕ
  named_in tables = length (filter (λ table. bytes_eq name table.name) tables)

  named_in-cons : (table : From1) (tables : List From1) (b : Bool) → bytes_eq name table.name ≡ b → named_in (table ∷ tables) ≡ (if b then suc (named_in tables) else named_in tables)
  named_in-cons table tables true here = ap (λ b. length (if b then table ∷ filter (λ table. bytes_eq name table.name) tables else filter (λ table. bytes_eq name table.name) tables)) here
  named_in-cons table tables false here = ap (λ b. length (if b then table ∷ filter (λ table. bytes_eq name table.name) tables else filter (λ table. bytes_eq name table.name) tables)) here

  -- one list more in front
  moved : (front : List (List Fixed)) (rows : List Fixed) (lists : List (List (List Fixed))) → flat_map (behind front) (map (λ one. rows ∷ one) lists) ≡ flat_map (behind (front ++ rows ∷ [])) lists
  moved front rows [] = refl
  moved front rows (one ∷ lists) = ap₂ (λ xs ys. xs ++ ys) (ap (rows_over d core) (sym (append_assoc front (rows ∷ []) one))) (moved front rows lists)

  -- a place of another name adds nothing
  none_added : (front back : List (List Fixed)) (table : From1) → bytes_eq name table.name ≡ false → behind front (new table ∷ back) ≡ []
  none_added front back table off = ap (λ rows. behind front (rows ∷ back)) (none table off) ∙ no_rows front back

  module _ (rows : From1 → List Fixed) where
    -- nor do places of which none has the name
    none_there : (front : List (List Fixed)) (tables : List From1) → named_in tables ≡ 0 → flat_map (behind front) (turns (map rows tables) (map new tables)) ≡ []
    none_there front [] off = refl
    none_there front (table ∷ tables) off = at (bytes_eq name table.name) refl (none_there (front ++ rows table ∷ []) tables)
      where
        at : (b : Bool) → bytes_eq name table.name ≡ b → (named_in tables ≡ 0 → flat_map (behind (front ++ rows table ∷ [])) (turns (map rows tables) (map new tables)) ≡ [])
            → flat_map (behind front) (turns (map rows (table ∷ tables)) (map new (table ∷ tables))) ≡ []
        at true here more = absurd (omega (arith, off, named_in-cons table tables true here))
        at false here more =
            ap₂ (λ xs ys. xs ++ ys) (none_added front (map rows tables) table here)
            (moved front (rows table) (turns (map rows tables) (map new tables)) ∙ more (sym (named_in-cons table tables false here) ∙ off))

  module _ (one other : From1 → List Fixed) (same : (table : From1) → bytes_eq name table.name ≡ false → one table ≡ other table) where
    -- tables of which none has the name have the same rows
    all_same : (tables : List From1) → named_in tables ≡ 0 → map one tables ≡ map other tables
    all_same [] off = refl
    all_same (table ∷ tables) off = at (bytes_eq name table.name) refl (all_same tables)
      where
        at : (b : Bool) → bytes_eq name table.name ≡ b → (named_in tables ≡ 0 → map one tables ≡ map other tables) → map one (table ∷ tables) ≡ map other (table ∷ tables)
        at true here more = absurd (omega (arith, off, named_in-cons table tables true here))
        at false here more = ap₂ (λ x xs. x ∷ xs) (same table here) (more (sym (named_in-cons table tables false here) ∙ off))

    -- so the new rows of the name have the same rows with both
    rows-once : (front : List (List Fixed)) (tables : List From1) → named_in tables ≤ 1
        → flat_map (behind front) (turns (map one tables) (map new tables)) ≡ flat_map (behind front) (turns (map other tables) (map new tables))
    rows-once front [] most = refl
    rows-once front (table ∷ tables) most = at (bytes_eq name table.name) refl (rows-once (front ++ one table ∷ []) tables)
      where
        ones : List (List (List Fixed))
        ones = turns (map one tables) (map new tables)

        others : List (List (List Fixed))
        others = turns (map other tables) (map new tables)

        at : (b : Bool) → bytes_eq name table.name ≡ b → (named_in tables ≤ 1 → flat_map (behind (front ++ one table ∷ [])) ones ≡ flat_map (behind (front ++ one table ∷ [])) others)
            → flat_map (behind front) (turns (map one (table ∷ tables)) (map new (table ∷ tables))) ≡ flat_map (behind front) (turns (map other (table ∷ tables)) (map new (table ∷ tables)))
        at true here more =
            let off : named_in tables ≡ 0 = omega (arith, most, named_in-cons table tables true here) in
            ap₂ (λ xs ys. xs ++ ys) (ap (λ lists. behind front (new table ∷ lists)) (all_same tables off))
            (moved front (one table) ones ∙ none_there one (front ++ one table ∷ []) tables off ∙ sym (moved front (other table) others ∙ none_there other (front ++ other table ∷ []) tables off))
        at false here more =
            let few : named_in tables ≤ 1 = omega (arith, most, named_in-cons table tables false here) in
            ap₂ (λ xs ys. xs ++ ys) (none_added front (map one tables) table here ∙ sym (none_added front (map other tables) table here))
            (moved front (one table) ones ∙ more few ∙ ap (λ rows. flat_map (behind (front ++ rows ∷ [])) others) (same table here)
            ∙ sym (moved front (other table) others))

module _ (d : ℤ) (one other : Relations) (name : List ℕ) (new : Relation) (same : (table : List ℕ) → bytes_eq name table ≡ false → rows_at one d table ≡ rows_at other d table) where
  -- what cores that have the name at one place at most have by its new rows is the same over tables that are the same but for the name
  pub more_rows-once : (cores : List Core) → AllByRecursion (λ core. has_once name core ≡ true) cores → flat_map (more_rows d one name new) cores ≡ flat_map (more_rows d other name new) cores
  more_rows-once [] all = refl
  more_rows-once (core ∷ cores) all =
      ap₂ (λ xs ys. xs ++ ys)
      (rows-once d core name (λ table. rows_on (gets name new table.name) d) (λ table off. ap (λ b. rows_on (if b then new else []) d) off)
      (λ table. rows_at one d table.name) (λ table. rows_at other d table.name) (λ table off. same table.name off) [] core.tables
      (leb-true (length (filter (λ table. bytes_eq name table.name) core.tables)) 1 all.0))
      (more_rows-once cores all.1)

-- each core of a query has a name at one place at most, where that holds of the first and of all further ones
pub all_once : (name : List ℕ) (query : Query) → (has_once name query.first && list_all (λ rest. has_once name rest.core) query.rest) ≡ true → AllByRecursion (λ core. has_once name core ≡ true) (cores_of query)
all_once name query once = at (has_once name query.first) refl once
  where
    rests : (rests : List Rest) → list_all (λ rest. has_once name rest.core) rests ≡ true → AllByRecursion (λ core. has_once name core ≡ true) (map (λ rest. rest.core) rests)
    rests [] all = tt
    rests (rest ∷ more) all = step (has_once name rest.core) refl all (rests more)
      where
        step : (b : Bool) → has_once name rest.core ≡ b → (b && list_all (λ rest. has_once name rest.core) more) ≡ true
            → (list_all (λ rest. has_once name rest.core) more ≡ true → AllByRecursion (λ core. has_once name core ≡ true) (map (λ rest. rest.core) more))
            → AllByRecursion (λ core. has_once name core ≡ true) (map (λ rest. rest.core) (rest ∷ more))
        step true is all more = (is, more all)
        step false is all more = cc all

    at : (b : Bool) → has_once name query.first ≡ b → (b && list_all (λ rest. has_once name rest.core) query.rest) ≡ true → AllByRecursion (λ core. has_once name core ≡ true) (cores_of query)
    at true is all = (is, rests query.rest all)
    at false is all = cc all

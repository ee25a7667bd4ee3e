-- Deltas: what comes of a relation by what a condition takes out of it and by rows that are new, on each day, and how many rows; and what that is of a table.
use Rattle.std.proofs.Common.{◌≡◌, ◌++◌, ◌≤◌, ◌+◌, ◌*◌, ◌||◌, ◌&&◌, ℕ, ℤ, Bool, true, false, not, List, [], ◌∷◌, Some, length, filter, map, if◌then◌else◌, refl, sym, ap, ap₂, ◌∙◌, subst, arith}
use Rattle.std.specs.List.{IsDistinct, list_any}
use Rattle.std.specs.Str.{bytes_eq}
use Rattle.std.proofs.lemmas.List.{append-nil, length-append}
use Rattle.std.proofs.lemmas.List.Filters.{length-filter_both}
use Rattle.std.proofs.lemmas.List.Folds.{list_any-append}
use Rattle.std.specs.List.Sorted.{IsPermutation}
use Rattle.std.proofs.lemmas.List.Elements.{All-append}
use Rattle.std.proofs.lemmas.List.Sorted.{All-permutation, IsPermutation-sym, length_permutation}
use Rattle.og_base.specs.Calendar.{IsRefDay}
use Rattle.og_base.specs.Set.{set_of}
use Rattle.og_base.proofs.SetMembers.{list_any-filter, list_any-map, list_any-set_of}
use Rattle.og_value.specs.Order.{row_order}
use Rattle.og_value.specs.Values.{row_at}
use Rattle.og_value.specs.declared.schema.Column.{Column}
use Rattle.og_value.specs.declared.value.Value.{Value}
use Rattle.og_rel.specs.Relations.{passing, relation_at}
use Rattle.og_rel.proofs.AlgebraLemmas.{any_of_either, same_set_by_tests}
use Rattle.og_rel.proofs.PermutationLemmas.{relation_at-permutation}
use Rattle.og_rel.proofs.PresentLemmas.{relation_at-append}
use Rattle.og_rel.specs.Places.{ArePlaces, others_at, places}
use Rattle.og_rel.proofs.PlaceLemmas.{All-others, length-others, others-none, others-places, places-are}
use Rattle.og_query.specs.Conditions.{truth}
use Rattle.og_query.specs.Fits.{IsFitRow}
use Rattle.og_query.specs.Queries.{Fixed}
use Rattle.og_query.specs.declared.condition.Cond.{Cond}
use Rattle.og_query.specs.declared.typed.Assign.{Assign}
use Rattle.og_query.specs.declared.typed.Typed.TheVariants as t
use Rattle.og_query.proofs.QueryLemmas.{rows_ordered}
use Rattle.og_db.specs.Database.{HaveKinds, Relation, names_at}
use Rattle.og_db.specs.Deltas.{DoesStatement, IsApplied, IsDeltaOf, TakesOut, rest_of, rows_after}
use Rattle.og_db.specs.Held.{Held, changed_at, rows_of}
use Rattle.og_db.specs.Insertion.{on_all_days}
use Rattle.og_db.specs.Runs.{AreWithin, sizes_at}
use Rattle.og_db.specs.Statements.{assigned}
use Rattle.og_db.specs.declared.delta.Delta.{Delta}
use Rattle.og_db.proofs.ChangeLemmas.{gone-touched, left-instead}
use Rattle.og_db.proofs.SizeLemmas.{within-made_to}
use Rattle.og_db.proofs.StatementLemmas.{inserted, length-inserted}
use Rattle.og_db.proofs.WorldLemmas.{changed_same, made_of-changed_to}

-- the rows of a relation on a day
abbrev pub on : Relation → ℤ → List Fixed
on rel d = relation_at row_order row_at rel d

-- rows are those of which a condition does not hold and those of which it does
any_parted : (holds p : Fixed → Bool) (rows : List Fixed) → list_any p rows ≡ list_any p (filter (λ row. not (holds row)) rows ++ filter holds rows)
any_parted holds p rows =
    (λ i. list_any (λ row. either (holds row) (p row) i) rows)
    ∙ any_of_either (λ row. not (holds row) && p row) (λ row. holds row && p row) rows
    ∙ sym (list_any-append p (filter (λ row. not (holds row)) rows) (filter holds rows)
    ∙ ap₂ (λ a b. a || b) (list_any-filter p (λ row. not (holds row)) rows) (list_any-filter p holds rows))
  where
    either : (b x : Bool) → x ≡ ((not b && x) || (b && x))
    either true x = refl
    either false true = refl
    either false false = refl

-- an UPDATE leaves the rows of which the condition does not hold, and puts the assigned ones in the place of the others
any_updated : (holds : Fixed → Bool) (changed : Fixed → Fixed) (p : Fixed → Bool) (rows : List Fixed)
    → list_any p (map (λ row. if holds row then changed row else row) rows) ≡ list_any p (filter (λ row. not (holds row)) rows ++ map changed (filter holds rows))
any_updated holds changed p rows =
    list_any-map p (λ row. if holds row then changed row else row) rows
    ∙ each rows
    ∙ sym (list_any-append p (filter (λ row. not (holds row)) rows) (map changed (filter holds rows))
    ∙ ap₂ (λ a b. a || b) (list_any-filter p (λ row. not (holds row)) rows)
    (list_any-map p changed (filter holds rows) ∙ list_any-filter (λ row. p (changed row)) holds rows))
  where
    one : (b x y c e : Bool) → (if b then y else x) || (c || e) ≡ ((not b && x) || c) || ((b && y) || e)
    one true x true true e = refl
    one true x true false e = refl
    one true x false true e = refl
    one true x false false e = refl
    one false true y c e = refl
    one false false y c e = refl

    tested : (b : Bool) (row : Fixed) → p (if b then changed row else row) ≡ (if b then p (changed row) else p row)
    tested true row = refl
    tested false row = refl

    each : (rows : List Fixed) → list_any (λ row. p (if holds row then changed row else row)) rows
        ≡ (list_any (λ row. not (holds row) && p row) rows || list_any (λ row. holds row && p (changed row)) rows)
    each [] = refl
    each (row ∷ rows) =
        ap₂ (λ a b. a || b) (tested (holds row) row) (each rows)
        ∙ one (holds row) (p row) (p (changed row)) (list_any (λ row. not (holds row) && p row) rows) (list_any (λ row. holds row && p (changed row)) rows)

-- the rows that a condition may touch are looked up: what it leaves of them and what it takes of them is what it takes out
module _ (touch : List Value → Bool) (cond : Cond) (never : (row : List Value) → touch row ≡ false → (d : ℤ) → IsRefDay d → truth d (row_at row d) cond ≡ false)
    (rel rows : Relation) (touched : rows ≡ passing touch rel) (delta : Delta) (at : delta.at.items ≡ places (λ p. touch p.0) rel) where
  -- as many rows are touched as there are places
  many : length rows ≡ length delta.at.items
  many =
      let are = length-others (places (λ p. touch p.0) rel) rel (places-are (λ p. touch p.0) rel) in
      let both = length-filter_both (λ p. touch p.0) (λ p. not (touch p.0)) (λ p. refl) rel in
      omega (arith, ap length touched, ap length at, ap length (others-places (λ p. touch p.0) rel), are, both)

  pub takes_out : ((d : ℤ) → IsRefDay d → on delta.left d ≡ filter (λ row. not (truth d row cond)) (on rows d)) → ((d : ℤ) → IsRefDay d → on delta.gone d ≡ filter (λ row. truth d row cond) (on rows d))
      → length delta.left ≤ length rows → length delta.gone ≤ length rows → TakesOut cond rel delta
  takes_out left gone left_size gone_size = record {
    at = subst (λ l. ArePlaces l (length rel)) (sym at) (places-are (λ p. touch p.0) rel);
    rest = λ d day.
        ap (λ l. on (l ++ delta.left) d) (ap (λ l. others_at l rel) at ∙ others-places (λ p. touch p.0) rel)
        ∙ left-instead touch cond never rel rows touched d day delta.left (left d day);
    gone = λ d day. gone d day ∙ gone-touched touch cond never rel rows touched d day;
    left_size = subst (λ n. length delta.left ≤ n) many left_size;
    gone_size = subst (λ n. length delta.gone ≤ n) many gone_size;
  }

-- a relation of which rows are taken out has what is left and what was taken
pub taken_is_delta : (cond : Cond) (rel : Relation) (delta : Delta) → TakesOut cond rel delta → IsDeltaOf rel delta
taken_is_delta cond rel delta takes = record {
  at = takes.at;
  gone = λ d day p. any_parted (λ row. truth d row cond) p (on rel d) ∙ (λ i. list_any p (sym (takes.rest d day) i ++ sym (takes.gone d day) i));
}

-- and what it has does not depend on the new rows
pub takes_with : (cond : Cond) (rel : Relation) (delta : Delta) (added : Relation) → TakesOut cond rel delta → TakesOut cond rel (record { at = delta.at; left = delta.left; gone = delta.gone; added = added })
takes_with cond rel delta added takes = record { at = takes.at; rest = takes.rest; gone = takes.gone; left_size = takes.left_size; gone_size = takes.gone_size }

-- a relation of which no row is touched
pub untouched_is_delta : (rel : Relation) (delta : Delta) → delta.at.items ≡ [] → delta.left ≡ [] → delta.gone ≡ [] → IsDeltaOf rel delta
untouched_is_delta rel delta at left gone = record {
  at = subst (λ l. ArePlaces l (length rel)) (sym at) tt;
  gone = λ d day p. sym (ap (list_any p) ((λ i. on (others_at (at i) rel ++ left i) d ++ on (gone i) d) ∙ append-nil (on (others_at [] rel ++ []) d) ∙ ap (λ l. on l d) (append-nil (others_at [] rel) ∙ others-none rel)));
}

module _ (db : List (Held Relation)) (name : List ℕ) (apart : IsDistinct bytes_eq (map (λ h. h.name) db)) (rel : Relation) (is : rows_of db name ≡ Some rel) (delta : Delta) where
  -- a table to which a delta is applied, where what comes of it is known on each day, and how many rows it has at most
  module _ (f : ℤ → List Fixed → List Fixed) (n : ℕ → ℕ) (law : (d : ℤ) → IsRefDay d → on (rows_after delta rel) d ≡ f d (on rel d)) (most : length (rows_after delta rel) ≤ n (length rel))
      (after : List (Held Relation)) (applied : IsApplied name delta db after) where
    applied_law : (d : ℤ) → IsRefDay d → names_at d after ≡ changed_at name (f d) (names_at d db)
    applied_law d day =
        ap (names_at d) applied.put
        ∙ made_of-changed_to name (λ rows. on rows d) rel applied.rows (f d) db is apart
        (relation_at-permutation rows_ordered row_at applied.rows (rows_after delta rel) d (applied.order rel is) ∙ law d day)

    applied_size : AreWithin (sizes_at after) (changed_at name n (sizes_at db))
    applied_size =
        subst (λ now. AreWithin (sizes_at now) (changed_at name n (sizes_at db))) (sym applied.put)
        (within-made_to name length rel applied.rows n db is apart (subst (λ k. k ≤ n (length rel)) (length_permutation applied.rows (rows_after delta rel) (applied.order rel is)) most))

  -- INSERT
  pub insert_does : (rows : List (List Value)) → delta.at.items ≡ [] → delta.left ≡ [] → delta.added ≡ on_all_days rows → DoesStatement (t.Insert name rows, tt) db name delta
  insert_does rows at left added =
      let whole : rows_after delta rel ≡ rel ++ on_all_days rows =
      (λ i. (others_at (at i) rel ++ left i) ++ added i) ∙ ap (λ l. l ++ on_all_days rows) (append-nil (others_at [] rel) ∙ others-none rel) in
      record {
        law = applied_law (λ d before. set_of row_order (before ++ map (λ row. row_at row d) rows)) (λ n. n + length rows) (λ d day. ap (λ l. on l d) whole ∙ inserted rel rows d day) (size whole);
        size = applied_size (λ d before. set_of row_order (before ++ map (λ row. row_at row d) rows)) (λ n. n + length rows) (λ d day. ap (λ l. on l d) whole ∙ inserted rel rows d day) (size whole);
      }
    where
      size : rows_after delta rel ≡ rel ++ on_all_days rows → length (rows_after delta rel) ≤ length rel + length rows
      size whole = subst (λ l. length l ≤ length rel + length rows) (sym whole) (length-inserted rel rows)

  module _ (cond : Cond) (takes : TakesOut cond rel delta) where
    -- as many are left as were there
    rest_size : length (rest_of delta rel) ≤ length rel
    rest_size = omega (arith, length-append (others_at delta.at.items rel) delta.left, length-others delta.at.items rel takes.at, takes.left_size)

    -- DELETE
    pub delete_does : delta.added ≡ [] → DoesStatement (t.Delete name cond, tt) db name delta
    delete_does none = record {
      law = applied_law (λ d. filter (λ row. not (truth d row cond))) (λ n. n) law most;
      size = λ after applied. subst (AreWithin (sizes_at after)) (changed_same name (sizes_at db)) (applied_size (λ d. filter (λ row. not (truth d row cond))) (λ n. n) law most after applied);
    }
      where
        whole : rows_after delta rel ≡ rest_of delta rel
        whole = ap (λ l. rest_of delta rel ++ l) none ∙ append-nil (rest_of delta rel)

        law : (d : ℤ) → IsRefDay d → on (rows_after delta rel) d ≡ filter (λ row. not (truth d row cond)) (on rel d)
        law d day = ap (λ l. on l d) whole ∙ takes.rest d day

        most : length (rows_after delta rel) ≤ length rel
        most = subst (λ l. length l ≤ length rel) (sym whole) rest_size

    -- UPDATE
    module _ (sets : List Assign) (made : (d : ℤ) → IsRefDay d → on delta.added d ≡ set_of row_order (map (assigned d sets) (on delta.gone d))) (fewer : length delta.added ≤ length delta.gone) where
      abbrev updated : ℤ → Fixed → Fixed
      updated d row = if truth d row cond then assigned d sets row else row

      update_law : (d : ℤ) → IsRefDay d → on (rows_after delta rel) d ≡ set_of row_order (map (updated d) (on rel d))
      update_law d day =
          relation_at-append rows_ordered row_at (rest_of delta rel) delta.added d
          ∙ (λ i. set_of row_order (takes.rest d day i ++ (made d day ∙ ap (λ rows. set_of row_order (map (assigned d sets) rows)) (takes.gone d day)) i))
          ∙ same_set_by_tests rows_ordered (left ++ set_of row_order new) (map (updated d) (on rel d)) tested
        where
          left : List Fixed
          left = filter (λ row. not (truth d row cond)) (on rel d)

          new : List Fixed
          new = map (assigned d sets) (filter (λ row. truth d row cond) (on rel d))

          tested : (p : Fixed → Bool) → list_any p (left ++ set_of row_order new) ≡ list_any p (map (updated d) (on rel d))
          tested p =
              list_any-append p left (set_of row_order new)
              ∙ ap (λ b. list_any p left || b) (list_any-set_of rows_ordered.exact p new)
              ∙ sym (list_any-append p left new)
              ∙ sym (any_updated (λ row. truth d row cond) (assigned d sets) p (on rel d))

      update_size : length (rows_after delta rel) ≤ 2 * length rel
      update_size =
          omega (arith, length-append (rest_of delta rel) delta.added, length-append (others_at delta.at.items rel) delta.left, length-others delta.at.items rel takes.at, takes.left_size, takes.gone_size, fewer)

      pub update_does : DoesStatement (t.Update name sets cond, tt) db name delta
      update_does = record {
        law = applied_law (λ d rows. set_of row_order (map (updated d) rows)) (λ n. 2 * n) update_law update_size;
        size = applied_size (λ d rows. set_of row_order (map (updated d) rows)) (λ n. 2 * n) update_law update_size;
      }

-- what comes of rows that fit, in any order, fits
pub after_fits : (columns : List Column) (rel : Relation) (delta : Delta) → HaveKinds columns rel → HaveKinds columns delta.left → HaveKinds columns delta.added → (rows : Relation) → IsPermutation rows (rows_after delta rel) → HaveKinds columns rows
after_fits columns rel delta fit left added rows moved =
    All-permutation (λ p. IsFitRow columns p.0) (rows_after delta rel) rows (IsPermutation-sym rows (rows_after delta rel) moved)
    (All-append (λ p. IsFitRow columns p.0) (rest_of delta rel) delta.added
    (All-append (λ p. IsFitRow columns p.0) (others_at delta.at.items rel) delta.left (All-others (λ p. IsFitRow columns p.0) delta.at.items rel fit) left) added)

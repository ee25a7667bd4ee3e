-- Cores over names by place: what their places have.
use Rattle.std.proofs.Common.{◌≡◌, ◌≤◌, ◌<◌, ◌++◌, ◌+◌, ℕ, zero, suc, ◌==◌, Bool, true, false, List, [], ◌∷◌, Option, Some, None, length, map, get_or, slice_get, if◌then◌else◌, refl, sym, ap, ap₂, ◌∙◌, subst, arith}
use Rattle.std.specs.List.{All, flat_map, list_all}
use Rattle.std.proofs.lemmas.Bool.{eq-eqb, eqb-false, eqb-true, ne_eqb}
use Rattle.std.proofs.lemmas.List.Elements.{All-cons, All-get_or, All-nil}
use Rattle.std.proofs.lemmas.Option.{get_or_from_slice_get, slice_get-get_or, slice_get_within}
use Rattle.og_value.specs.Words.{is_word, folded}
use Rattle.og_base.specs.Letters.{is_in_word}
use Rattle.og_query.specs.Fits.{Schemas, core_kinds, IsAsNamed, IsFitSemi, IsFitCore, IsFitRest, IsFitQuery}
use Rattle.og_query.specs.Kinds.{fits, kind_in, kinds_of}
use Rattle.og_query.specs.declared.query.Core.{Core}
use Rattle.og_query.specs.declared.query.From1.{From1}
use Rattle.og_exec.specs.Tables.{Relations}
use Rattle.og_rel.proofs.PlaceLemmas.{and_nothing, nothing_and, one_across}
use Rattle.og_db.specs.Database.{Relation}
use Rattle.og_view.specs.Placed.{beside, columns_at, letters, place_schemas, placed, placed_from, placed_core, placed_query}

-- one more letter
pub letters-push : (k : ℕ) → letters k ++ 112 ∷ [] ≡ 112 ∷ letters k
letters-push zero = refl
letters-push (suc k) = ap (λ rest. 112 ∷ rest) (letters-push k)

-- so many letters
pub length-letters : (k : ℕ) → length (letters k) ≡ k
length-letters zero = refl
length-letters (suc k) = ap suc (length-letters k)

-- letters are a word
pub letters_word : (k : ℕ) → is_word (112 ∷ letters k) ≡ true
letters_word k = all k
  where
    all : (k : ℕ) → list_all is_in_word (letters k) ≡ true
    all zero = refl
    all (suc k) = all k

-- in lower case
pub letters_lower : (k : ℕ) → folded (letters k) ≡ letters k
letters_lower zero = refl
letters_lower (suc k) = ap (λ rest. 112 ∷ rest) (letters_lower k)

-- numbers that are each one more
one_off : (a b : ℕ) → (suc a == suc b) ≡ (a == b)
one_off a b = at (a == b) refl
  where
    at : (c : Bool) → (a == b) ≡ c → (suc a == suc b) ≡ (a == b)
    at true is = eq-eqb (suc a) (suc b) (ap suc (eqb-true a b is)) ∙ sym is
    at false is = ne_eqb (suc a) (suc b) (λ e. eqb-false a b is (omega (arith, e))) ∙ sym is

-- and one that is more than none
some_more : (a : ℕ) → (suc a == 0) ≡ false
some_more a = ne_eqb (suc a) 0 (λ e. absurd (omega (arith, e)))

-- in either order
none_less : (a : ℕ) → (0 == suc a) ≡ false
none_less a = ne_eqb 0 (suc a) (λ e. absurd (omega (arith, e)))

-- the tables with one more
pub placed_from-push : (k : ℕ) (tables : List From1) (table : From1) → placed_from k (tables ++ table ∷ []) ≡ placed_from k tables ++ placed (k + length tables) table ∷ []
placed_from-push k [] table = ap (λ n. placed n table ∷ []) (and_nothing k)
placed_from-push k (one ∷ tables) table =
    ap (λ rest. placed k one ∷ rest) (placed_from-push (suc k) tables table ∙ ap (λ n. placed_from (suc k) tables ++ placed n table ∷ []) (one_across k (length tables)))

-- there are as many
length-placed_from : (k : ℕ) (tables : List From1) → length (placed_from k tables) ≡ length tables
length-placed_from k [] = refl
length-placed_from k (table ∷ tables) = ap suc (length-placed_from (suc k) tables)

-- with the same kinds
kinds-placed_from : (k : ℕ) (tables : List From1) → flat_map (λ table. kinds_of table.schema) (placed_from k tables) ≡ flat_map (λ table. kinds_of table.schema) tables
kinds-placed_from k [] = refl
kinds-placed_from k (table ∷ tables) = ap (λ rest. kinds_of table.schema ++ rest) (kinds-placed_from (suc k) tables)

module _ (all : List From1) where
  -- each has the columns of its place
  placed_named : (k : ℕ) (tables : List From1) → ((j : ℕ) → slice_get all (k + j) ≡ slice_get tables j) → All (IsAsNamed (place_schemas all)) (placed_from k tables)
  placed_named k [] there = All-nil (IsAsNamed (place_schemas all))
  placed_named k (table ∷ tables) there =
      All-cons (IsAsNamed (place_schemas all)) (placed k table) (placed_from (suc k) tables)
      (ap (λ n. columns_at (slice_get all n)) (length-letters k ∙ and_nothing k) ∙ ap columns_at (there 0))
      (placed_named (suc k) tables (λ j. ap (slice_get all) (one_across k j) ∙ there (suc j)))

-- the query over names by place fits them
pub placed_fits : (schemas : Schemas) (core : Core) → IsFitCore schemas core → IsFitQuery (place_schemas core.tables) (placed_query core)
placed_fits schemas core fit = record {
  first = record {
    some = subst (λ n. 1 ≤ n) (sym (length-placed_from 0 core.tables)) fit.some;
    tables = placed_named core.tables 0 core.tables (λ j. ap (slice_get core.tables) (nothing_and j));
    cond = ap (λ kinds. fits kinds core.cond) (kinds-placed_from 0 core.tables) ∙ fit.cond;
    semis = All-nil (IsFitSemi (place_schemas core.tables) (core_kinds (placed_core core)));
    items = ap (λ kinds. map (kind_in kinds) core.items) (kinds-placed_from 0 core.tables) ∙ fit.items;
  };
  rest = All-nil (IsFitRest (place_schemas core.tables) (placed_core core));
}

-- a table is known as it is named
pub named_at : (schemas : Schemas) (tables : List From1) → All (IsAsNamed schemas) tables → (k : ℕ) (table : From1) → slice_get tables k ≡ Some table → IsAsNamed schemas table
named_at schemas tables all k table is = subst (IsAsNamed schemas) (get_or_from_slice_get tables k table table is) (All-get_or (IsAsNamed schemas) tables k table (slice_get_within tables k table is) all)

module _ {A : Type 0} where
  -- what is made of each place
  abbrev pub by_place : (ℕ → A) → List From1 → List A
  by_place make [] = []
  by_place make (table ∷ tables) = make 0 ∷ by_place (λ k. make (suc k)) tables

  -- what is made of each name of a place
  pub placed-by_place : (make : List ℕ → A) (k : ℕ) (tables : List From1) → map (λ table. make table.name) (placed_from k tables) ≡ by_place (λ j. make (112 ∷ letters (k + j))) tables
  placed-by_place make k [] = refl
  placed-by_place make k (table ∷ tables) =
      ap₂ (λ x xs. x ∷ xs) (ap (λ n. make (112 ∷ letters n)) (and_nothing k))
      (placed-by_place make (suc k) tables ∙ (λ i. by_place (λ j. make (112 ∷ letters (one_across k j i))) tables))

  module _ (named : Relations) (new : Relation) (read : Option Relation → A) where
    -- what is read at each place
    abbrev pub sided : ℕ → List From1 → List A
    sided zero [] = []
    sided zero (table ∷ tables) = read (Some new) ∷ map (λ table. read (named table.name)) tables
    sided (suc place) [] = []
    sided (suc place) (table ∷ tables) = read (named table.name) ∷ sided place tables

    behind : (at : ℕ → ℕ) (tables : List From1) → by_place (λ k. read (beside named new zero (suc (at k)) (slice_get tables k))) tables ≡ map (λ table. read (named table.name)) tables
    behind at [] = refl
    behind at (table ∷ tables) = ap₂ (λ x xs. x ∷ xs) (λ i. read (if some_more (at 0) i then Some new else named table.name)) (behind (λ k. at (suc k)) tables)

    one_before : (place k : ℕ) (o : Option From1) → beside named new (suc place) (suc k) o ≡ beside named new place k o
    one_before place k None = refl
    one_before place k (Some table) = λ i. if one_off k place i then Some new else named table.name

    -- and so in the order of the places
    pub beside-by_place : (place : ℕ) (tables : List From1) → by_place (λ k. read (beside named new place k (slice_get tables k))) tables ≡ sided place tables
    beside-by_place zero [] = refl
    beside-by_place (suc place) [] = refl
    beside-by_place zero (table ∷ tables) = ap (λ rest. read (Some new) ∷ rest) (behind (λ k. k) tables)
    beside-by_place (suc place) (table ∷ tables) =
        ap₂ (λ x xs. x ∷ xs) (λ i. read (if none_less place i then Some new else named table.name))
        ((λ i. by_place (λ k. read (one_before place k (slice_get tables k) i)) tables) ∙ beside-by_place place tables)

-- at its own place there are the new rows
pub beside_here : (named : Relations) (new : Relation) (tables : List From1) (place : ℕ) (table : From1) → place < length tables → beside named new place place (slice_get tables place) ≡ Some new
beside_here named new tables place table within =
    ap (beside named new place place) (slice_get-get_or tables place table within) ∙ ap (λ b. if b then Some new else named (get_or tables place table).name) (eq-eqb place place refl)

-- The entries that the code holds, and the names that contracts see of them.
use Rattle.std.proofs.Common.{◌≡◌, slice_get, ◌++◌, ℕ, zero, suc, Bool, true, false, cond, not, List, [], ◌∷◌, Option, Some, None, map, filter, position, Result, Ok, Err, OnOk, OnErr, is_some, if◌then◌else◌, refl, sym, ap, ◌∙◌, subst, true≢false}
use Rattle.std.specs.Cmp.Lexicographic.{same_text}
use Rattle.std.specs.List.{All, AllByRecursion, IsDistinct}
use Rattle.std.specs.Map.{lookup, keys_of, remove_entry}
use Rattle.std.specs.Option.{IfSome, option_map}
use Rattle.std.specs.Str.{bytes_eq}
use Rattle.std.proofs.lemmas.List.Elements.{All-append, All-from_recursion, recursion_from_All}
use Rattle.std.proofs.lemmas.Map.Entries.{All-lookup}
use Rattle.std.proofs.lemmas.Option.{same_Some}
use Rattle.std.proofs.lemmas.Map.Keys.{IsDistinct-head, IsDistinct-tail}
use Rattle.indexmap.specs.IndexMap.{insert_entry, set_value_at}
use Rattle.indexmap.proofs.MapLemmas.{Found-position, insert_entry-first, some_index}
use Rattle.og_value.specs.declared.kind.What.{What}
use Rattle.og_value.specs.declared.kind.What.TheVariants as what
use Rattle.og_value.specs.declared.schema.Column.{Column}
use Rattle.og_db.specs.Database.{Relation}
use Rattle.og_db.specs.Entries.{held_of}
use Rattle.og_db.specs.Held.{Held, described, found, known_of, rows_of, made_of, changed_at, without}
use Rattle.og_db.specs.Live.{kept_at, kept_with}
use Rattle.og_db.specs.Runs.{is_stored, stored}
use Rattle.og_db.specs.declared.holding.Holding.{Holding}
use Rattle.og_db.proofs.WorldLemmas.{changed_same}

-- an entry of the map
abbrev Entry : Type 0
Entry = List ℕ × Holding

-- what a name is and its columns, as the map has them
abbrev what_and_columns : Holding → What × List Column
what_and_columns h = (h.what, h.schema)

module _ {A : Type 0} (f : Held Relation → A) (g : Holding → A) (same : (e : Entry) → f (held_of e) ≡ g e.1) where
  -- what is found under a name is what the map has there
  found_of : (es : List Entry) (name : List ℕ) → option_map f (found (map held_of es) name) ≡ option_map g (lookup (bytes_eq name) es)
  found_of [] name = refl
  found_of (e ∷ es) name =
      elim (bytes_eq name e.0) as (λ b. option_map f (cond b (Some (held_of e)) (found (map held_of es) name)) ≡ option_map g (cond b (Some e.1) (lookup (bytes_eq name) es))) [
        | true ↦ ap Some (same e)
        | false ↦ found_of es name
      ]

-- what each name is, and its columns
pub known_of-entries : (es : List Entry) (name : List ℕ) → known_of (map held_of es) name ≡ option_map what_and_columns (lookup (bytes_eq name) es)
known_of-entries = found_of described what_and_columns (λ e. refl)

-- a part of what a name is and its columns
part_of : {A : Type 0} (part : What × List Column → A) (es : List Entry) (name : List ℕ) → option_map part (known_of (map held_of es) name) ≡ option_map (λ h. part (what_and_columns h)) (lookup (bytes_eq name) es)
part_of part es name = ap (option_map part) (known_of-entries es name) ∙ twice (lookup (bytes_eq name) es)
  where
    twice : (o : Option Holding) → option_map part (option_map what_and_columns o) ≡ option_map (λ h. part (what_and_columns h)) o
    twice None = refl
    twice (Some h) = refl

-- what each name is
pub what_of-entries : (es : List Entry) (name : List ℕ) → option_map (λ k. k.0) (known_of (map held_of es) name) ≡ option_map (λ h. h.what) (lookup (bytes_eq name) es)
what_of-entries es name = part_of (λ k. k.0) es name

-- the columns of each name
pub columns_of-entries : (es : List Entry) (name : List ℕ) → option_map (λ k. k.1) (known_of (map held_of es) name) ≡ option_map (λ h. h.schema) (lookup (bytes_eq name) es)
columns_of-entries es name = part_of (λ k. k.1) es name

-- the relation of each name
pub rows_of-entries : (es : List Entry) (name : List ℕ) → rows_of (map held_of es) name ≡ option_map (λ h. h.rel) (lookup (bytes_eq name) es)
rows_of-entries = found_of (λ h. h.rows) (λ h. h.rel) (λ e. refl)

-- the names are the keys
pub names-entries : (es : List Entry) → keys_of es ≡ map (λ h. h.name) (map held_of es)
names-entries [] = refl
names-entries (e ∷ es) = ap (λ names. e.0 ∷ names) (names-entries es)

-- one more entry
pub held_of-push : (es : List Entry) (e : Entry) → map held_of (es ++ e ∷ []) ≡ map held_of es ++ held_of e ∷ []
held_of-push [] e = refl
held_of-push (d ∷ es) e = ap (λ hs. held_of d ∷ hs) (held_of-push es e)

module _ (P : Holding → Type 0) where
  -- what holds of each entry holds of each that is left
  pub All-removed : (test : List ℕ → Bool) (es : List Entry) → All (λ e. P e.1) es → All (λ e. P e.1) (remove_entry test es)
  All-removed test es all = All-from_recursion (λ e. P e.1) (remove_entry test es) (removed es (recursion_from_All (λ e. P e.1) es all))
    where
      removed : (es : List Entry) → AllByRecursion (λ e. P e.1) es → AllByRecursion (λ e. P e.1) (remove_entry test es)
      removed [] all = all
      removed (e ∷ es) all =
          elim (test e.0) as (λ b. AllByRecursion (λ e. P e.1) (cond b es (e ∷ remove_entry test es))) [
            | true ↦ all.1
            | false ↦ (all.0, removed es all.1)
          ]

  -- and of each with one more
  pub All-push : (es : List Entry) (e : Entry) → All (λ e. P e.1) es → P e.1 → All (λ e. P e.1) (es ++ e ∷ [])
  All-push es e all p = All-append (λ e. P e.1) es (e ∷ []) all (All-from_recursion (λ e. P e.1) (e ∷ []) (p, tt))

  -- and of each, where one has another holding of which it holds
  pub All-changed : (es : List Entry) (i : ℕ) (w : Holding) → P w → All (λ e. P e.1) es → All (λ e. P e.1) (set_value_at es i w)
  All-changed es i w p all = All-from_recursion (λ e. P e.1) (set_value_at es i w) (changed es i (recursion_from_All (λ e. P e.1) es all))
    where
      changed : (es : List Entry) (i : ℕ) → AllByRecursion (λ e. P e.1) es → AllByRecursion (λ e. P e.1) (set_value_at es i w)
      changed [] i all = all
      changed (e ∷ es) zero all = (p, all.1)
      changed (e ∷ es) (suc i) all = (all.0, changed es i all.1)

module _ (name : List ℕ) where
  -- no key of these is the name
  abbrev NoneNamed : List Entry → Type 0
  NoneNamed es = AllByRecursion (λ key. bytes_eq name key ≡ false) (keys_of es)

  -- behind the entry of a name no key is that name
  none_behind : (e : Entry) (es : List Entry) → bytes_eq name e.0 ≡ true → IsDistinct bytes_eq (keys_of (e ∷ es)) → NoneNamed es
  none_behind e es here apart =
      subst (λ n. AllByRecursion (λ key. bytes_eq n key ≡ false) (keys_of es)) (sym (same_text name e.0 (sym here))) (IsDistinct-head bytes_eq e.0 (keys_of es) apart)

  -- where no key is the name, nothing is taken out
  without_none : (es : List Entry) → NoneNamed es → without name (map held_of es) ≡ map held_of es
  without_none [] none = refl
  without_none (e ∷ es) none =
      ap (λ b. cond (not b) (held_of e ∷ without name (map held_of es)) (without name (map held_of es))) none.0 ∙ ap (λ hs. held_of e ∷ hs) (without_none es none.1)

  -- a name that is taken out of the map is taken out of the names
  pub without-entries : (es : List Entry) → IsDistinct bytes_eq (keys_of es) → map held_of (remove_entry (bytes_eq name) es) ≡ without name (map held_of es)
  without-entries [] apart = refl
  without-entries (e ∷ es) apart = at (bytes_eq name e.0) refl (without-entries es (IsDistinct-tail bytes_eq e.0 (keys_of es) apart))
    where
      at : (b : Bool) → bytes_eq name e.0 ≡ b → map held_of (remove_entry (bytes_eq name) es) ≡ without name (map held_of es)
          → map held_of (cond b es (e ∷ remove_entry (bytes_eq name) es)) ≡ cond (not b) (held_of e ∷ without name (map held_of es)) (without name (map held_of es))
      at true here rest = sym (without_none es (none_behind e es here apart))
      at false here rest = ap (λ hs. held_of e ∷ hs) rest

  module _ (f : Held Relation → Held Relation) where
    -- the names, where that one is changed
    abbrev changed : List (Held Relation) → List (Held Relation)
    changed hs = map (λ h. if bytes_eq name h.name then f h else h) hs

    -- where no key is the name, nothing is changed
    changed_none : (es : List Entry) → NoneNamed es → changed (map held_of es) ≡ map held_of es
    changed_none [] none = refl
    changed_none (e ∷ es) none =
        ap (λ b. (if b then f (held_of e) else held_of e) ∷ changed (map held_of es)) none.0 ∙ ap (λ hs. held_of e ∷ hs) (changed_none es none.1)

    module _ (old new : Holding) (made : (n : List ℕ) → held_of (n, new) ≡ f (held_of (n, old))) where
      inserted : (es : List Entry) → lookup (bytes_eq name) es ≡ Some old → IsDistinct bytes_eq (keys_of es) → map held_of (insert_entry bytes_eq es name new) ≡ changed (map held_of es)
      inserted [] is apart = cc
      inserted (e ∷ es) is apart = at (bytes_eq name e.0) refl is (λ is. inserted es is (IsDistinct-tail bytes_eq e.0 (keys_of es) apart))
        where
          at : (b : Bool) → bytes_eq name e.0 ≡ b → cond b (Some e.1) (lookup (bytes_eq name) es) ≡ Some old
              → (lookup (bytes_eq name) es ≡ Some old → map held_of (insert_entry bytes_eq es name new) ≡ changed (map held_of es))
              → map held_of (cond b ((e.0, new) ∷ es) (e ∷ insert_entry bytes_eq es name new)) ≡ (if b then f (held_of e) else held_of e) ∷ changed (map held_of es)
          at true here is rest =
              let old_is : e.1 ≡ old = cc is in
              (λ i. (made e.0 ∙ ap (λ o. f (held_of (e.0, o))) (sym old_is)) i ∷ sym (changed_none es (none_behind e es here apart)) i)
          at false here is rest = ap (λ hs. held_of e ∷ hs) (rest is)

      -- another holding at the place of a name is a change of that name
      pub changed-entries : (es : List Entry) (i : ℕ) → position (bytes_eq name) (keys_of es) ≡ Some i → lookup (bytes_eq name) es ≡ Some old → IsDistinct bytes_eq (keys_of es)
          → map held_of (set_value_at es i new) ≡ changed (map held_of es)
      changed-entries es i at is apart =
          ap (map held_of) (sym (insert_entry-first bytes_eq name new es i (Found-position (bytes_eq name) es i at).first)) ∙ inserted es is apart

module _ (name : List ℕ) (db : List (Held Relation)) (es : List Entry) (seen : map held_of es ≡ db) (i : ℕ) (old : Holding)
    (at : position (bytes_eq name) (keys_of es) ≡ Some i) (is : lookup (bytes_eq name) es ≡ Some old) where
  -- another relation at the place of a name is a change of that name
  pub with_relation : (f : Relation → Relation) (rel : Relation) → rel ≡ f old.rel → IsDistinct bytes_eq (keys_of es)
      → map held_of (set_value_at es i (record { what = old.what; schema = old.schema; rel = rel })) ≡ changed_at name f db
  with_relation f rel made apart =
      changed-entries name (made_of f) old (record { what = old.what; schema = old.schema; rel = rel }) (λ n j. record { name = n; what = old.what; columns = old.schema; rows = made j }) es i at is apart
      ∙ ap (changed_at name f) seen

  -- and the same relation there is no change
  pub with_same_relation : (rel : Relation) → rel ≡ old.rel → IsDistinct bytes_eq (keys_of es)
      → map held_of (set_value_at es i (record { what = old.what; schema = old.schema; rel = rel })) ≡ db
  with_same_relation rel same apart = with_relation (λ rows. rows) rel same apart ∙ changed_same name db

  -- and a kept result with another relation is that name as one
  pub with_kept : (rel : Relation) → IsDistinct bytes_eq (keys_of es) → map held_of (set_value_at es i (record { what = what.Kept; schema = old.schema; rel = rel })) ≡ kept_at name rel db
  with_kept rel apart =
      changed-entries name (kept_with rel) old (record { what = what.Kept; schema = old.schema; rel = rel }) (λ n. refl) es i at is apart ∙ ap (kept_at name rel) seen

-- the holding that stands at a place, with its own relation put there again
pub with_own_relation : (es : List Entry) (i : ℕ) (h : Holding) (rel : Relation) → slice_get (map (λ e. e.1) es) i ≡ Some h → rel ≡ h.rel
    → set_value_at es i (record { what = h.what; schema = h.schema; rel = rel }) ≡ es
with_own_relation [] i h rel there same = refl
with_own_relation (e ∷ es) zero h rel there same =
    let own : record { what = h.what; schema = h.schema; rel = rel } ≡ h = λ j. record { what = h.what; schema = h.schema; rel = same j } in
    ap (λ w. (e.0, w) ∷ es) (own ∙ sym (same_Some e.1 h there))
with_own_relation (e ∷ es) (suc i) h rel there same = ap (λ l. e ∷ l) (with_own_relation es i h rel there same)

-- entries that are taken out for what they are
pub stored-entries : (es : List Entry) → map held_of (filter (λ e. is_stored e.1.what) es) ≡ stored (map held_of es)
stored-entries [] = refl
stored-entries (e ∷ es) =
    elim (is_stored e.1.what) as (λ b. map held_of (cond b (e ∷ filter (λ e. is_stored e.1.what) es) (filter (λ e. is_stored e.1.what) es)) ≡ cond b (held_of e ∷ stored (map held_of es)) (stored (map held_of es))) [
      | true ↦ ap (λ hs. held_of e ∷ hs) (stored-entries es)
      | false ↦ stored-entries es
    ]

-- what holds of each holding holds of the one that a name has
pub All-named : (P : Holding → Type 0) (es : List Entry) (name : List ℕ) (h : Holding) → lookup (bytes_eq name) es ≡ Some h → All (λ e. P e.1) es → P h
All-named P es name h is all = subst (λ o. IfSome o P) is (All-lookup P (bytes_eq name) es all)

module _ (name : List ℕ) (db : List (Held Relation)) (es : List Entry) (seen : map held_of es ≡ db) {w : What} (columns : List Column) (known : known_of db name ≡ Some (w, columns)) where
  -- the columns of a name are those that the map has there
  pub has_columns : (h : Holding) → lookup (bytes_eq name) es ≡ Some h → columns ≡ h.schema
  has_columns h is = second {a = (w, columns)} {b = what_and_columns h} (sym known ∙ ap (λ db. known_of db name) (sym seen) ∙ known_of-entries es name ∙ ap (option_map what_and_columns) is)
    where
      inside : {A : Type 0} {a b : A} → Some a ≡ Some b → a ≡ b
      inside e = cc

      second : {a b : What × List Column} → Some a ≡ Some b → a.1 ≡ b.1
      second e = ap (λ k. k.1) (inside e)

  -- and the map has it
  pub is_there : {G : Type 0} → position (bytes_eq name) (keys_of es) ≡ None → G
  is_there none = nowhere (lookup (bytes_eq name) es) (sym (known_of-entries es name) ∙ ap (λ db. known_of db name) seen ∙ known) (sym (some_index (bytes_eq name) es) ∙ ap is_some none)
    where
      nowhere : {G : Type 0} (o : Option Holding) → option_map what_and_columns o ≡ Some (w, columns) → is_some o ≡ false → G
      nowhere None e none = cc
      nowhere (Some h) e none = absurd (true≢false none)

-- a name that is new is not in the map
pub is_new : (name : List ℕ) (db : List (Held Relation)) (es : List Entry) → map held_of es ≡ db → known_of db name ≡ None → lookup (bytes_eq name) es ≡ None
is_new name db es seen new = none (lookup (bytes_eq name) es) (sym (known_of-entries es name) ∙ ap (λ db. known_of db name) seen ∙ new)
  where
    none : (o : Option Holding) → option_map what_and_columns o ≡ None → o ≡ None
    none None e = refl
    none (Some h) e = cc

-- what a call ensures of both of its ends
pub either_way : {T E A B C : Type 0} (r : Result T E) → OnOk r A → OnErr r B → (A → C) → (B → C) → C
either_way (Ok x) a b f g = f a
either_way (Err e) a b f g = g b

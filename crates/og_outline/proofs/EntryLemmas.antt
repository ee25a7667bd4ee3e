-- The entries that the code holds, and the names and files that contracts see of them.
use Rattle.std.proofs.Common.{◌≡◌, ◌++◌, ℕ, Bool, true, false, cond, not, List, [], ◌∷◌, Option, Some, None, String, Global, string_bytes, map, if◌then◌else◌, refl, sym, ap, ◌∙◌, subst}
use Rattle.std.specs.Cmp.Lexicographic.{nat_list_eq_equiv}
use Rattle.std.specs.List.{IsDistinct}
use Rattle.std.specs.Map.{lookup, keys_of}
use Rattle.std.specs.Map.Calls.{RetainsPairs}
use Rattle.std.specs.Option.{option_map}
use Rattle.std.specs.Str.{bytes_eq}
use Rattle.std.specs.String.{string_eq}
use Rattle.std.proofs.lemmas.List.{map-append}
use Rattle.indexmap.specs.IndexMap.{insert_entry}
use Rattle.indexmap.proofs.MapLemmas.{absent_before}
use Rattle.og_value.specs.declared.kind.What.{What}
use Rattle.og_value.specs.declared.kind.What.TheVariants as what
use Rattle.og_value.specs.declared.schema.Column.{Column}
use Rattle.og_query.specs.declared.query.Query.{Query}
use Rattle.og_db.specs.Database.{Relation}
use Rattle.og_db.specs.Held.{Held, all_made_of, described, found, known_of, without}
use Rattle.og_db.proofs.WorldLemmas.{all_made_of-push, known_of-made_of}
use Rattle.og_outline.specs.Known.{ends_beside, is_over, known_held, without_base}
use Rattle.og_outline.specs.Outlines.{ended_without, ending_names, file_of}
use Rattle.og_outline.specs.declared.known.Known.{Known}
use Rattle.og_outline.specs.declared.outline.SavedFile.{SavedFile}

-- an entry of the map of names
abbrev pub Entry : Type 0
Entry = List ℕ × Known

-- what a name is and its columns, as the map has them
abbrev what_and_columns : Known → What × List Column
what_and_columns k = (k.what, k.schema)

-- what each name is, and its columns
pub known_of-entries : (es : List Entry) (name : List ℕ) → known_of (map known_held es) name ≡ option_map what_and_columns (lookup (bytes_eq name) es)
known_of-entries [] name = refl
known_of-entries (e ∷ es) name =
    elim (bytes_eq name e.0) as (λ b. option_map described (cond b (Some (known_held e)) (found (map known_held es) name)) ≡ option_map what_and_columns (cond b (Some e.1) (lookup (bytes_eq name) es))) [
      | true ↦ refl
      | false ↦ known_of-entries es name
    ]

-- a part of what a name is and its columns
part_of : {A : Type 0} (part : What × List Column → A) (es : List Entry) (name : List ℕ) → option_map part (known_of (map known_held es) name) ≡ option_map (λ k. part (what_and_columns k)) (lookup (bytes_eq name) es)
part_of part es name = ap (option_map part) (known_of-entries es name) ∙ twice (lookup (bytes_eq name) es)
  where
    twice : (o : Option Known) → option_map part (option_map what_and_columns o) ≡ option_map (λ k. part (what_and_columns k)) o
    twice None = refl
    twice (Some k) = refl

-- what each name is
pub what_of-entries : (es : List Entry) (name : List ℕ) → option_map (λ k. k.0) (known_of (map known_held es) name) ≡ option_map (λ k. k.what) (lookup (bytes_eq name) es)
what_of-entries es name = part_of (λ k. k.0) es name

-- the columns of each name
pub columns_of-entries : (es : List Entry) (name : List ℕ) → option_map (λ k. k.1) (known_of (map known_held es) name) ≡ option_map (λ k. k.schema) (lookup (bytes_eq name) es)
columns_of-entries es name = part_of (λ k. k.1) es name

-- the names are the keys
pub names-entries : (es : List Entry) → keys_of es ≡ map (λ h. h.name) (map known_held es)
names-entries [] = refl
names-entries (e ∷ es) = ap (λ names. e.0 ∷ names) (names-entries es)

-- a name that is new is not in the map
pub is_new : (es : List Entry) (name : List ℕ) → known_of (map known_held es) name ≡ None → lookup (bytes_eq name) es ≡ None
is_new es name new = none (lookup (bytes_eq name) es) (sym (known_of-entries es name) ∙ new)
  where
    none : (o : Option Known) → option_map what_and_columns o ≡ None → o ≡ None
    none None e = refl
    none (Some k) e = cc

-- ---- a name that is taken out

module _ {F : Type 0} (T : F → List ℕ → Known → Bool → Known → F → Type 0) (name : List ℕ) (f : F)
    (says : (k : List ℕ) (v : Known) (b : Bool) (w : Known) (g : F) → T f k v b w g → (b ≡ not (bytes_eq name k)) × (w ≡ without_base name v) × (g ≡ f)) where
  -- what is known of a name without the other
  left : (e : Entry) → known_held (e.0, without_base name e.1) ≡ ended_without name (known_held e)
  left e =
      elim (is_over name e.1.query) as (λ b. known_held (e.0, if b then record { what = what.Kept; schema = e.1.schema; query = None } else e.1)
      ≡ (if b then record { name = e.0; what = what.Kept; columns = e.1.schema; rows = None } else known_held e)) [
        | true ↦ refl
        | false ↦ refl
      ]

  -- the entries that are left, as the closure leaves each
  pub left-entries : (es kept : List Entry) → RetainsPairs T f es kept → map known_held kept ≡ map (ended_without name) (without name (map known_held es))
  left-entries [] kept h = ap (map known_held) h
  left-entries (e ∷ es) kept h =
      let s = says e.0 e.1 h.0 h.1 h.2 h.4 in
      ap (map known_held) (h.6 ∙ (λ i. cond (s.0 i) ((e.0, s.1 i) ∷ h.3) h.3))
      ∙ at (not (bytes_eq name e.0)) h.3 (left-entries es h.3 (subst (λ g. RetainsPairs T g es h.3) s.2 h.5))
    where
      rest : List (Held (Option Query))
      rest = without name (map known_held es)

      at : (b : Bool) (others : List Entry) → map known_held others ≡ map (ended_without name) rest
          → map known_held (cond b ((e.0, without_base name e.1) ∷ others) others) ≡ map (ended_without name) (cond b (known_held e ∷ rest) rest)
      at true others same = λ i. left e i ∷ same i
      at false others same = same

-- ---- names one after the other

-- the names that end beside another, with one entry more
pub ending-push : (name : List ℕ) (es : List Entry) (e : Entry) → ending_names name (map known_held (es ++ e ∷ [])) ≡ ending_names name (map known_held es) ++ (if ends_beside name e.0 e.1 then e.0 ∷ [] else [])
ending-push name [] e =
    elim (ends_beside name e.0 e.1) as (λ b. map (λ (h : Held (Option Query)). h.name) (cond b (known_held e ∷ []) []) ≡ (if b then e.0 ∷ [] else [])) [
      | true ↦ refl
      | false ↦ refl
    ]
ending-push name (d ∷ es) e = at (ends_beside name d.0 d.1) _ _ (ending-push name es e)
  where
    more : List (List ℕ)
    more = if ends_beside name e.0 e.1 then e.0 ∷ [] else []

    at : (b : Bool) (all some : List (Held (Option Query))) → map (λ h. h.name) all ≡ map (λ h. h.name) some ++ more
        → map (λ h. h.name) (cond b (known_held d ∷ all) all) ≡ map (λ h. h.name) (cond b (known_held d ∷ some) some) ++ more
    at true all some same = ap (λ names. d.0 ∷ names) same
    at false all some same = same

-- the names without rows
abbrev pub blank : List Entry → List (Held Relation)
blank es = all_made_of (λ _. []) (map known_held es)

-- with one entry more
pub blank-push : (es : List Entry) (e : Entry) → blank (es ++ e ∷ []) ≡ blank es ++ record { name = e.0; what = e.1.what; columns = e.1.schema; rows = [] } ∷ []
blank-push es e = ap (all_made_of (λ _. [])) (map-append known_held es (e ∷ [])) ∙ all_made_of-push (λ _. []) (map known_held es) (known_held e)

-- an entry has a new name for those before it
pub blank_new : (before after : List Entry) (e : Entry) → IsDistinct bytes_eq (keys_of (before ++ e ∷ after)) → known_of (blank before) e.0 ≡ None
blank_new before after e apart =
    known_of-made_of {W = Relation} (λ _. []) (map known_held before) e.0
    ∙ known_of-entries before e.0
    ∙ ap (option_map what_and_columns) (absent_before nat_list_eq_equiv before after e apart)

-- ---- files

-- what is found of a file
pub found-files : (es : List (String Global × SavedFile)) (file : List ℕ) → lookup (λ k. bytes_eq file (string_bytes k)) es ≡ lookup (bytes_eq file) (map file_of es)
found-files [] file = refl
found-files (e ∷ es) file = ap (λ o. cond (bytes_eq file (string_bytes e.0)) (Some e.1) o) (found-files es file)

-- a file that is saved
pub put-files : (es : List (String Global × SavedFile)) (file : String Global) (v : SavedFile) → map file_of (insert_entry string_eq es file v) ≡ insert_entry bytes_eq (map file_of es) (string_bytes file) v
put-files [] file v = refl
put-files (e ∷ es) file v =
    elim (bytes_eq (string_bytes file) (string_bytes e.0)) as (λ b. map file_of (cond b ((e.0, v) ∷ es) (e ∷ insert_entry string_eq es file v))
    ≡ cond b ((string_bytes e.0, v) ∷ map file_of es) (file_of e ∷ insert_entry bytes_eq (map file_of es) (string_bytes file) v)) [
      | true ↦ refl
      | false ↦ ap (λ rest. file_of e ∷ rest) (put-files es file v)
    ]

-- What SAVE and OPEN make of an outline.
use Rattle.std.proofs.Common.{◌≡◌, ◌++◌, ℕ, Bool, true, false, cond, List, [], ◌∷◌, Option, Some, None, length, refl, sym, ap, ◌∙◌, true≢false}
use Rattle.std.specs.Cmp.Lexicographic.{same_text}
use Rattle.std.specs.Map.{lookup}
use Rattle.std.specs.Option.{option_map}
use Rattle.std.specs.Str.{bytes_eq}
use Rattle.std.proofs.lemmas.List.{append-nil}
use Rattle.std.proofs.lemmas.Option.{same_Some}
use Rattle.indexmap.specs.IndexMap.{insert_entry}
use Rattle.og_value.specs.declared.kind.What.TheVariants as what
use Rattle.og_value.specs.declared.schema.Column.{Column}
use Rattle.og_query.specs.Fits.{columns_of, schemas_of}
use Rattle.og_db.specs.Database.{Relation}
use Rattle.og_db.specs.Effects.{Effect, Store, kept_as, opened, reopened, saved, size_after, sizes_after, with_file, with_name}
use Rattle.og_db.specs.Held.{Held, described, found, known_of, made_of}
use Rattle.og_outline.specs.Outlines.{IsOutlineOf, Outlined, bare, held_columns, lives_in, outlined_open, outlined_save, saved_columns}
use Rattle.og_outline.specs.declared.outline.SavedFile.{SavedFile}
use Rattle.og_outline.proofs.OutlineLemmas.{IsOutlineIn, bare-push, known_in, lives_in-push, of_sizes, one_more}

-- what is found of files where one is saved
found-saved : (files : List (List ℕ × SavedFile)) (file : List ℕ) (v : SavedFile) (other : List ℕ) → lookup (bytes_eq other) (insert_entry bytes_eq files file v) ≡ cond (bytes_eq other file) (Some v) (lookup (bytes_eq other) files)
found-saved [] file v other = refl
found-saved (e ∷ es) file v other = at (bytes_eq file e.0) refl (bytes_eq other e.0) refl (found-saved es file v other)
  where
    -- what is found where the first is found or not, and the file is the other or not
    first : Bool → SavedFile → Option SavedFile → Option SavedFile
    first b w rest = cond b (Some w) rest

    at : (same : Bool) → bytes_eq file e.0 ≡ same → (here : Bool) → bytes_eq other e.0 ≡ here
        → lookup (bytes_eq other) (insert_entry bytes_eq es file v) ≡ first (bytes_eq other file) v (lookup (bytes_eq other) es)
        → lookup (bytes_eq other) (cond same ((e.0, v) ∷ es) (e ∷ insert_entry bytes_eq es file v)) ≡ first (bytes_eq other file) v (first (bytes_eq other e.0) e.1 (lookup (bytes_eq other) es))
    at true is here there rest = ap (λ b. first b v (lookup (bytes_eq other) es)) key ∙ both (bytes_eq other file) ∙ ap (λ b. first (bytes_eq other file) v (first b e.1 (lookup (bytes_eq other) es))) (sym key)
      where
        key : bytes_eq other e.0 ≡ bytes_eq other file
        key = ap (bytes_eq other) (sym (same_text file e.0 (sym is)))

        both : (b : Bool) → first b v (lookup (bytes_eq other) es) ≡ first b v (first b e.1 (lookup (bytes_eq other) es))
        both true = refl
        both false = refl
    at false is true there rest =
        ap (λ b. first b e.1 (lookup (bytes_eq other) (insert_entry bytes_eq es file v))) there
        ∙ sym (ap (λ b. first b v (first (bytes_eq other e.0) e.1 (lookup (bytes_eq other) es))) apart ∙ ap (λ b. first b e.1 (lookup (bytes_eq other) es)) there)
      where
        from : (b : Bool) → bytes_eq other file ≡ b → b ≡ false
        from true same = absurd (true≢false (sym there ∙ ap (λ n. bytes_eq n e.0) (same_text other file (sym same)) ∙ is))
        from false same = refl

        apart : bytes_eq other file ≡ false
        apart = from (bytes_eq other file) refl
    at false is false there rest =
        ap (λ b. first b e.1 (lookup (bytes_eq other) (insert_entry bytes_eq es file v))) there
        ∙ rest
        ∙ sym (ap (λ b. first (bytes_eq other file) v (first b e.1 (lookup (bytes_eq other) es))) there)

-- what is found has the columns that are known of it
found_columns : (columns : List Column) (o : Option (Held ℕ)) → option_map (λ h. h.columns) o ≡ Some columns → (h : Held ℕ) × (o ≡ Some h) × (h.columns ≡ columns)
found_columns columns None e = cc e
found_columns columns (Some h) e = (h, refl, same_Some h.columns columns e)

module _ (o : Outlined) (sizes : Store ℕ) (is : IsOutlineIn o sizes) where
  -- a SAVE
  saves : (number : ℕ) (name file : List ℕ) (columns : List Column) → schemas_of (known_of o.names) name ≡ Some columns → IsOutlineIn (outlined_save number columns file o) (size_after sizes (saved name file))
  saves number name file columns known = record {
    names = is.names;
    live = is.live;
    files = λ other. ap (option_map (λ v. v.schema)) (found-saved o.files file (record { number = number; schema = columns }) other)
        ∙ at other (bytes_eq other file)
        ∙ ap (λ h. held_columns (with_file file h sizes.files) other) (sym held.1);
  }
    where
      same : (h : Option (Held ℕ)) → option_map (λ h. h.columns) h ≡ columns_of (option_map described h)
      same None = refl
      same (Some h) = refl

      held : (h : Held ℕ) × (found sizes.names name ≡ Some h) × (h.columns ≡ columns)
      held = found_columns columns (found sizes.names name) (same (found sizes.names name) ∙ ap columns_of (sym (known_in o sizes is name)) ∙ known)

      at : (other : List ℕ) (b : Bool) → option_map (λ v. v.schema) (cond b (Some (record { number = number; schema = columns })) (lookup (bytes_eq other) o.files))
          ≡ option_map (λ h. h.columns) (cond b (Some (kept_as file held.0)) (found sizes.files other))
      at other true = ap Some (sym held.2)
      at other false = is.files other

  -- a kept result more
  opens : (name : List ℕ) (columns : List Column) (most : Held ℕ) → made_of {V = ℕ} {W = Unit {0}} (λ _. tt) (record { name = name; what = what.Kept; columns = columns; rows = 0 }) ≡ made_of (λ _. tt) most
      → IsOutlineIn (outlined_open name columns o) (record { names = sizes.names ++ most ∷ []; files = sizes.files; live = sizes.live })
  opens name columns most one = record {
    names = bare-push o.names sizes.names is.names (record { name = name; what = what.Kept; columns = columns; rows = None }) most one;
    live = lives_in-push o.names (record { name = name; what = what.Kept; columns = columns; rows = None }) ∙ append-nil (lives_in o.names) ∙ is.live;
    files = is.files;
  }

  -- an OPEN of a file that was saved
  reopens : (name file : List ℕ) (columns : List Column) → saved_columns o.files file ≡ Some columns → IsOutlineIn (outlined_open name columns o) (size_after sizes (reopened name file))
  reopens name file columns known =
      let held = found_columns columns (found sizes.files file) (sym (is.files file) ∙ known) in
      let with_names = opens name columns (kept_as name held.0) (λ i. record { name = name; what = what.Kept; columns = sym held.2 i; rows = tt }) in
      record { names = with_names.names ∙ ap (λ h. bare (with_name name h sizes.names)) (sym held.1); live = with_names.live; files = is.files }

-- one SAVE more
pub one_save : (o : Outlined) (effects : List Effect) (number : ℕ) (name file : List ℕ) (columns : List Column) → IsOutlineOf o effects → schemas_of (known_of o.names) name ≡ Some columns
    → IsOutlineOf (outlined_save number columns file o) (effects ++ saved name file ∷ [])
one_save o effects number name file columns is known = one_more (outlined_save number columns file o) effects (saved name file) (saves o (sizes_after effects) (of_sizes o effects is) number name file columns known)

-- one OPEN more of a file that was saved
pub one_reopening : (o : Outlined) (effects : List Effect) (name file : List ℕ) (columns : List Column) → IsOutlineOf o effects → saved_columns o.files file ≡ Some columns
    → IsOutlineOf (outlined_open name columns o) (effects ++ reopened name file ∷ [])
one_reopening o effects name file columns is known = one_more (outlined_open name columns o) effects (reopened name file) (reopens o (sizes_after effects) (of_sizes o effects is) name file columns known)

-- one OPEN more of another file
pub one_opening : (o : Outlined) (effects : List Effect) (name : List ℕ) (columns : List Column) (rel : Relation) → IsOutlineOf o effects
    → IsOutlineOf (outlined_open name columns o) (effects ++ opened name columns rel ∷ [])
one_opening o effects name columns rel is =
    one_more (outlined_open name columns o) effects (opened name columns rel)
    (opens o (sizes_after effects) (of_sizes o effects is) name columns (record { name = name; what = what.Kept; columns = columns; rows = length rel }) refl)

-- Files in memory, as their map holds them and as contracts see them.
use Rattle.std.proofs.Common.{◌≡◌, ℕ, true, false, List, [], ◌∷◌, map, Some, option_map, Vec, Global, refl, sym, ap, ◌∙◌, cond}
use Rattle.std.proofs.lemmas.Bool.{not-true}
use Rattle.std.proofs.lemmas.Bool.Decides.{Decides-not}
use Rattle.std.proofs.lemmas.Slice.Eq.{bytes_eq-Decides}
use Rattle.std.specs.Str.{bytes_eq}
use Rattle.std.specs.Map.{lookup}
use Rattle.std.specs.Cmp.Lexicographic.{slice_cmp, texts_ties}
use Rattle.std.specs.Ordering.{nat_cmp}
use Rattle.std.specs.BTreeMap.{BTreeMap, is_at, get, Updates, IsUnchanged}
use Rattle.og_io.specs.Folders.{folder_of, IsSame, IsSameBut}

-- the map of a file's name to its bytes
abbrev pub Held : Type 0
Held = BTreeMap (List ℕ) (Vec ℕ Global)

-- a file as contracts see it
abbrev pub seen : List ℕ × Vec ℕ Global → List ℕ × List ℕ
seen e = (e.0, e.1.items)

-- the files as contracts see them
abbrev pub files : Held → List (List ℕ × List ℕ)
files held = map seen held.entries

seen_from : (name : List ℕ) (es : List (List ℕ × Vec ℕ Global)) → folder_of (map seen es) name ≡ option_map (λ v. v.items) (lookup (is_at (slice_cmp nat_cmp name)) es)
seen_from name [] = refl
seen_from name (e ∷ es) =
    ap (λ b. cond b (Some e.1.items) (folder_of (map seen es) name)) (texts_ties name e.0)
    ∙ elim (is_at (slice_cmp nat_cmp name) e.0) as (λ b. cond b (Some e.1.items) (folder_of (map seen es) name) ≡ option_map (λ v. v.items) (cond b (Some e.1) (lookup (is_at (slice_cmp nat_cmp name)) es))) [
      | true ↦ refl
      | false ↦ seen_from name es
    ]

-- the file of a name
pub file_seen : (name : List ℕ) (held : Held) → folder_of (files held) name ≡ option_map (λ v. v.items) (get (slice_cmp nat_cmp) held name)
file_seen name held = seen_from name held.entries

-- a file that was put
pub put_seen : (name : List ℕ) (file : Vec ℕ Global) (old now : Held) → Updates (slice_cmp nat_cmp) old now name (Some file) → folder_of (files now) name ≡ Some file.items
put_seen name file old now u = file_seen name now ∙ ap (option_map (λ v. v.items)) u.1

not_at : (name other : List ℕ) → ¬ (other ≡ name) → is_at (slice_cmp nat_cmp name) other ≡ false
not_at name other differ = sym (texts_ties name other) ∙ not-true (bytes_eq name other) ((Decides-not _ (bytes_eq-Decides name other)).1 (λ e. differ (sym e)))

-- the others stay
pub others_stay : (name : List ℕ) (file : Vec ℕ Global) (old now : Held) → Updates (slice_cmp nat_cmp) old now name (Some file) → IsSameBut name (folder_of (files old)) (folder_of (files now))
others_stay name file old now u other differ =
    file_seen other now ∙ ap (option_map (λ v. v.items)) (u.2 other (not_at name other differ)) ∙ sym (file_seen other old)

-- no file changes where the map does not
pub all_stay : (old now : Held) → IsUnchanged old now → IsSame (folder_of (files old)) (folder_of (files now))
all_stay old now u name = ap (λ es. folder_of (map seen es) name) u

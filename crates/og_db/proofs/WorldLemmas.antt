-- Names that are changed, and the worlds of a day that they stand for.
use Rattle.std.proofs.Common.{◌≡◌, ◌++◌, ℕ, Bool, true, false, cond, not, List, [], ◌∷◌, Option, Some, None, map, if◌then◌else◌, refl, sym, ap, ◌∙◌, subst, true≢false}
use Rattle.std.specs.Cmp.Lexicographic.{same_text}
use Rattle.std.specs.List.{AllByRecursion, IsDistinct}
use Rattle.std.specs.Option.{option_map}
use Rattle.std.specs.Str.{bytes_eq}
use Rattle.std.proofs.lemmas.Map.Keys.{IsDistinct-head, IsDistinct-tail}
use Rattle.og_db.specs.Held.{Held, described, found, known_of, rows_of, made_of, all_made_of, changed_at, put_at, without}
use Rattle.og_db.specs.Statements.{or_else}

-- what is so of all names but one, and of that one where a test is false
module _ {V : Type 0} (name : List ℕ) where
  -- where names are apart, all rows under a name are those that are found there
  pub rows_found : (db : List (Held V)) (rows : V) → rows_of db name ≡ Some rows → IsDistinct bytes_eq (map (λ h. h.name) db) → AllByRecursion (λ h. bytes_eq name h.name ≡ true → h.rows ≡ rows) db
  rows_found [] rows is apart = tt
  rows_found (h ∷ hs) rows is apart = at (bytes_eq name h.name) refl is (λ is. rows_found hs rows is (IsDistinct-tail bytes_eq h.name (map (λ h. h.name) hs) apart))
    where
      none_behind : (hs : List (Held V)) → AllByRecursion (λ key. bytes_eq name key ≡ false) (map (λ h. h.name) hs) → AllByRecursion (λ h. bytes_eq name h.name ≡ true → h.rows ≡ rows) hs
      none_behind [] none = tt
      none_behind (h ∷ hs) none = (λ here. absurd (true≢false (sym here ∙ none.0)), none_behind hs none.1)

      at : (b : Bool) → bytes_eq name h.name ≡ b → option_map (λ h. h.rows) (cond b (Some h) (found hs name)) ≡ Some rows
          → (rows_of hs name ≡ Some rows → AllByRecursion (λ h. bytes_eq name h.name ≡ true → h.rows ≡ rows) hs)
          → (bytes_eq name h.name ≡ true → h.rows ≡ rows) × AllByRecursion (λ h. bytes_eq name h.name ≡ true → h.rows ≡ rows) hs
      at true here is rest =
          (λ _. cc is, none_behind hs (subst (λ n. AllByRecursion (λ key. bytes_eq n key ≡ false) (map (λ h. h.name) hs)) (sym (same_text name h.name (sym here))) (IsDistinct-head bytes_eq h.name (map (λ h. h.name) hs) apart)))
      at false here is rest = (λ t. absurd (true≢false (sym t ∙ here)), rest is)

  -- the rows under another name are what they were
  pub rows_of-others : (g : V → V) (db : List (Held V)) (other : List ℕ) → ¬ (other ≡ name) → rows_of (changed_at name g db) other ≡ rows_of db other
  rows_of-others g [] other another = refl
  rows_of-others g (h ∷ hs) other another = at (bytes_eq name h.name) (bytes_eq other h.name) refl refl (rows_of-others g hs other another)
    where
      at : (b c : Bool) → bytes_eq name h.name ≡ b → bytes_eq other h.name ≡ c → rows_of (changed_at name g hs) other ≡ rows_of hs other
          → rows_of ((if b then made_of g h else h) ∷ changed_at name g hs) other ≡ rows_of (h ∷ hs) other
      at true true here there rest = absurd (another (same_text other h.name (sym there) ∙ sym (same_text name h.name (sym here))))
      at true false here there rest =
          ap (λ c. option_map (λ h. h.rows) (cond c (Some (made_of g h)) (found (changed_at name g hs) other))) there
          ∙ rest
          ∙ sym (ap (λ c. option_map (λ h. h.rows) (cond c (Some h) (found hs other))) there)
      at false true here there rest =
          ap (λ c. option_map (λ h. h.rows) (cond c (Some h) (found (changed_at name g hs) other))) there
          ∙ sym (ap (λ c. option_map (λ h. h.rows) (cond c (Some h) (found hs other))) there)
      at false false here there rest =
          ap (λ c. option_map (λ h. h.rows) (cond c (Some h) (found (changed_at name g hs) other))) there
          ∙ rest
          ∙ sym (ap (λ c. option_map (λ h. h.rows) (cond c (Some h) (found hs other))) there)

  -- each name is what it was, with its columns
  pub known_of-changed_at : (g : V → V) (db : List (Held V)) (other : List ℕ) → known_of (changed_at name g db) other ≡ known_of db other
  known_of-changed_at g [] other = refl
  known_of-changed_at g (h ∷ hs) other = at (bytes_eq name h.name) (known_of-changed_at g hs other)
    where
      here : (same : Held V) → described same ≡ described h → known_of (changed_at name g hs) other ≡ known_of hs other → (c : Bool)
          → option_map described (cond c (Some same) (found (changed_at name g hs) other)) ≡ option_map described (cond c (Some h) (found hs other))
      here same e rest true = ap Some e
      here same e rest false = rest

      at : (b : Bool) → known_of (changed_at name g hs) other ≡ known_of hs other → known_of ((if b then made_of g h else h) ∷ changed_at name g hs) other ≡ known_of (h ∷ hs) other
      at true rest = here (made_of g h) refl rest (bytes_eq other h.name)
      at false rest = here h refl rest (bytes_eq other h.name)

  -- what is made of changed names is a change of what is made of them
  pub made_of-changed_at : {W : Type 0} (at : V → W) (g : V → V) (f : W → W) (db : List (Held V)) → AllByRecursion (λ h. bytes_eq name h.name ≡ true → at (g h.rows) ≡ f (at h.rows)) db
      → all_made_of at (changed_at name g db) ≡ changed_at name f (all_made_of at db)
  made_of-changed_at at g f [] all = refl
  made_of-changed_at at g f (h ∷ hs) all = λ i. one (bytes_eq name h.name) all.0 i ∷ made_of-changed_at at g f hs all.1 i
    where
      one : (b : Bool) → (b ≡ true → at (g h.rows) ≡ f (at h.rows)) → made_of at (if b then made_of g h else h) ≡ (if b then made_of f (made_of at h) else made_of at h)
      one true e = λ i. record { name = h.name; what = h.what; columns = h.columns; rows = e refl i }
      one false e = refl

  -- the same, where it is so of any rows
  pub made_of-changed_everywhere : {W : Type 0} (at : V → W) (g : V → V) (f : W → W) (db : List (Held V)) → ((rows : V) → at (g rows) ≡ f (at rows))
      → all_made_of at (changed_at name g db) ≡ changed_at name f (all_made_of at db)
  made_of-changed_everywhere at g f db e = made_of-changed_at at g f db (everywhere db)
    where
      everywhere : (db : List (Held V)) → AllByRecursion (λ h. bytes_eq name h.name ≡ true → at (g h.rows) ≡ f (at h.rows)) db
      everywhere [] = tt
      everywhere (h ∷ hs) = (λ _. e h.rows, everywhere hs)

  -- and where all rows under the name are changed to the same, of which it is so
  pub made_of-changed_to : {W : Type 0} (at : V → W) (old new : V) (f : W → W) (db : List (Held V)) → rows_of db name ≡ Some old → IsDistinct bytes_eq (map (λ h. h.name) db) → at new ≡ f (at old)
      → all_made_of at (changed_at name (λ _. new) db) ≡ changed_at name f (all_made_of at db)
  made_of-changed_to at old new f db is apart e =
      made_of-changed_at at (λ _. new) f db (each db (rows_found db old is apart))
    where
      each : (db : List (Held V)) → AllByRecursion (λ h. bytes_eq name h.name ≡ true → h.rows ≡ old) db → AllByRecursion (λ h. bytes_eq name h.name ≡ true → at new ≡ f (at h.rows)) db
      each [] all = tt
      each (h ∷ hs) all = (λ here. e ∙ ap (λ rows. f (at rows)) (sym (all.0 here)), each hs all.1)

module _ {V : Type 0} (name : List ℕ) where
  -- changes that make the same of the rows of that name
  changed_at-alike : (g f : V → V) (db : List (Held V)) → AllByRecursion (λ h. bytes_eq name h.name ≡ true → g h.rows ≡ f h.rows) db → changed_at name g db ≡ changed_at name f db
  changed_at-alike g f [] all = refl
  changed_at-alike g f (h ∷ hs) all = λ i. one (bytes_eq name h.name) all.0 i ∷ changed_at-alike g f hs all.1 i
    where
      one : (b : Bool) → (b ≡ true → g h.rows ≡ f h.rows) → (if b then made_of g h else h) ≡ (if b then made_of f h else h)
      one true e = λ i. record { name = h.name; what = h.what; columns = h.columns; rows = e refl i }
      one false e = refl

  -- where names are apart, what is made of the rows of a name is put in their place by a change of that name
  pub put_at-made : (old : V) (f : V → V) (db : List (Held V)) → rows_of db name ≡ Some old → IsDistinct bytes_eq (map (λ h. h.name) db) → put_at name (f old) db ≡ changed_at name f db
  put_at-made old f db is apart = changed_at-alike (λ _. f old) f db (each db (rows_found name db old is apart))
    where
      each : (db : List (Held V)) → AllByRecursion (λ h. bytes_eq name h.name ≡ true → h.rows ≡ old) db → AllByRecursion (λ h. bytes_eq name h.name ≡ true → f old ≡ f h.rows) db
      each [] all = tt
      each (h ∷ hs) all = (λ here. ap f (sym (all.0 here)), each hs all.1)

-- a name that is changed to what it was
pub changed_same : {V : Type 0} (name : List ℕ) (hs : List (Held V)) → changed_at name (λ rows. rows) hs ≡ hs
changed_same name [] = refl
changed_same name (h ∷ hs) = λ i. as_it_was (bytes_eq name h.name) i ∷ changed_same name hs i
  where
    as_it_was : (b : Bool) → (if b then made_of (λ rows. rows) h else h) ≡ h
    as_it_was true = refl
    as_it_was false = refl

module _ {V W : Type 0} (f : V → W) where
  -- one more name
  pub all_made_of-push : (hs : List (Held V)) (h : Held V) → all_made_of f (hs ++ h ∷ []) ≡ all_made_of f hs ++ made_of f h ∷ []
  all_made_of-push [] h = refl
  all_made_of-push (g ∷ hs) h = ap (λ rest. made_of f g ∷ rest) (all_made_of-push hs h)

  -- a name that is taken out
  pub all_made_of-without : (name : List ℕ) (hs : List (Held V)) → all_made_of f (without name hs) ≡ without name (all_made_of f hs)
  all_made_of-without name [] = refl
  all_made_of-without name (h ∷ hs) =
      elim (bytes_eq name h.name) as (λ b. all_made_of f (cond (not b) (h ∷ without name hs) (without name hs)) ≡ cond (not b) (made_of f h ∷ without name (all_made_of f hs)) (without name (all_made_of f hs))) [
        | true ↦ all_made_of-without name hs
        | false ↦ ap (λ rest. made_of f h ∷ rest) (all_made_of-without name hs)
      ]

  -- what is found under a name
  pub found-made_of : (hs : List (Held V)) (name : List ℕ) → found (all_made_of f hs) name ≡ option_map (made_of f) (found hs name)
  found-made_of [] name = refl
  found-made_of (h ∷ hs) name =
      elim (bytes_eq name h.name) as (λ b. cond b (Some (made_of f h)) (found (all_made_of f hs) name) ≡ option_map (made_of f) (cond b (Some h) (found hs name))) [
        | true ↦ refl
        | false ↦ found-made_of hs name
      ]

  -- what each name is, with its columns
  pub known_of-made_of : (hs : List (Held V)) (name : List ℕ) → known_of (all_made_of f hs) name ≡ known_of hs name
  known_of-made_of hs name = ap (option_map described) (found-made_of hs name) ∙ same (found hs name)
    where
      same : (o : Option (Held V)) → option_map described (option_map (made_of f) o) ≡ option_map described o
      same None = refl
      same (Some h) = refl

  -- the rows of a name, and another thing of an unknown one
  pub named-made_of : (none : W) (hs : List (Held V)) (name : List ℕ) → or_else none (rows_of (all_made_of f hs) name) ≡ or_else none (option_map f (rows_of hs name))
  named-made_of none hs name = ap (λ o. or_else none (option_map (λ h. h.rows) o)) (found-made_of hs name) ∙ same (found hs name)
    where
      same : (o : Option (Held V)) → or_else none (option_map (λ h. h.rows) (option_map (made_of f) o)) ≡ or_else none (option_map f (option_map (λ h. h.rows) o))
      same None = refl
      same (Some h) = refl

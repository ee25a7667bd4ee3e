-- What is found among the names that a statement leaves.
use Rattle.std.proofs.Common.{◌≡◌, ◌++◌, ◌&&◌, ◌∙◌, ℕ, Bool, true, false, cond, not, List, [], ◌∷◌, Option, Some, None, is_some, map, if◌then◌else◌, refl, sym, ap}
use Rattle.std.specs.Cmp.Lexicographic.{nat_list_eq_equiv, same_text}
use Rattle.std.specs.Option.{option_map}
use Rattle.std.specs.Str.{bytes_eq}
use Rattle.std.proofs.lemmas.Option.{same_Some}
use Rattle.og_value.specs.declared.kind.What.{What}
use Rattle.og_value.specs.declared.schema.Column.{Column}
use Rattle.og_query.specs.declared.query.Query.{Query}
use Rattle.og_db.specs.Held.{Held, described, found, known_of, made_of, rows_of, without}
use Rattle.og_db.specs.Live.{Live, answered, has_ended, kept_with, query_of, refreshed, settled}

-- one of two things, the first where it is there
abbrev pub first_of : {A : Type 0} → Option A → Option A → Option A
first_of (Some x) other = Some x
first_of None other = other

module _ {V : Type 0} where
  -- names with one more behind them
  pub found-push : (hs : List (Held V)) (h : Held V) (name : List ℕ) → found (hs ++ h ∷ []) name ≡ first_of (found hs name) (cond (bytes_eq name h.name) (Some h) None)
  found-push [] h name = refl
  found-push (k ∷ hs) h name = at (bytes_eq name k.name) (found-push hs h name)
    where
      at : (b : Bool) → found (hs ++ h ∷ []) name ≡ first_of (found hs name) (cond (bytes_eq name h.name) (Some h) None)
          → cond b (Some k) (found (hs ++ h ∷ []) name) ≡ first_of (cond b (Some k) (found hs name)) (cond (bytes_eq name h.name) (Some h) None)
      at true rest = refl
      at false rest = rest

  -- what was found is found
  pub found-more : (hs : List (Held V)) (h : Held V) (name : List ℕ) (k : What × List Column) → known_of hs name ≡ Some k → found (hs ++ h ∷ []) name ≡ found hs name
  found-more hs h name k is = found-push hs h name ∙ at (found hs name) is
    where
      at : (o : Option (Held V)) → option_map described o ≡ Some k → first_of o (cond (bytes_eq name h.name) (Some h) None) ≡ o
      at (Some g) is = refl
      at None is = cc is

  -- the live ones have what their queries answer
  pub refreshed-push : (f : Query → V) (live : List Live) (hs : List (Held V)) (h : Held V) → refreshed f live (hs ++ h ∷ []) ≡ refreshed f live hs ++ answered f (query_of live h.name) h ∷ []
  refreshed-push f live [] h = refl
  refreshed-push f live (k ∷ hs) h = ap (λ rest. answered f (query_of live k.name) k ∷ rest) (refreshed-push f live hs h)

  -- names that are each changed, and stay
  found-each : (change : List ℕ → Held V → Held V) → ((h : Held V) → (change h.name h).name ≡ h.name) → (hs : List (Held V)) (name : List ℕ) → found (map (λ h. change h.name h) hs) name ≡ option_map (change name) (found hs name)
  found-each change stays [] name = refl
  found-each change stays (h ∷ hs) name =
      ap (λ n. cond (bytes_eq name n) (Some (change h.name h)) (found (map (λ h. change h.name h) hs) name)) (stays h) ∙ at (bytes_eq name h.name) refl (found-each change stays hs name)
    where
      at : (b : Bool) → bytes_eq name h.name ≡ b → found (map (λ h. change h.name h) hs) name ≡ option_map (change name) (found hs name)
          → cond b (Some (change h.name h)) (found (map (λ h. change h.name h) hs) name) ≡ option_map (change name) (cond b (Some h) (found hs name))
      at true is rest = ap (λ n. Some (change n h)) (sym (same_text name h.name (sym is)))
      at false is rest = rest

  -- without one of them
  pub found-without : (gone : List ℕ) (hs : List (Held V)) (name : List ℕ) → bytes_eq gone name ≡ false → found (without gone hs) name ≡ found hs name
  found-without gone [] name other = refl
  found-without gone (h ∷ hs) name other = at (bytes_eq gone h.name) refl (found-without gone hs name other)
    where
      at : (b : Bool) → bytes_eq gone h.name ≡ b → found (without gone hs) name ≡ found hs name
          → found (cond (not b) (h ∷ without gone hs) (without gone hs)) name ≡ cond (bytes_eq name h.name) (Some h) (found hs name)
      at true is rest =
          rest ∙ sym (ap (λ c. cond c (Some h) (found hs name)) (ap (bytes_eq name) (sym (same_text gone h.name (sym is))) ∙ nat_list_eq_equiv.symm name gone ∙ other))
      at false is rest = ap (λ o. cond (bytes_eq name h.name) (Some h) o) rest

  -- what is known and has rows
  pub found_is : (hs : List (Held V)) (name : List ℕ) (k : What × List Column) (rows : V) → known_of hs name ≡ Some k → rows_of hs name ≡ Some rows
      → found hs name ≡ Some (record { name = name; what = k.0; columns = k.1; rows = rows })
  found_is [] name k rows known has = cc has
  found_is (h ∷ hs) name k rows known has = at (bytes_eq name h.name) refl known has (found_is hs name k rows)
    where
      at : (b : Bool) → bytes_eq name h.name ≡ b → option_map described (cond b (Some h) (found hs name)) ≡ Some k → option_map (λ h. h.rows) (cond b (Some h) (found hs name)) ≡ Some rows
          → (known_of hs name ≡ Some k → rows_of hs name ≡ Some rows → found hs name ≡ Some (record { name = name; what = k.0; columns = k.1; rows = rows }))
          → cond b (Some h) (found hs name) ≡ Some (record { name = name; what = k.0; columns = k.1; rows = rows })
      at true here known has rest =
          let same = same_text name h.name (sym here) in
          let is = same_Some (described h) k known in
          let rows_are = same_Some h.rows rows has in
          λ i. Some (record { name = sym same i; what = (is i).0; columns = (is i).1; rows = rows_are i })
      at false here known has rest = rest known has

-- a name that is settled keeps its rows
pub rows_of-settled : {V : Type 0} (before now : List Live) (hs : List (Held V)) (name : List ℕ) → rows_of (settled before now hs) name ≡ rows_of hs name
rows_of-settled {V} before now hs name =
    ap (option_map (λ h. h.rows)) (found-each (λ n h. one (has_ended before now n) h) (λ h. stays (has_ended before now h.name) h) hs name) ∙ by (has_ended before now name) (found hs name)
  where
    one : Bool → Held V → Held V
    one b h = if b then kept_with h.rows h else h

    stays : (b : Bool) (h : Held V) → (one b h).name ≡ h.name
    stays true h = refl
    stays false h = refl

    by : (b : Bool) (o : Option (Held V)) → option_map (λ h. h.rows) (option_map (one b) o) ≡ option_map (λ h. h.rows) o
    by b None = refl
    by true (Some h) = refl
    by false (Some h) = refl

-- live results with one more behind them
pub query_of-push : (live : List Live) (l : Live) (name : List ℕ) → query_of (live ++ l ∷ []) name ≡ first_of (query_of live name) (cond (bytes_eq name l.name) (Some l.query) None)
query_of-push [] l name = refl
query_of-push (k ∷ live) l name = at (bytes_eq name k.name) (query_of-push live l name)
  where
    at : (b : Bool) → query_of (live ++ l ∷ []) name ≡ first_of (query_of live name) (cond (bytes_eq name l.name) (Some l.query) None)
        → cond b (Some k.query) (query_of (live ++ l ∷ []) name) ≡ first_of (cond b (Some k.query) (query_of live name)) (cond (bytes_eq name l.name) (Some l.query) None)
    at true rest = refl
    at false rest = rest

-- a name after a statement, where it was live with the one query before, and is with the other now
abbrev left_as : {V : Type 0} → (Query → V) → Option Query → Option Query → Held V → Held V
left_as f was is h = answered f is (if is_some was && not (is_some is) then kept_with h.rows h else h)

module _ {V : Type 0} (f : Query → V) (before now : List Live) where
  -- the names after it
  abbrev pub left : List (Held V) → List (Held V)
  left hs = refreshed f now (settled before now hs)

  -- each is changed by itself
  each_left : (hs : List (Held V)) → left hs ≡ map (λ h. left_as f (query_of before h.name) (query_of now h.name) h) hs
  each_left [] = refl
  each_left (h ∷ hs) = λ i. one (has_ended before now h.name) i ∷ each_left hs i
    where
      kept : Bool → Held V
      kept b = if b then kept_with h.rows h else h

      one : (b : Bool) → answered f (query_of now (kept b).name) (kept b) ≡ answered f (query_of now h.name) (kept b)
      one true = refl
      one false = refl

  -- and stays
  left-name : (was is : Option Query) (h : Held V) → (left_as f was is h).name ≡ h.name
  left-name None None h = refl
  left-name None (Some query) h = refl
  left-name (Some other) None h = refl
  left-name (Some other) (Some query) h = refl

  -- so what is found is what was found, changed
  found-left : (hs : List (Held V)) (name : List ℕ) → found (left hs) name ≡ option_map (left_as f (query_of before name) (query_of now name)) (found hs name)
  found-left hs name =
      ap (λ ns. found ns name) (each_left hs)
      ∙ found-each (λ n h. left_as f (query_of before n) (query_of now n) h) (λ h. left-name (query_of before h.name) (query_of now h.name) h) hs name

  -- a live one has what its query answers
  pub found-live : (hs : List (Held V)) (name : List ℕ) (query : Query) → query_of now name ≡ Some query → found (left hs) name ≡ option_map (made_of (λ _. f query)) (found hs name)
  found-live hs name query is = found-left hs name ∙ ap (λ o. option_map (left_as f (query_of before name) o) (found hs name)) is ∙ by (query_of before name)
    where
      by : (was : Option Query) → option_map (left_as f was (Some query)) (found hs name) ≡ option_map (made_of (λ _. f query)) (found hs name)
      by None = refl
      by (Some other) = refl

  -- one that never was is as it was
  pub found-plain : (hs : List (Held V)) (name : List ℕ) → query_of before name ≡ None → query_of now name ≡ None → found (left hs) name ≡ found hs name
  found-plain hs name was is = found-left hs name ∙ (λ i. option_map (left_as f (was i) (is i)) (found hs name)) ∙ by (found hs name)
    where
      by : (o : Option (Held V)) → option_map (left_as f None None) o ≡ o
      by None = refl
      by (Some h) = refl

  -- and one that is live no more is a kept result
  pub found-ended : (hs : List (Held V)) (name : List ℕ) (query : Query) → query_of before name ≡ Some query → query_of now name ≡ None → found (left hs) name ≡ option_map (λ h. kept_with h.rows h) (found hs name)
  found-ended hs name query was is = found-left hs name ∙ (λ i. option_map (left_as f (was i) (is i)) (found hs name))

  -- all are in their places
  pub names-left : (hs : List (Held V)) → map (λ h. h.name) (left hs) ≡ map (λ h. h.name) hs
  names-left hs = ap (map (λ h. h.name)) (each_left hs) ∙ by hs
    where
      by : (hs : List (Held V)) → map (λ h. h.name) (map (λ h. left_as f (query_of before h.name) (query_of now h.name) h) hs) ≡ map (λ h. h.name) hs
      by [] = refl
      by (h ∷ hs) = λ i. left-name (query_of before h.name) (query_of now h.name) h i ∷ by hs i

-- Names whose live ones have what their queries answer, and what is made of them.
use Rattle.std.proofs.Common.{◌≡◌, ◌&&◌, ℕ, Bool, true, false, cond, not, List, [], ◌∷◌, Option, Some, None, is_some, if◌then◌else◌, refl, sym, ap, ◌∙◌}
use Rattle.std.specs.Option.{option_map}
use Rattle.std.specs.Str.{bytes_eq}
use Rattle.std.specs.Cmp.Lexicographic.{same_text}
use Rattle.og_query.specs.declared.query.Query.{Query}
use Rattle.og_db.specs.Held.{Held, described, found, known_of, rows_of, made_of, all_made_of, changed_at}
use Rattle.og_db.specs.Live.{Live, query_of, kept_with, kept_at, has_ended, settled, answered, refreshed}
use Rattle.og_db.specs.Runs.{is_stored, stored}

module _ {V W : Type 0} (f : V → W) where
  -- of names that are settled
  pub all_made_of-settled : (before now : List Live) (hs : List (Held V)) → all_made_of f (settled before now hs) ≡ settled before now (all_made_of f hs)
  all_made_of-settled before now [] = refl
  all_made_of-settled before now (h ∷ hs) = λ i. one (has_ended before now h.name) i ∷ all_made_of-settled before now hs i
    where
      one : (b : Bool) → made_of f (if b then kept_with h.rows h else h) ≡ (if b then kept_with (f h.rows) (made_of f h) else made_of f h)
      one true = refl
      one false = refl

  -- of a name that is a kept result now
  pub all_made_of-kept_at : (name : List ℕ) (rows : V) (hs : List (Held V)) → all_made_of f (kept_at name rows hs) ≡ kept_at name (f rows) (all_made_of f hs)
  all_made_of-kept_at name rows [] = refl
  all_made_of-kept_at name rows (h ∷ hs) = λ i. one (bytes_eq name h.name) i ∷ all_made_of-kept_at name rows hs i
    where
      one : (b : Bool) → made_of f (if b then kept_with rows h else h) ≡ (if b then kept_with (f rows) (made_of f h) else made_of f h)
      one true = refl
      one false = refl

  -- of live names with what their queries answer
  pub all_made_of-refreshed : (answer : Query → V) (live : List Live) (hs : List (Held V)) → all_made_of f (refreshed answer live hs) ≡ refreshed (λ query. f (answer query)) live (all_made_of f hs)
  all_made_of-refreshed answer live [] = refl
  all_made_of-refreshed answer live (h ∷ hs) = λ i. one (query_of live h.name) i ∷ all_made_of-refreshed answer live hs i
    where
      one : (o : Option Query) → made_of f (answered answer o h) ≡ answered (λ query. f (answer query)) o (made_of f h)
      one None = refl
      one (Some query) = refl

  -- of the names but the live ones
  pub all_made_of-stored : (hs : List (Held V)) → all_made_of f (stored hs) ≡ stored (all_made_of f hs)
  all_made_of-stored [] = refl
  all_made_of-stored (h ∷ hs) =
      elim (is_stored h.what) as (λ b. all_made_of f (cond b (h ∷ stored hs) (stored hs)) ≡ cond b (made_of f h ∷ stored (all_made_of f hs)) (stored (all_made_of f hs))) [
        | true ↦ ap (λ rest. made_of f h ∷ rest) (all_made_of-stored hs)
        | false ↦ all_made_of-stored hs
      ]

-- where the same names are live before and after, none is settled
pub settled-same : {V : Type 0} (live : List Live) (hs : List (Held V)) → settled live live hs ≡ hs
settled-same live [] = refl
settled-same live (h ∷ hs) = λ i. one (is_some (query_of live h.name)) i ∷ settled-same live hs i
  where
    one : (b : Bool) → (if b && not b then kept_with h.rows h else h) ≡ h
    one true = refl
    one false = refl

module _ {V : Type 0} (live : List Live) where
  -- what live names had before is not seen
  pub refreshed-twice : (f g : Query → V) (hs : List (Held V)) → refreshed f live (refreshed g live hs) ≡ refreshed f live hs
  refreshed-twice f g [] = refl
  refreshed-twice f g (h ∷ hs) = λ i. one (query_of live h.name) refl i ∷ refreshed-twice f g hs i
    where
      one : (o : Option Query) → query_of live h.name ≡ o → answered f (query_of live (answered g o h).name) (answered g o h) ≡ answered f o h
      one None is = ap (λ o. answered f o h) is
      one (Some query) is = ap (λ o. answered f o (answered g (Some query) h)) is

  -- nor is it where a name was changed since
  pub refreshed-changed_at : (f g : Query → V) (name : List ℕ) (change : V → V) (hs : List (Held V)) → refreshed f live (changed_at name change (refreshed g live hs)) ≡ refreshed f live (changed_at name change hs)
  refreshed-changed_at f g name change [] = refl
  refreshed-changed_at f g name change (h ∷ hs) = λ i. one (query_of live h.name) refl i ∷ refreshed-changed_at f g name change hs i
    where
      -- the name as it is changed, and as its query answers then
      changed : Bool → Held V → Held V
      changed b h = if b then made_of change h else h

      now : Held V → Held V
      now h = answered f (query_of live h.name) h

      one : (o : Option Query) → query_of live h.name ≡ o → now (changed (bytes_eq name (answered g o h).name) (answered g o h)) ≡ now (changed (bytes_eq name h.name) h)
      one None is = refl
      one (Some query) is = at (bytes_eq name h.name)
        where
          at : (b : Bool) → now (changed b (answered g (Some query) h)) ≡ now (changed b h)
          at true = ap (λ o. answered f o (made_of change (answered g (Some query) h))) is ∙ sym (ap (λ o. answered f o (made_of change h)) is)
          at false = ap (λ o. answered f o (answered g (Some query) h)) is ∙ sym (ap (λ o. answered f o h) is)

  -- each name is what it was, with its columns
  pub known_of-refreshed : (f : Query → V) (hs : List (Held V)) (name : List ℕ) → known_of (refreshed f live hs) name ≡ known_of hs name
  known_of-refreshed f [] name = refl
  known_of-refreshed f (h ∷ hs) name = at (query_of live h.name) (known_of-refreshed f hs name)
    where
      by : (b : Bool) (same : Held V) → described same ≡ described h → known_of (refreshed f live hs) name ≡ known_of hs name
          → option_map described (cond b (Some same) (found (refreshed f live hs) name)) ≡ option_map described (cond b (Some h) (found hs name))
      by true same e rest = ap Some e
      by false same e rest = rest

      at : (o : Option Query) → known_of (refreshed f live hs) name ≡ known_of hs name
          → option_map described (cond (bytes_eq name (answered f o h).name) (Some (answered f o h)) (found (refreshed f live hs) name)) ≡ option_map described (cond (bytes_eq name h.name) (Some h) (found hs name))
      at None rest = by (bytes_eq name h.name) h refl rest
      at (Some query) rest = by (bytes_eq name h.name) (made_of (λ _. f query) h) refl rest

  -- a name that is not live has the rows that it had
  pub rows_of-refreshed : (f : Query → V) (name : List ℕ) → query_of live name ≡ None → (hs : List (Held V)) → rows_of (refreshed f live hs) name ≡ rows_of hs name
  rows_of-refreshed f name none [] = refl
  rows_of-refreshed f name none (h ∷ hs) = at (query_of live h.name) refl (rows_of-refreshed f name none hs)
    where
      under : Bool → Held V → List (Held V) → Option V
      under b h hs = option_map (λ h. h.rows) (cond b (Some h) (found hs name))

      some_is_none : {G : Type 0} {query : Query} → Some query ≡ None → G
      some_is_none e = cc e

      kept : (b : Bool) → rows_of (refreshed f live hs) name ≡ rows_of hs name → under b h (refreshed f live hs) ≡ under b h hs
      kept true rest = refl
      kept false rest = rest

      other : (query : Query) → query_of live h.name ≡ Some query → (b : Bool) → bytes_eq name h.name ≡ b → rows_of (refreshed f live hs) name ≡ rows_of hs name
          → under b (answered f (Some query) h) (refreshed f live hs) ≡ under b h hs
      other query is true here rest = some_is_none (sym is ∙ ap (query_of live) (sym (same_text name h.name (sym here))) ∙ none)
      other query is false here rest = rest

      at : (o : Option Query) → query_of live h.name ≡ o → rows_of (refreshed f live hs) name ≡ rows_of hs name
          → under (bytes_eq name (answered f o h).name) (answered f o h) (refreshed f live hs) ≡ under (bytes_eq name h.name) h hs
      at None is rest = kept (bytes_eq name h.name) rest
      at (Some query) is rest = other query is (bytes_eq name h.name) refl rest

-- What becomes of names and live results at the DROP of a name.
use Rattle.std.proofs.Common.{◌≡◌, ◌++◌, ◌&&◌, ◌||◌, ℕ, Bool, true, false, cond, not, List, [], ◌∷◌, Option, Some, None, is_some, map, filter, if◌then◌else◌, refl, sym, ap, ◌∙◌, subst}
use Rattle.std.specs.Cmp.Lexicographic.{nat_list_eq_equiv}
use Rattle.std.specs.List.{AllByRecursion, IsDistinct}
use Rattle.std.specs.Str.{bytes_eq}
use Rattle.std.proofs.lemmas.List.Elements.{All-filter, All-from_recursion, recursion_from_All}
use Rattle.std.proofs.lemmas.Map.Keys.{IsDistinct-cons, IsDistinct-head, IsDistinct-tail}
use Rattle.og_value.specs.declared.kind.What.TheVariants as what
use Rattle.og_query.specs.declared.query.Query.{Query}
use Rattle.og_db.specs.Held.{Held, made_of, without}
use Rattle.og_db.specs.Live.{Live, ends_with, has_ended, kept_with, query_of, settled, uses}
use Rattle.og_outline.specs.Known.{is_over}
use Rattle.og_outline.specs.Outlines.{bare, ended_without, live_at, lives_in}

-- ---- the queries of names

-- what each name is called
abbrev names_of : List (Held (Option Query)) → List (List ℕ)
names_of hs = map (λ h. h.name) hs

-- each name has among the live results the query that it holds
abbrev AreQueries : List Live → List (Held (Option Query)) → Type 0
AreQueries live hs = AllByRecursion (λ h. query_of live h.name ≡ h.rows) hs

-- a name that no other is has no query among theirs
no_query : (name : List ℕ) (hs : List (Held (Option Query))) → AllByRecursion (λ key. bytes_eq name key ≡ false) (names_of hs) → query_of (lives_in hs) name ≡ None
no_query name [] none = refl
no_query name (h ∷ hs) none = at h.rows (no_query name hs none.1)
  where
    at : (o : Option Query) → query_of (lives_in hs) name ≡ None → query_of (live_at h.name o ++ lives_in hs) name ≡ None
    at None rest = rest
    at (Some query) rest = ap (λ b. cond b (Some query) (query_of (lives_in hs) name)) none.0 ∙ rest

-- the query of another name is not seen
other_query : (h : Held (Option Query)) (live : List Live) (name : List ℕ) → bytes_eq name h.name ≡ false → query_of (live_at h.name h.rows ++ live) name ≡ query_of live name
other_query h live name other = at h.rows
  where
    at : (o : Option Query) → query_of (live_at h.name o ++ live) name ≡ query_of live name
    at None = refl
    at (Some query) = ap (λ b. cond b (Some query) (query_of live name)) other

-- where names differ, each has its own query
queries : (hs : List (Held (Option Query))) → IsDistinct bytes_eq (names_of hs) → AreQueries (lives_in hs) hs
queries [] apart = tt
queries (h ∷ hs) apart = (own h.rows, others hs none (queries hs (IsDistinct-tail bytes_eq h.name (names_of hs) apart)))
  where
    none : AllByRecursion (λ key. bytes_eq h.name key ≡ false) (names_of hs)
    none = IsDistinct-head bytes_eq h.name (names_of hs) apart

    own : (o : Option Query) → query_of (live_at h.name o ++ lives_in hs) h.name ≡ o
    own None = no_query h.name hs none
    own (Some query) = ap (λ b. cond b (Some query) (query_of (lives_in hs) h.name)) (nat_list_eq_equiv.refl h.name)

    others : (ks : List (Held (Option Query))) → AllByRecursion (λ key. bytes_eq h.name key ≡ false) (names_of ks) → AreQueries (lives_in hs) ks → AreQueries (live_at h.name h.rows ++ lives_in hs) ks
    others [] differ all = tt
    others (k ∷ ks) differ all = (other_query h (lives_in hs) k.name (nat_list_eq_equiv.symm k.name h.name ∙ differ.0) ∙ all.0, others ks differ.1 all.1)

module _ (name : List ℕ) where
  -- ---- the names that are left

  -- each keeps its name
  ended-name : (h : Held (Option Query)) → (ended_without name h).name ≡ h.name
  ended-name h =
      elim (is_over name h.rows) as (λ b. (if b then record { name = h.name; what = what.Kept; columns = h.columns; rows = None } else h).name ≡ h.name) [
        | true ↦ refl
        | false ↦ refl
      ]

  -- and its query, unless that is over the name
  ended-query : (h : Held (Option Query)) → (ended_without name h).rows ≡ (if is_over name h.rows then None else h.rows)
  ended-query h =
      elim (is_over name h.rows) as (λ b. (if b then record { name = h.name; what = what.Kept; columns = h.columns; rows = None } else h).rows ≡ (if b then None else h.rows)) [
        | true ↦ refl
        | false ↦ refl
      ]

  names-ended : (hs : List (Held (Option Query))) → names_of (map (ended_without name) hs) ≡ names_of hs
  names-ended [] = refl
  names-ended (h ∷ hs) = λ i. ended-name h i ∷ names-ended hs i

  -- where names differ, those that are left do
  apart_without : (hs : List (Held (Option Query))) → IsDistinct bytes_eq (names_of hs) → IsDistinct bytes_eq (names_of (without name hs))
  apart_without [] apart = apart
  apart_without (h ∷ hs) apart =
      at (bytes_eq name h.name) (without name hs) (none_without hs (IsDistinct-head bytes_eq h.name (names_of hs) apart)) (apart_without hs (IsDistinct-tail bytes_eq h.name (names_of hs) apart))
    where
      none_without : (ks : List (Held (Option Query))) → AllByRecursion (λ key. bytes_eq h.name key ≡ false) (names_of ks) → AllByRecursion (λ key. bytes_eq h.name key ≡ false) (names_of (without name ks))
      none_without [] none = tt
      none_without (k ∷ ks) none =
          elim (bytes_eq name k.name) as (λ b. AllByRecursion (λ key. bytes_eq h.name key ≡ false) (names_of (cond (not b) (k ∷ without name ks) (without name ks)))) [
            | true ↦ none_without ks none.1
            | false ↦ (none.0, none_without ks none.1)
          ]

      at : (b : Bool) (ks : List (Held (Option Query))) → AllByRecursion (λ key. bytes_eq h.name key ≡ false) (names_of ks) → IsDistinct bytes_eq (names_of ks)
          → IsDistinct bytes_eq (names_of (cond (not b) (h ∷ ks) ks))
      at true ks none rest = rest
      at false ks none rest = IsDistinct-cons bytes_eq h.name (names_of ks) none rest

  -- the live results that last
  pub lives_in-dropped : (hs : List (Held (Option Query))) → lives_in (map (ended_without name) (without name hs)) ≡ filter (λ l. not (ends_with name l)) (lives_in hs)
  lives_in-dropped [] = refl
  lives_in-dropped (h ∷ hs) = at (bytes_eq name h.name) refl h.rows (lives_in-dropped hs)
    where
      left : List (Held (Option Query))
      left = without name hs

      lasting : List Live
      lasting = filter (λ l. not (ends_with name l)) (lives_in hs)

      -- the name with a query
      with_query : Option Query → Held (Option Query)
      with_query o = record { name = h.name; what = h.what; columns = h.columns; rows = o }

      -- a live result of that name, which lasts unless it ends
      unless : Query → Bool → List Live
      unless query ends = cond (not ends) (record { name = h.name; query = query } ∷ lasting) lasting

      over : (query : Query) → lives_in (map (ended_without name) left) ≡ lasting → lives_in (ended_without name (with_query (Some query)) ∷ map (ended_without name) left) ≡ unless query (uses query name)
      over query rest =
          elim (uses query name) as (λ b. lives_in ((if b then record { name = h.name; what = what.Kept; columns = h.columns; rows = None } else with_query (Some query)) ∷ map (ended_without name) left) ≡ unless query b) [
            | true ↦ rest
            | false ↦ ap (λ live. record { name = h.name; query = query } ∷ live) rest
          ]

      at : (b : Bool) → bytes_eq name h.name ≡ b → (o : Option Query) → lives_in (map (ended_without name) left) ≡ lasting
          → lives_in (map (ended_without name) (cond (not b) (with_query o ∷ left) left)) ≡ filter (λ l. not (ends_with name l)) (live_at h.name o ++ lives_in hs)
      at true here None rest = rest
      at true here (Some query) rest = rest ∙ sym (ap (λ b. unless query (b || uses query name)) here)
      at false here None rest = rest
      at false here (Some query) rest = over query rest ∙ sym (ap (λ b. unless query (b || uses query name)) here)

  -- ---- what is settled

  -- a live result ends where its query is over the name
  over_ends : (o : Option Query) → is_some o && not (is_some (if is_over name o then None else o)) ≡ is_over name o
  over_ends None = refl
  over_ends (Some query) =
      elim (uses query name) as (λ b. not (is_some (if b then None else Some query)) ≡ b) [
        | true ↦ refl
        | false ↦ refl
      ]

  -- names that end become kept results, as their statement says
  ended-settled : (before now : List Live) (hs : List (Held (Option Query))) → AreQueries before hs → AreQueries now (map (ended_without name) hs) → bare (map (ended_without name) hs) ≡ bare (settled before now hs)
  ended-settled before now [] old new = refl
  ended-settled before now (h ∷ hs) old new = λ i. one i ∷ ended-settled before now hs old.1 new.1 i
    where
      ended : has_ended before now h.name ≡ is_over name h.rows
      ended =
          ap (λ o. is_some o && not (is_some (query_of now h.name))) old.0
          ∙ ap (λ o. is_some h.rows && not (is_some o)) (ap (query_of now) (sym (ended-name h)) ∙ new.0 ∙ ended-query h)
          ∙ over_ends h.rows

      alike : (b : Bool) → made_of {V = Option Query} {W = Unit {0}} (λ _. tt) (if b then record { name = h.name; what = what.Kept; columns = h.columns; rows = None } else h)
          ≡ made_of (λ _. tt) (if b then kept_with h.rows h else h)
      alike true = refl
      alike false = refl

      one : made_of {V = Option Query} {W = Unit {0}} (λ _. tt) (ended_without name h) ≡ made_of (λ _. tt) (if has_ended before now h.name then kept_with h.rows h else h)
      one = alike (is_over name h.rows) ∙ sym (ap (λ b. made_of {V = Option Query} {W = Unit {0}} (λ _. tt) (if b then kept_with h.rows h else h)) ended)

  -- where names differ, those that are left are settled so
  pub dropped-settled : (hs : List (Held (Option Query))) → IsDistinct bytes_eq (names_of hs)
      → bare (map (ended_without name) (without name hs)) ≡ bare (settled (lives_in hs) (filter (λ l. not (ends_with name l)) (lives_in hs)) (without name hs))
  dropped-settled hs apart =
      let left = without name hs in
      let old : AreQueries (lives_in hs) left =
      recursion_from_All (λ h. query_of (lives_in hs) h.name ≡ h.rows) left
      (All-filter (λ h. not (bytes_eq name h.name)) (λ h. query_of (lives_in hs) h.name ≡ h.rows) hs (All-from_recursion (λ h. query_of (lives_in hs) h.name ≡ h.rows) hs (queries hs apart))) in
      let new : AreQueries (filter (λ l. not (ends_with name l)) (lives_in hs)) (map (ended_without name) left) =
      subst (λ live. AreQueries live (map (ended_without name) left)) (lives_in-dropped hs)
      (queries (map (ended_without name) left) (subst (IsDistinct bytes_eq) (sym (names-ended left)) (apart_without hs apart))) in
      ended-settled (lives_in hs) (filter (λ l. not (ends_with name l)) (lives_in hs)) left old new

-- Each name that is known as live is a live result.
use Rattle.std.proofs.Common.{◌≡◌, ◌++◌, ◌∙◌, ℕ, Bool, true, false, cond, not, List, [], ◌∷◌, Option, Some, None, fold, is_some, refl, sym, ap, true≢false}
use Rattle.std.specs.Cmp.Lexicographic.{same_text}
use Rattle.std.specs.Option.{option_map}
use Rattle.std.specs.Str.{bytes_eq}
use Rattle.og_value.specs.declared.kind.What.TheVariants as what
use Rattle.og_value.specs.declared.schema.Column.{Column}
use Rattle.og_query.specs.Sizes.{query_size}
use Rattle.og_query.specs.declared.query.Query.{Query}
use Rattle.og_query.specs.declared.typed.Typed.TheVariants as t
use Rattle.og_db.specs.Effects.{Effect, Store, imported, kept_as, on_names, opened, reopened, saved, size_after, with_name}
use Rattle.og_db.specs.Held.{Held, described, found, known_of, without}
use Rattle.og_db.specs.Live.{Live, kept_with, live_after, query_of}
use Rattle.og_db.specs.Runs.{known_after, live_of}
use Rattle.og_db.specs.Statements.{OfNames, name_sizes_after, named_sizes}
use Rattle.og_db.proofs.WorldLemmas.{known_of-changed_at}
use Rattle.og_session.proofs.FollowedNames.{first_of, found-ended, found-plain, found-push, found-without, left, query_of-push}
use Rattle.og_session.proofs.LiveWorlds.{is_live}

-- a name without a query is not known as live
abbrev AreAll : {V : Type 0} → List (Held V) → List Live → Type 0
AreAll hs live = (name : List ℕ) → query_of live name ≡ None → is_live (known_of hs name) ≡ false

module _ {V : Type 0} where
  -- one name more
  more_not_live : (hs : List (Held V)) (h : Held V) (name : List ℕ) → is_live (known_of hs name) ≡ false → (bytes_eq name h.name ≡ true → is_live (Some (described h)) ≡ false)
      → is_live (known_of (hs ++ h ∷ []) name) ≡ false
  more_not_live hs h name none last = ap (λ o. is_live (option_map described o)) (found-push hs h name) ∙ at (found hs name) none (bytes_eq name h.name) last
    where
      at : (o : Option (Held V)) → is_live (option_map described o) ≡ false → (b : Bool) → (b ≡ true → is_live (Some (described h)) ≡ false)
          → is_live (option_map described (first_of o (cond b (Some h) None))) ≡ false
      at (Some k) none b last = none
      at None none true last = last refl
      at None none false last = refl

  -- a name that is gone
  found-gone : (gone : List ℕ) (hs : List (Held V)) (name : List ℕ) → bytes_eq gone name ≡ true → found (without gone hs) name ≡ None
  found-gone gone [] name same = refl
  found-gone gone (h ∷ hs) name same = at (bytes_eq gone h.name) refl (found-gone gone hs name same)
    where
      at : (b : Bool) → bytes_eq gone h.name ≡ b → found (without gone hs) name ≡ None → found (cond (not b) (h ∷ without gone hs) (without gone hs)) name ≡ None
      at true here rest = rest
      at false here rest = ap (λ c. cond c (Some h) (found (without gone hs) name)) (ap (λ n. bytes_eq n h.name) (sym (same_text gone name (sym same))) ∙ here) ∙ rest

  without_not_live : (gone : List ℕ) (hs : List (Held V)) (name : List ℕ) → is_live (known_of hs name) ≡ false → is_live (known_of (without gone hs) name) ≡ false
  without_not_live gone hs name none = at (bytes_eq gone name) refl
    where
      at : (b : Bool) → bytes_eq gone name ≡ b → is_live (known_of (without gone hs) name) ≡ false
      at true here = ap (λ o. is_live (option_map described o)) (found-gone gone hs name here)
      at false here = ap (λ o. is_live (option_map described o)) (found-without gone hs name here) ∙ none

  -- what a statement leaves, where it leaves no name as live that is no live result before or after it
  left_all : (f : Query → V) (before now : List Live) (hs : List (Held V)) → ((name : List ℕ) → query_of before name ≡ None → query_of now name ≡ None → is_live (known_of hs name) ≡ false)
      → AreAll (left f before now hs) now
  left_all f before now hs others name is = by (query_of before name) refl
    where
      kept : (o : Option (Held V)) → is_live (option_map described (option_map (λ h. kept_with h.rows h) o)) ≡ false
      kept None = refl
      kept (Some h) = refl

      by : (o : Option Query) → query_of before name ≡ o → is_live (known_of (left f before now hs) name) ≡ false
      by None was = ap (λ o. is_live (option_map described o)) (found-plain f before now hs name was is) ∙ others name was is
      by (Some query) was = ap (λ o. is_live (option_map described o)) (found-ended f before now hs name query was is) ∙ kept (found hs name)

-- the last live result has a query
last_has : (live : List Live) (l : Live) (name : List ℕ) → bytes_eq name l.name ≡ true → is_some (query_of (live ++ l ∷ []) name) ≡ true
last_has live l name same = ap is_some (query_of-push live l name ∙ ap (λ b. first_of (query_of live name) (cond b (Some l.query) None)) same) ∙ at (query_of live name)
  where
    at : (o : Option Query) → is_some (first_of o (Some l.query)) ≡ true
    at None = refl
    at (Some query) = refl

module _ (sizes : Store ℕ) (all : AreAll sizes.names sizes.live) where
  -- a statement leaves no other name as live
  after_all : (stmt : OfNames) (name : List ℕ) → query_of sizes.live name ≡ None → query_of (live_after sizes.live stmt.0) name ≡ None → is_live (known_of (name_sizes_after sizes.names stmt) name) ≡ false
  after_all (t.Create table columns, of) name was is = more_not_live sizes.names _ name (all name was) (λ same. refl)
  after_all (t.Insert table rows, of) name was is = ap is_live (known_of-changed_at table _ sizes.names name) ∙ all name was
  after_all (t.Delete table cond, of) name was is = all name was
  after_all (t.Update table sets cond, of) name was is = ap is_live (known_of-changed_at table _ sizes.names name) ∙ all name was
  after_all (t.Drop table, of) name was is = without_not_live table sizes.names name (all name was)
  after_all (t.Tables, of) name was is = all name was
  after_all (t.Keep other query, of) name was is = more_not_live sizes.names _ name (all name was) (λ same. refl)
  after_all (t.PrintName other day, of) name was is = all name was
  after_all (t.PrintQuery query day, of) name was is = all name was
  after_all (t.Save other file, of) name was is = absurd of
  after_all (t.OpenFile other file, of) name was is = absurd of
  after_all (t.ImportFile other file, of) name was is = absurd of
  after_all (t.Explain query, of) name was is = all name was
  after_all (t.Valid other day, of) name was is = all name was
  after_all (t.Live other query, of) name was is =
      more_not_live sizes.names _ name (all name was) (λ same. absurd (true≢false (sym (last_has sizes.live (record { name = other; query = query }) name same) ∙ ap is_some is)))

  statement_all : (stmt : OfNames) → AreAll (size_after sizes (on_names stmt)).names (live_after sizes.live stmt.0)
  statement_all stmt = left_all (query_size (named_sizes (name_sizes_after sizes.names stmt))) sizes.live (live_after sizes.live stmt.0) (name_sizes_after sizes.names stmt) (after_all stmt)

  -- nor does any effect
  all_step : (effect : Effect) → AreAll (size_after sizes effect).names (size_after sizes effect).live
  all_step (on_names stmt) = statement_all stmt
  all_step (saved name file) = all
  all_step (reopened name file) = by (found sizes.files file)
    where
      by : (o : Option (Held ℕ)) → AreAll (with_name name o sizes.names) sizes.live
      by None = all
      by (Some h) = λ other is. more_not_live sizes.names (kept_as name h) other (all other is) (λ same. refl)
  all_step (opened name columns rel) = λ other is. more_not_live sizes.names _ other (all other is) (λ same. refl)
  all_step (imported name rows) = statement_all (t.Insert name rows, tt)

all_steps : (effects : List Effect) (sizes : Store ℕ) → AreAll sizes.names sizes.live → AreAll (fold size_after sizes effects).names (fold size_after sizes effects).live
all_steps [] sizes all = all
all_steps (effect ∷ effects) sizes all = all_steps effects (size_after sizes effect) (all_step sizes all effect)

-- a name that is known as live has a query
pub live_has_query : (before : List Effect) (name : List ℕ) (columns : List Column) → known_after before name ≡ Some (what.Live, columns) → (query : Query) × (query_of (live_of before) name ≡ Some query)
live_has_query before name columns is = by (query_of (live_of before) name) refl
  where
    by : (o : Option Query) → query_of (live_of before) name ≡ o → (query : Query) × (query_of (live_of before) name ≡ Some query)
    by (Some query) has = (query, has)
    by None none = absurd (true≢false (sym (ap is_live is) ∙ all_steps before (record { names = []; files = []; live = [] }) (λ other none. refl) name none))

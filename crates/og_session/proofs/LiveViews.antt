-- The views of live results over a database.
use Rattle.std.proofs.Common.{◌≡◌, ◌++◌, ℕ, Bool, true, false, cond, List, [], ◌∷◌, Option, Some, None, refl, sym, ap, ◌∙◌, subst, true≢false}
use Rattle.std.specs.Cmp.Lexicographic.{same_text}
use Rattle.std.specs.List.{AllByRecursion}
use Rattle.std.specs.Map.{lookup}
use Rattle.std.specs.Option.{option_map}
use Rattle.std.specs.Str.{bytes_eq}
use Rattle.std.proofs.lemmas.List.Elements.{All-weaker, recursion_from_All}
use Rattle.std.proofs.lemmas.Option.{same_Some}
use Rattle.og_value.specs.declared.kind.What.TheVariants as what
use Rattle.og_query.specs.Fits.{columns_of}
use Rattle.og_db.specs.Database.{HaveKinds, Relation}
use Rattle.og_db.specs.Held.{Held, described, found, known_of, rows_of}
use Rattle.og_db.specs.Live.{uses}
use Rattle.og_view.specs.Views.{Seen}
use Rattle.og_session.specs.Answers.{AreHeld}
use Rattle.og_session.specs.Names.{AreLiveViews, IsLiveView, Views, with_views}
use Rattle.og_session.proofs.AnswerLemmas.{answer_over}
use Rattle.og_session.proofs.FollowedNames.{found-more}
use Rattle.og_session.proofs.LiveWorlds.{is_live}
use Rattle.og_session.proofs.NameLemmas.{known_of-shown, rows_of-plain, rows_of-some}
use Rattle.og_session.proofs.QueryLemmas.{used_table}

-- what each view has, one that is found has, under that name
pub of_lookup : (P : List ℕ × Seen → Type 0) (views : Views) (name : List ℕ) (view : Seen) → AllByRecursion P views → lookup (bytes_eq name) views ≡ Some view → P (name, view)
of_lookup P [] name view all is = cc is
of_lookup P (v ∷ views) name view all is = at (bytes_eq name v.0) refl is (of_lookup P views name view all.1)
  where
    at : (b : Bool) → bytes_eq name v.0 ≡ b → cond b (Some v.1) (lookup (bytes_eq name) views) ≡ Some view → (lookup (bytes_eq name) views ≡ Some view → P (name, view)) → P (name, view)
    at true here is more = subst P (λ i. (sym (same_text name v.0 (sym here)) i, same_Some v.1 view is i)) all.0
    at false here is more = more is

-- a live view over other names, where these hold the same under its name and under each name that it uses
pub live_over : (old new : List (Held Relation)) (v : List ℕ × Seen) → IsLiveView old v → found new v.0 ≡ found old v.0 → ((name : List ℕ) → uses v.1.query name ≡ true → found new name ≡ found old name) → IsLiveView new v
live_over old new v is own used = record {
  known = ap (option_map described) own ∙ is.known;
  rows = ap (option_map (λ h. h.rows)) own ∙ is.rows;
  settled = is.settled;
  answer = answer_over old new v.1.query v.1.result is.answer used;
}

module _ (db : List (Held Relation)) (views : Views) (all : AreLiveViews db views) where
  -- a view that is found is one of them
  pub found_view : (name : List ℕ) (view : Seen) → lookup (bytes_eq name) views ≡ Some view → IsLiveView db (name, view)
  found_view name view is = of_lookup (IsLiveView db) views name view (recursion_from_All (IsLiveView db) views all) is

  -- a name that is not live has no view
  pub unwatched : (name : List ℕ) → is_live (known_of db name) ≡ false → lookup (bytes_eq name) views ≡ None
  unwatched name none = at (lookup (bytes_eq name) views) refl
    where
      at : (o : Option Seen) → lookup (bytes_eq name) views ≡ o → lookup (bytes_eq name) views ≡ None
      at None there = there
      at (Some view) there = absurd (true≢false (sym (ap is_live (found_view name view there).known) ∙ none))

  -- nor has one that a view uses
  pub used_unwatched : (v : List ℕ × Seen) → IsLiveView db v → (name : List ℕ) → uses v.1.query name ≡ true → lookup (bytes_eq name) views ≡ None
  used_unwatched v is name used = unwatched name (ap is_live (used_table (known_of db) v.1.query is.answer.fits name used).1)

  -- they are live views of the database with one more name
  pub live_push : (h : Held Relation) → AreLiveViews (db ++ h ∷ []) views
  live_push h = All-weaker (IsLiveView db) (IsLiveView (db ++ h ∷ [])) one views all
    where
      one : (v : List ℕ × Seen) → IsLiveView db v → IsLiveView (db ++ h ∷ []) v
      one v is = live_over db (db ++ h ∷ []) v is (found-more db h v.0 (what.Live, v.1.query.first.schema) is.known) (λ name used.
          let table = used_table (known_of db) v.1.query is.answer.fits name used in
          found-more db h name (what.Table, table.0) table.1)

  -- each name that is known has a relation, whose rows fit its columns
  pub names_held : AreHeld (known_of db) (rows_of db) → AreHeld (known_of (with_views views db)) (rows_of (with_views views db))
  names_held held name columns is = at (lookup (bytes_eq name) views) refl (held name columns (ap columns_of known ∙ is))
    where
      known : known_of db name ≡ known_of (with_views views db) name
      known = sym (known_of-shown views db name)

      at : (o : Option Seen) → lookup (bytes_eq name) views ≡ o → (rel : Relation) × (rows_of db name ≡ Some rel) × HaveKinds columns rel → (rel : Relation) × (rows_of (with_views views db) name ≡ Some rel) × HaveKinds columns rel
      at None none there = (there.0, rows_of-plain views db name none ∙ there.1, there.2)
      at (Some view) is_view there =
          let live = found_view name view is_view in
          let same : view.query.first.schema ≡ columns = same_Some view.query.first.schema columns (sym (ap columns_of live.known) ∙ ap columns_of known ∙ is) in
          (view.result, rows_of-some views db name view there.0 is_view there.1, subst (λ cs. HaveKinds cs view.result) same live.answer.kinds)

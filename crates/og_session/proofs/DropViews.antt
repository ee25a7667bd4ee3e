-- The views that last where a name goes.
use Rattle.std.proofs.Common.{slice_index_or, ◌≡◌, ℕ, ℤ, Bool, true, false, cond, not, List, [], ◌∷◌, Some, None, refl, sym, ap, ◌∙◌, subst, true≢false}
use Rattle.std.specs.Cmp.Lexicographic.{nat_list_eq_equiv, same_text}
use Rattle.std.specs.List.{AllByRecursion, IsDistinct}
use Rattle.std.specs.Map.{lookup, keys_of}
use Rattle.std.specs.Str.{bytes_eq}
use Rattle.std.proofs.lemmas.Bool.{not-true, or_parts}
use Rattle.std.proofs.lemmas.List.Elements.{All-filter, All-from_recursion, filter_passes}
use Rattle.std.proofs.lemmas.Map.Keys.{IsDistinct-head, IsDistinct-tail}
use Rattle.std.proofs.lemmas.Option.{same_Some}
use Rattle.og_query.specs.Queries.{Fixed}
use Rattle.og_query.specs.declared.query.Query.{Query}
use Rattle.og_query.specs.declared.typed.Typed.TheVariants as t
use Rattle.og_db.specs.Database.{Relation, names_at}
use Rattle.og_db.specs.Effects.{on_names, sizes_after}
use Rattle.og_db.specs.Held.{Held, found, without}
use Rattle.og_db.specs.Live.{refreshed, settled, uses}
use Rattle.og_db.specs.Runs.{AreWithin, sizes_at}
use Rattle.og_db.specs.Statements.{names_after, name_sizes_after}
use Rattle.og_view.specs.Views.{Seen}
use Rattle.og_session.specs.Following.{lasting, settle_views, view_ends}
use Rattle.og_session.specs.Names.{AreLiveViews, IsDone, IsLiveView, Views, lives_of, watched, with_views}
use Rattle.og_session.proofs.DropLemmas.{found_settled, lives-lasting}
use Rattle.og_session.proofs.DropSteps.{none_behind}
use Rattle.og_session.proofs.FollowedNames.{found-without}
use Rattle.og_session.proofs.LiveViews.{live_over, used_unwatched}
use Rattle.og_session.proofs.QueryLemmas.{used_differs}
use Rattle.og_session.proofs.Running.{carried_out}

-- what is there is not none
some_is_none : {G : Type 0} {s : Seen} → Some s ≡ None → G
some_is_none e = cc e

-- each view is the one of its name
looked_up : (views : Views) → IsDistinct bytes_eq (keys_of views) → AllByRecursion (λ v. lookup (bytes_eq v.0) views ≡ Some v.1) views
looked_up [] apart = tt
looked_up (v ∷ views) apart = (
  ap (λ b. cond b (Some v.1) (lookup (bytes_eq v.0) views)) (nat_list_eq_equiv.refl v.0),
  behind views (IsDistinct-head bytes_eq v.0 (keys_of views) apart) (looked_up views (IsDistinct-tail bytes_eq v.0 (keys_of views) apart)),
)
  where
    behind : (vs : Views) → AllByRecursion (λ key. bytes_eq v.0 key ≡ false) (keys_of vs) → AllByRecursion (λ u. lookup (bytes_eq u.0) views ≡ Some u.1) vs
        → AllByRecursion (λ u. lookup (bytes_eq u.0) (v ∷ views) ≡ Some u.1) vs
    behind [] other all = tt
    behind (u ∷ vs) other all = (
      ap (λ b. cond b (Some v.1) (lookup (bytes_eq u.0) views)) (nat_list_eq_equiv.symm u.0 v.0 ∙ other.0) ∙ all.0,
      behind vs other.1 all.1,
    )

module _ (name : List ℕ) where
  -- where the view of a name does not end, those that end have others
  others : (views : Views) → IsDistinct bytes_eq (keys_of views) → (n : List ℕ) → ((s : Seen) → lookup (bytes_eq n) views ≡ Some s → view_ends name (n, s) ≡ false)
      → AllByRecursion (λ v. view_ends name v ≡ true → bytes_eq n v.0 ≡ false) views
  others [] apart n lasts = tt
  others (v ∷ views) apart n lasts = at (bytes_eq n v.0) refl (λ later. others views (IsDistinct-tail bytes_eq v.0 (keys_of views) apart) n later)
    where
      at : (b : Bool) → bytes_eq n v.0 ≡ b
          → (((s : Seen) → lookup (bytes_eq n) views ≡ Some s → view_ends name (n, s) ≡ false) → AllByRecursion (λ v. view_ends name v ≡ true → bytes_eq n v.0 ≡ false) views)
          → AllByRecursion (λ v. view_ends name v ≡ true → bytes_eq n v.0 ≡ false) (v ∷ views)
      at true is rest = (
        (λ ends. absurd (true≢false (sym ends ∙ ap (λ k. view_ends name (k, v.1)) (sym (same_text n v.0 (sym is))) ∙ lasts v.1 (ap (λ b. cond b (Some v.1) (lookup (bytes_eq n) views)) is)))),
        rest (λ s there. some_is_none (sym there ∙ none_behind n v views apart is)),
      )
      at false is rest = ((λ _. is), rest (λ s there. lasts s (ap (λ b. cond b (Some v.1) (lookup (bytes_eq n) views)) is ∙ there)))

module _ (name : List ℕ) (db : List (Held Relation)) (views : Views) (apart : IsDistinct bytes_eq (keys_of views)) (all : AreLiveViews db views) where
  abbrev left : List (Held Relation)
  left = without name (settle_views name views db)

  -- a name whose view does not end stays what it is
  found_left : (n : List ℕ) → bytes_eq name n ≡ false → ((s : Seen) → lookup (bytes_eq n) views ≡ Some s → view_ends name (n, s) ≡ false) → found left n ≡ found db n
  found_left n differs lasts = found-without name (settle_views name views db) n differs ∙ found_settled name n views db (others name views apart n lasts)

  -- the views that last are live views of what is left
  pub watched_left : AreLiveViews left (lasting name views)
  watched_left = λ k x below. one (slice_index_or (lasting name views) k x)
      (All-filter (λ v. not (view_ends name v)) (IsLiveView db) views all k x below)
      (All-filter (λ v. not (view_ends name v)) IsOwn views (All-from_recursion IsOwn views (looked_up views apart)) k x below)
      (not-true _ (filter_passes (λ v. not (view_ends name v)) views k x below))
    where
      IsOwn : List ℕ × Seen → Type 0
      IsOwn v = lookup (bytes_eq v.0) views ≡ Some v.1

      one : (v : List ℕ × Seen) → IsLiveView db v → IsOwn v → view_ends name v ≡ false → IsLiveView left v
      one v is own lasts =
          let parts = or_parts (bytes_eq name v.0) (uses v.1.query name) lasts in
          live_over db left v is
          (found_left v.0 parts.0 (λ s there. subst (λ (u : Seen). view_ends name (v.0, u) ≡ false) (same_Some v.1 s (sym own ∙ there)) lasts))
          (λ n used. found_left n (used_differs v.1.query name n parts.1 used) (λ s there. some_is_none (sym there ∙ used_unwatched db views all v is n used)))

  -- what is held without a name is what is held after its DROP
  pub dropped : ((d : ℤ) (f : Query → List Fixed)
      → refreshed f (lives_of (lasting name views)) (names_at d left) ≡ refreshed f (lives_of (lasting name views)) (settled (lives_of views) (lives_of (lasting name views)) (names_after d (names_at d (with_views views db)) (t.Drop name, tt))))
      → ((sizes : List (Held ℕ)) → AreWithin (sizes_at (with_views views db)) sizes → AreWithin (sizes_at left) (settled (lives_of views) (lives_of (lasting name views)) (name_sizes_after sizes (t.Drop name, tt))))
      → IsDone (watched db views) (watched left (lasting name views)) (on_names (t.Drop name, tt))
  dropped alike sized files effects running = carried_out (watched db views) left files (lasting name views) (t.Drop name, tt) effects (record {
    running = running;
    watched = watched_left;
    live = lives-lasting name views;
    alike = λ d day f. alike d f;
    sized = sized (sizes_after effects).names running.world.sizes;
  })

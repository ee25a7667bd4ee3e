-- Names with the results of their views.
use Rattle.std.proofs.Common.{codes, ◌≡◌, ◌≤◌, ◌++◌, ℕ, Bool, true, false, cond, List, [], ◌∷◌, Option, Some, None, length, map, refl, sym, ap, ◌∙◌, subst, true≢false, arith}
use Rattle.std.specs.Cmp.Lexicographic.{nat_list_eq_equiv, same_text}
use Rattle.std.specs.List.{AllByRecursion, IsDistinct}
use Rattle.std.specs.Map.{lookup}
use Rattle.std.specs.Option.{option_map}
use Rattle.std.specs.Str.{bytes_eq}
use Rattle.std.proofs.lemmas.List.Elements.{recursion_from_All}
use Rattle.std.proofs.lemmas.Map.Keys.{IsDistinct-head, IsDistinct-tail}
use Rattle.std.proofs.lemmas.Option.{same_Some}
use Rattle.og_value.specs.declared.kind.What.{What}
use Rattle.og_value.specs.declared.kind.What.TheVariants as what
use Rattle.og_value.specs.declared.schema.Column.{Column}
use Rattle.og_query.specs.declared.query.Query.{Query}
use Rattle.og_db.specs.Database.{Relation}
use Rattle.og_db.specs.Held.{Held, described, found, known_of, rows_of, made_of, all_made_of}
use Rattle.og_db.specs.Live.{Live, query_of, answered, refreshed}
use Rattle.og_db.specs.Runs.{AreWithin, IsWithin, is_stored, sizes_at, stored}
use Rattle.og_view.specs.Views.{Seen}
use Rattle.og_output.specs.Records.{names_text, records, what_word}
use Rattle.og_session.specs.Names.{AreLiveViews, IsLiveView, Views, lives_of, shown, with_views}

-- the name stays, and what it is
pub shown-name : (o : Option Seen) (h : Held Relation) → (shown o h).name ≡ h.name
shown-name None h = refl
shown-name (Some view) h = refl

shown-described : (o : Option Seen) (h : Held Relation) → described (shown o h) ≡ described h
shown-described None h = refl
shown-described (Some view) h = refl

-- what TABLES writes of names is the same
pub names_text-shown : (views : Views) (db : List (Held Relation)) → names_text db ≡ names_text (with_views views db)
names_text-shown views db = ap (λ rows. records ((codes "name" ∷ codes "what" ∷ []) ∷ rows)) (same db)
  where
    same : (db : List (Held Relation)) → map (λ h. h.name ∷ what_word h.what ∷ []) db ≡ map (λ h. h.name ∷ what_word h.what ∷ []) (with_views views db)
    same [] = refl
    same (h ∷ db) = λ i. one (lookup (bytes_eq h.name) views) i ∷ same db i
      where
        one : (o : Option Seen) → h.name ∷ what_word h.what ∷ [] ≡ (shown o h).name ∷ what_word (shown o h).what ∷ []
        one None = refl
        one (Some view) = refl

module _ (views : Views) where
  -- what is found under a name
  pub found-shown : (db : List (Held Relation)) (name : List ℕ) → found (with_views views db) name ≡ option_map (shown (lookup (bytes_eq name) views)) (found db name)
  found-shown [] name = refl
  found-shown (h ∷ db) name =
      ap (λ n. cond (bytes_eq name n) (Some (shown (lookup (bytes_eq h.name) views) h)) (found (with_views views db) name)) (shown-name (lookup (bytes_eq h.name) views) h)
      ∙ pick (bytes_eq name h.name) refl (found-shown db name)
    where
      pick : (b : Bool) → bytes_eq name h.name ≡ b → found (with_views views db) name ≡ option_map (shown (lookup (bytes_eq name) views)) (found db name)
          → cond b (Some (shown (lookup (bytes_eq h.name) views) h)) (found (with_views views db) name) ≡ option_map (shown (lookup (bytes_eq name) views)) (cond b (Some h) (found db name))
      pick true is rest = ap (λ n. Some (shown (lookup (bytes_eq n) views) h)) (sym (same_text name h.name (sym is)))
      pick false is rest = rest

  -- what each name is, with its columns
  pub known_of-shown : (db : List (Held Relation)) (name : List ℕ) → known_of (with_views views db) name ≡ known_of db name
  known_of-shown db name = ap (option_map described) (found-shown db name) ∙ at (lookup (bytes_eq name) views) (found db name)
    where
      at : (o : Option Seen) (f : Option (Held Relation)) → option_map described (option_map (shown o) f) ≡ option_map described f
      at o None = refl
      at o (Some h) = ap Some (shown-described o h)

  -- the relation of a name without a view
  pub rows_of-plain : (db : List (Held Relation)) (name : List ℕ) → lookup (bytes_eq name) views ≡ None → rows_of (with_views views db) name ≡ rows_of db name
  rows_of-plain db name none = ap (option_map (λ h. h.rows)) (found-shown db name ∙ ap (λ o. option_map (shown o) (found db name)) none) ∙ at (found db name)
    where
      at : (f : Option (Held Relation)) → option_map (λ h. h.rows) (option_map (shown None) f) ≡ option_map (λ h. h.rows) f
      at None = refl
      at (Some h) = refl

  -- a name that is not there has none
  pub rows_of-none : (db : List (Held Relation)) (name : List ℕ) → rows_of db name ≡ None → rows_of (with_views views db) name ≡ None
  rows_of-none db name none = ap (option_map (λ h. h.rows)) (found-shown db name ∙ ap (option_map (shown (lookup (bytes_eq name) views))) (at (found db name) none))
    where
      at : (o : Option (Held Relation)) → option_map (λ h. h.rows) o ≡ None → o ≡ None
      at None e = refl
      at (Some h) e = cc e

  -- one that is there, with a view
  pub rows_of-some : (db : List (Held Relation)) (name : List ℕ) (view : Seen) (rel : Relation) → lookup (bytes_eq name) views ≡ Some view → rows_of db name ≡ Some rel → rows_of (with_views views db) name ≡ Some view.result
  rows_of-some db name view rel is there =
      let h = at (found db name) there in
      ap (option_map (λ h. h.rows)) (found-shown db name ∙ ap (λ o. option_map (shown o) (found db name)) is ∙ ap (option_map (shown (Some view))) h.1)
    where
      at : (o : Option (Held Relation)) → option_map (λ h. h.rows) o ≡ Some rel → (h : Held Relation) × (o ≡ Some h)
      at None e = cc e
      at (Some h) e = (h, refl)

  -- one more name
  pub shown-push : (db : List (Held Relation)) (h : Held Relation) → lookup (bytes_eq h.name) views ≡ None → with_views views (db ++ h ∷ []) ≡ with_views views db ++ h ∷ []
  shown-push [] h none = ap (λ o. shown o h ∷ []) none
  shown-push (k ∷ db) h none = ap (λ hs. shown (lookup (bytes_eq k.name) views) k ∷ hs) (shown-push db h none)

-- the query of a live name is that of its view
pub query_of-lives : (views : Views) (name : List ℕ) → query_of (lives_of views) name ≡ option_map (λ v. v.query) (lookup (bytes_eq name) views)
query_of-lives [] name = refl
query_of-lives (v ∷ views) name =
    elim (bytes_eq name v.0) as (λ b. cond b (Some v.1.query) (query_of (lives_of views) name) ≡ option_map (λ v. v.query) (cond b (Some v.1) (lookup (bytes_eq name) views))) [
      | true ↦ refl
      | false ↦ query_of-lives views name
    ]

-- where a view is, its name is live
pub query_of-view : (views : Views) (name : List ℕ) (view : Seen) → lookup (bytes_eq name) views ≡ Some view → query_of (lives_of views) name ≡ Some view.query
query_of-view views name view is = query_of-lives views name ∙ ap (option_map (λ v. v.query)) is

module _ {V : Type 0} (views : Views) (g : Relation → V) where
  -- where the names with views are live, what they hold is not seen once their queries answer
  pub refreshed-shown : (live : List Live) → ((name : List ℕ) (view : Seen) → lookup (bytes_eq name) views ≡ Some view → (query : Query) × (query_of live name ≡ Some query))
      → (f : Query → V) (db : List (Held Relation)) → refreshed f live (all_made_of g (with_views views db)) ≡ refreshed f live (all_made_of g db)
  refreshed-shown live covered f [] = refl
  refreshed-shown live covered f (h ∷ db) = λ i. one (lookup (bytes_eq h.name) views) refl i ∷ refreshed-shown live covered f db i
    where
      one : (o : Option Seen) → lookup (bytes_eq h.name) views ≡ o → answered f (query_of live (shown o h).name) (made_of g (shown o h)) ≡ answered f (query_of live h.name) (made_of g h)
      one None is = refl
      one (Some view) is =
          let q = covered h.name view is in
          ap (λ k. answered f k (made_of g (shown (Some view) h))) q.1 ∙ sym (ap (λ k. answered f k (made_of g h)) q.1)

  -- where each result is what its query answers, so are the names
  pub made-shown : (f : Query → V) → ((name : List ℕ) (view : Seen) → lookup (bytes_eq name) views ≡ Some view → g view.result ≡ f view.query)
      → (db : List (Held Relation)) → all_made_of g (with_views views db) ≡ refreshed f (lives_of views) (all_made_of g db)
  made-shown f same [] = refl
  made-shown f same (h ∷ db) = λ i. one (lookup (bytes_eq h.name) views) refl i ∷ made-shown f same db i
    where
      one : (o : Option Seen) → lookup (bytes_eq h.name) views ≡ o → made_of g (shown o h) ≡ answered f (query_of (lives_of views) h.name) (made_of g h)
      one None is = sym (ap (λ k. answered f k (made_of g h)) (query_of-lives views h.name ∙ ap (option_map (λ v. v.query)) is))
      one (Some view) is =
          ap (λ rows. record { name = h.name; what = h.what; columns = h.columns; rows = rows }) (same h.name view is)
          ∙ sym (ap (λ k. answered f k (made_of g h)) (query_of-view views h.name view is))

-- where each result has no more rows than its query answers, the sizes are within those
pub within-shown : (views : Views) (f : Query → ℕ) → ((name : List ℕ) (view : Seen) → lookup (bytes_eq name) views ≡ Some view → length view.result ≤ f view.query)
    → (db : List (Held Relation)) (most : List (Held ℕ)) → AreWithin (sizes_at db) most → AreWithin (sizes_at (with_views views db)) (refreshed f (lives_of views) most)
within-shown views f less [] [] v = tt
within-shown views f less [] (m ∷ most) v = absurd v
within-shown views f less (h ∷ db) [] v = absurd v
within-shown views f less (h ∷ db) (m ∷ most) v =
    (subst (λ n. IsWithin (made_of length (shown (lookup (bytes_eq h.name) views) h)) (answered f (query_of (lives_of views) n) m)) v.0.name (one (lookup (bytes_eq h.name) views) refl), within-shown views f less db most v.1)
  where
    one : (o : Option Seen) → lookup (bytes_eq h.name) views ≡ o → IsWithin (made_of length (shown o h)) (answered f (query_of (lives_of views) h.name) m)
    one None is = subst (λ k. IsWithin (made_of length h) (answered f k m)) (sym (query_of-lives views h.name ∙ ap (option_map (λ v. v.query)) is)) v.0
    one (Some view) is =
        subst (λ k. IsWithin (made_of length (shown (Some view) h)) (answered f k m)) (sym (query_of-view views h.name view is))
        (record { name = v.0.name; what = v.0.what; rows = less h.name view is })

-- ---- the names of views in the database

-- a name with a view is live, has the columns of its query, and no rows
abbrev pub IsBlank : Views → Held Relation → Type 0
IsBlank views h = (view : Seen) → lookup (bytes_eq h.name) views ≡ Some view → (described h ≡ (what.Live, view.query.first.schema)) × (h.rows ≡ [])

-- a name that is found is each of that name
same_found : {V : Type 0} (name : List ℕ) (g : Held V) (db : List (Held V)) → found db name ≡ Some g → IsDistinct bytes_eq (map (λ h. h.name) db) → AllByRecursion (λ h. bytes_eq name h.name ≡ true → h ≡ g) db
same_found name g [] here apart = tt
same_found name g (h ∷ db) here apart = at (bytes_eq name h.name) refl here (λ there. same_found name g db there (IsDistinct-tail bytes_eq h.name (map (λ h. h.name) db) apart))
  where
    none : (db : List (Held _)) → AllByRecursion (λ key. bytes_eq h.name key ≡ false) (map (λ h. h.name) db) → bytes_eq name h.name ≡ true → AllByRecursion (λ h. bytes_eq name h.name ≡ true → h ≡ g) db
    none [] all is = tt
    none (k ∷ db) all is = (λ there. absurd (true≢false (sym there ∙ ap (λ n. bytes_eq n k.name) (same_text name h.name (sym is)) ∙ all.0)), none db all.1 is)

    at : (b : Bool) → bytes_eq name h.name ≡ b → cond b (Some h) (found db name) ≡ Some g → (found db name ≡ Some g → AllByRecursion (λ h. bytes_eq name h.name ≡ true → h ≡ g) db)
        → AllByRecursion (λ h. bytes_eq name h.name ≡ true → h ≡ g) (h ∷ db)
    at true is here more = ((λ _. same_Some h g here), none db (IsDistinct-head bytes_eq h.name (map (λ h. h.name) db) apart) is)
    at false is here more = ((λ yes. absurd (true≢false (sym yes ∙ is))), more here)

-- what is found where it is known and has rows
found_of_parts : (o : Option (Held Relation)) (k : What × List Column) (rows : Relation) → option_map described o ≡ Some k → option_map (λ h. h.rows) o ≡ Some rows → (h : Held Relation) × (o ≡ Some h) × (described h ≡ k) × (h.rows ≡ rows)
found_of_parts None k rows e f = cc e
found_of_parts (Some h) k rows e f = (h, refl, same_Some (described h) k e, same_Some h.rows rows f)

-- the names of views are blank in the database
pub blank_names : (db : List (Held Relation)) → IsDistinct bytes_eq (map (λ h. h.name) db) → (views : Views) → AreLiveViews db views → AllByRecursion (IsBlank views) db
blank_names db apart views all = by views (recursion_from_All (IsLiveView db) views all)
  where
    none : (db : List (Held Relation)) → AllByRecursion (IsBlank []) db
    none [] = tt
    none (h ∷ db) = (λ view is. cc is, none db)

    zip : (v : List ℕ × Seen) (views : Views) (g : Held Relation) → described g ≡ (what.Live, v.1.query.first.schema) → g.rows ≡ [] → (hs : List (Held Relation))
        → AllByRecursion (λ h. bytes_eq v.0 h.name ≡ true → h ≡ g) hs → AllByRecursion (IsBlank views) hs → AllByRecursion (IsBlank (v ∷ views)) hs
    zip v views g known rows [] same rest = tt
    zip v views g known rows (h ∷ hs) same rest = (λ view is. at (bytes_eq h.name v.0) refl view is, zip v views g known rows hs same.1 rest.1)
      where
        at : (b : Bool) → bytes_eq h.name v.0 ≡ b → (view : Seen) → cond b (Some v.1) (lookup (bytes_eq h.name) views) ≡ Some view → (described h ≡ (what.Live, view.query.first.schema)) × (h.rows ≡ [])
        at true here view is =
            let it : h ≡ g = same.0 (nat_list_eq_equiv.symm v.0 h.name ∙ here) in
            (ap described it ∙ known ∙ ap (λ (s : Seen). (what.Live, s.query.first.schema)) (same_Some v.1 view is), ap (λ h. h.rows) it ∙ rows)
        at false here view is = rest.0 view is

    by : (views : Views) → AllByRecursion (IsLiveView db) views → AllByRecursion (IsBlank views) db
    by [] all = none db
    by (v ∷ views) all =
        let it = found_of_parts (found db v.0) (what.Live, v.1.query.first.schema) [] all.0.known all.0.rows in
        zip v views it.0 it.2 it.3 db (same_found v.0 it.0 db it.1 apart) (by views all.1)

-- with the results there are no fewer rows
pub within-blank : (views : Views) (db : List (Held Relation)) → AllByRecursion (IsBlank views) db → AreWithin (sizes_at db) (sizes_at (with_views views db))
within-blank views [] all = tt
within-blank views (h ∷ db) all = (one (lookup (bytes_eq h.name) views) refl, within-blank views db all.1)
  where
    one : (o : Option Seen) → lookup (bytes_eq h.name) views ≡ o → IsWithin (made_of length h) (made_of length (shown o h))
    one None is = record { name = refl; what = refl; rows = omega arith }
    one (Some view) is = record { name = refl; what = refl; rows = subst (λ n. n ≤ length view.result) (sym (ap length (all.0 view is).1)) (omega arith) }

-- without the live ones the names are the database's
pub stored-shown : (views : Views) (db : List (Held Relation)) → AllByRecursion (IsBlank views) db → stored (with_views views db) ≡ stored db
stored-shown views [] all = refl
stored-shown views (h ∷ db) all = one (lookup (bytes_eq h.name) views) refl (stored-shown views db all.1)
  where
    one : (o : Option Seen) → lookup (bytes_eq h.name) views ≡ o → stored (with_views views db) ≡ stored db
        → cond (is_stored (shown o h).what) (shown o h ∷ stored (with_views views db)) (stored (with_views views db)) ≡ cond (is_stored h.what) (h ∷ stored db) (stored db)
    one None is rest = ap (λ hs. cond (is_stored h.what) (h ∷ hs) hs) rest
    one (Some view) is rest =
        let live : is_stored h.what ≡ false = ap (λ (k : What × List Column). is_stored k.0) (all.0 view is).0 in
        ap (λ b. cond b (shown (Some view) h ∷ stored (with_views views db)) (stored (with_views views db))) live ∙ rest ∙ sym (ap (λ b. cond b (h ∷ stored db) (stored db)) live)

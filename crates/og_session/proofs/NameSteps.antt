-- What a run holds after a statement that adds a name or only writes.
use Rattle.std.proofs.Common.{◌≡◌, ◌≤◌, ◌++◌, ℕ, ℤ, List, [], ◌∷◌, Some, length, map, refl, sym, ap, ◌∙◌, subst, arith}
use Rattle.std.specs.List.{IsDistinct}
use Rattle.std.specs.Map.{lookup}
use Rattle.std.specs.Str.{bytes_eq}
use Rattle.og_base.specs.Calendar.{IsRefDay}
use Rattle.og_value.specs.Order.{row_order}
use Rattle.og_value.specs.Values.{row_at}
use Rattle.og_value.specs.declared.kind.What.TheVariants as what
use Rattle.og_value.specs.declared.schema.Column.{Column}
use Rattle.og_rel.specs.Relations.{relation_at}
use Rattle.og_query.specs.Queries.{ordinary_query}
use Rattle.og_query.specs.Sizes.{query_size}
use Rattle.og_query.specs.declared.query.Query.{Query}
use Rattle.og_query.specs.declared.typed.Typed.{Typed}
use Rattle.og_query.specs.declared.typed.Typed.TheVariants as t
use Rattle.og_db.specs.Database.{Relation, names_at}
use Rattle.og_db.specs.Effects.{on_names, sizes_after}
use Rattle.og_db.specs.Held.{Held, made_of}
use Rattle.og_db.specs.Live.{Live, answered, live_after, query_of, refreshed}
use Rattle.og_db.specs.Runs.{AreWithin, IsWithin, sizes_at}
use Rattle.og_db.specs.Statements.{IsOfNames, Names, OfNames, named_rows, named_sizes, names_after, name_sizes_after}
use Rattle.og_db.proofs.SizeLemmas.{query_more, within-named, within-push, within-trans}
use Rattle.og_db.proofs.WorldLemmas.{all_made_of-push}
use Rattle.og_view.specs.Views.{Seen}
use Rattle.og_session.specs.Following.{IsNoChange, IsOnlyWritten}
use Rattle.og_session.specs.Names.{AreLiveViews, IsDone, Views, lives_of, watched, with_views}
use Rattle.og_session.proofs.FollowedNames.{refreshed-push}
use Rattle.og_session.proofs.LiveViews.{live_push}
use Rattle.og_session.proofs.NameLemmas.{blank_names, query_of-view, refreshed-shown, within-blank}
use Rattle.og_session.proofs.Running.{carried_on}

-- each name with a view is live
pub covered : (views : Views) (name : List ℕ) (view : Seen) → lookup (bytes_eq name) views ≡ Some view → (query : Query) × (query_of (lives_of views) name ≡ Some query)
covered views name view is = (view.query, query_of-view views name view is)

-- a statement that only writes leaves the live results, the names and the sizes
only_written : (stmt : OfNames) → IsOnlyWritten stmt.0 → ((live : List Live) → live_after live stmt.0 ≡ live) × ((d : ℤ) (names : Names) → names_after d names stmt ≡ names) × ((sizes : List (Held ℕ)) → name_sizes_after sizes stmt ≡ sizes)
only_written (t.Tables, of) is = ((λ live. refl), (λ d names. refl), λ sizes. refl)
only_written (t.PrintName name day, of) is = ((λ live. refl), (λ d names. refl), λ sizes. refl)
only_written (t.PrintQuery query day, of) is = ((λ live. refl), (λ d names. refl), λ sizes. refl)
only_written (t.Explain query, of) is = ((λ live. refl), (λ d names. refl), λ sizes. refl)
only_written (t.Valid name day, of) is = ((λ live. refl), (λ d names. refl), λ sizes. refl)
only_written (t.Create name columns, of) is = absurd is
only_written (t.Insert name rows, of) is = absurd is
only_written (t.Delete name cond, of) is = absurd is
only_written (t.Update name sets cond, of) is = absurd is
only_written (t.Drop name, of) is = absurd is
only_written (t.Keep name query, of) is = absurd is
only_written (t.Save name file, of) is = absurd is
only_written (t.OpenFile name file, of) is = absurd is
only_written (t.ImportFile name file, of) is = absurd is
only_written (t.Live name query, of) is = absurd is

-- a statement of names that changes no table and is none of these four only writes
pub is_written : (stmt : Typed) → IsOfNames stmt → IsNoChange stmt → ((name : List ℕ) (columns : List Column) → ¬ (stmt ≡ t.Create name columns)) → ((name : List ℕ) → ¬ (stmt ≡ t.Drop name))
    → ((name : List ℕ) (query : Query) → ¬ (stmt ≡ t.Keep name query)) → ((name : List ℕ) (query : Query) → ¬ (stmt ≡ t.Live name query)) → IsOnlyWritten stmt
is_written t.Tables names other create drops keep live = tt
is_written (t.PrintName name day) names other create drops keep live = tt
is_written (t.PrintQuery query day) names other create drops keep live = tt
is_written (t.Explain query) names other create drops keep live = tt
is_written (t.Valid name day) names other create drops keep live = tt
is_written (t.Create name columns) names other create drops keep live = absurd (create name columns refl)
is_written (t.Insert name rows) names other create drops keep live = absurd (other tt)
is_written (t.Delete name cond) names other create drops keep live = absurd (other tt)
is_written (t.Update name sets cond) names other create drops keep live = absurd (other tt)
is_written (t.Drop name) names other create drops keep live = absurd (drops name refl)
is_written (t.Keep name query) names other create drops keep live = absurd (keep name query refl)
is_written (t.Save name file) names other create drops keep live = absurd names
is_written (t.OpenFile name file) names other create drops keep live = absurd names
is_written (t.ImportFile name file) names other create drops keep live = absurd names
is_written (t.Live name query) names other create drops keep live = absurd (live name query refl)

module _ (db : List (Held Relation)) (views : Views) (all : AreLiveViews db views) where
  abbrev names : List (Held Relation)
  names = with_views views db

  -- the database alone has no more rows than the sizes
  pub within-sizes : IsDistinct bytes_eq (map (λ h. h.name) db) → (sizes : List (Held ℕ)) → AreWithin (sizes_at names) sizes → AreWithin (sizes_at db) sizes
  within-sizes apart sizes v = within-trans (sizes_at db) (sizes_at names) sizes (within-blank views db (blank_names db apart views all)) v

  module _ (apart : IsDistinct bytes_eq (map (λ h. h.name) db)) (stmt : OfNames) where
    -- a statement that adds a name
    pub push_done : (h : Held Relation) → live_after (lives_of views) stmt.0 ≡ lives_of views
        → ((d : ℤ) → IsRefDay d → names_after d (names_at d names) stmt ≡ names_at d names ++ made_of (λ rel. relation_at row_order row_at rel d) h ∷ [])
        → ((sizes : List (Held ℕ)) → AreWithin (sizes_at names) sizes → (most : Held ℕ) × (name_sizes_after sizes stmt ≡ sizes ++ most ∷ []) × IsWithin (made_of length h) most)
        → IsDone (watched db views) (watched (db ++ h ∷ []) views) (on_names stmt)
    push_done h live names_law sizes_law files effects running =
        let before = lives_of views in
        let sizes = (sizes_after effects).names in
        let one = sizes_law sizes running.world.sizes in
        carried_on (watched db views) (db ++ h ∷ []) files views stmt effects running (live_push db views all h) refl live
        (λ d day f.
        let at = λ (rel : Relation). relation_at row_order row_at rel d in
        ap (refreshed f before) (all_made_of-push at db h)
        ∙ refreshed-push f before (names_at d db) (made_of at h)
        ∙ ap (λ hs. hs ++ answered f (query_of before h.name) (made_of at h) ∷ []) (sym (refreshed-shown views at before (covered views) f db))
        ∙ sym (refreshed-push f before (names_at d names) (made_of at h))
        ∙ ap (refreshed f before) (sym (names_law d day)))
        (subst (AreWithin (sizes_at (db ++ h ∷ []))) (sym one.1)
        (subst (λ a. AreWithin a (sizes ++ one.0 ∷ [])) (sym (all_made_of-push length db h)) (within-push (sizes_at db) sizes (made_of length h) one.0 (within-sizes apart sizes running.world.sizes) one.2)))

    -- a statement that only writes
    pub written_done : IsOnlyWritten stmt.0 → IsDone (watched db views) (watched db views) (on_names stmt)
    written_done is files effects running =
        let before = lives_of views in
        let same = only_written stmt is in
        carried_on (watched db views) db files views stmt effects running all refl (same.0 before)
        (λ d day f. sym (refreshed-shown views (λ rel. relation_at row_order row_at rel d) before (covered views) f db) ∙ ap (refreshed f before) (sym (same.1 d (names_at d names))))
        (subst (AreWithin (sizes_at db)) (sym (same.2 (sizes_after effects).names)) (within-sizes apart (sizes_after effects).names running.world.sizes))

  module _ (apart : IsDistinct bytes_eq (map (λ h. h.name) db)) (name : List ℕ) (columns : List Column) where
    -- CREATE
    pub create_done : IsDone (watched db views) (watched (db ++ record { name = name; what = what.Table; columns = columns; rows = [] } ∷ []) views) (on_names (t.Create name columns, tt))
    create_done =
        push_done apart (t.Create name columns, tt) (record { name = name; what = what.Table; columns = columns; rows = [] }) refl (λ d day. refl)
        (λ sizes v. (record { name = name; what = what.Table; columns = columns; rows = 0 }, refl, record { name = refl; what = refl; rows = omega arith }))

    -- KEEP
    pub keep_done : (rel : Relation) (query : Query) → columns ≡ query.first.schema
        → ((d : ℤ) → IsRefDay d → relation_at row_order row_at rel d ≡ ordinary_query d (named_rows (names_at d names)) query) → length rel ≤ query_size (named_sizes (sizes_at names)) query
        → IsDone (watched db views) (watched (db ++ record { name = name; what = what.Kept; columns = columns; rows = rel } ∷ []) views) (on_names (t.Keep name query, tt))
    keep_done rel query same rows size =
        push_done apart (t.Keep name query, tt) (record { name = name; what = what.Kept; columns = columns; rows = rel }) refl
        (λ d day. λ i. names_at d names ++ record { name = name; what = what.Kept; columns = sym same i; rows = sym (rows d day) i } ∷ [])
        (λ sizes v. (
          record { name = name; what = what.Kept; columns = query.first.schema; rows = query_size (named_sizes sizes) query },
          refl,
          record {
            name = refl;
            what = ap (λ cs. (what.Kept, cs)) same;
            rows = let more = query_more (named_sizes (sizes_at names)) (named_sizes sizes) (λ n. within-named n (sizes_at names) sizes v) query in omega (arith, size, more);
          },
        ))

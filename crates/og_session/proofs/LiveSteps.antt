-- What a run holds after a LIVE.
use Rattle.std.proofs.Common.{◌≡◌, ◌++◌, ◌&&◌, ℕ, cond, not, List, [], ◌∷◌, Option, Some, None, is_some, length, map, if◌then◌else◌, refl, sym, ap, ◌∙◌, subst, arith}
use Rattle.std.specs.Cmp.Lexicographic.{nat_list_eq_equiv}
use Rattle.std.specs.List.{IsDistinct}
use Rattle.std.specs.Option.{option_map}
use Rattle.std.specs.Str.{bytes_eq}
use Rattle.std.proofs.lemmas.List.{map-append}
use Rattle.std.proofs.lemmas.List.Elements.{All-push}
use Rattle.og_value.specs.Order.{row_order}
use Rattle.og_value.specs.Values.{row_at}
use Rattle.og_value.specs.declared.kind.What.TheVariants as what
use Rattle.og_rel.specs.Relations.{relation_at}
use Rattle.og_query.specs.Queries.{Fixed, ordinary_query}
use Rattle.og_query.specs.Sizes.{query_size}
use Rattle.og_query.specs.declared.query.Query.{Query}
use Rattle.og_query.specs.declared.typed.Typed.TheVariants as t
use Rattle.og_db.specs.Database.{Relation, names_at}
use Rattle.og_db.specs.Effects.{on_names, sizes_after}
use Rattle.og_db.specs.Held.{Held, described, found, known_of, made_of}
use Rattle.og_db.specs.Live.{Live, answered, kept_with, query_of, refreshed, settled}
use Rattle.og_db.specs.Runs.{AreWithin, sizes_at}
use Rattle.og_db.specs.Statements.{OfNames, named_rows, named_sizes, names_after, name_sizes_after}
use Rattle.og_db.proofs.SizeLemmas.{within-push}
use Rattle.og_db.proofs.WorldLemmas.{all_made_of-push}
use Rattle.og_view.specs.Views.{IsAnswerOver, Seen}
use Rattle.og_session.specs.Names.{AreLiveViews, IsDone, IsLiveView, Views, lives_of, watched, with_views}
use Rattle.og_session.proofs.AnswerLemmas.{answer_over}
use Rattle.og_session.proofs.FollowedNames.{first_of, found-more, found-push, query_of-push, refreshed-push}
use Rattle.og_session.proofs.LiveViews.{live_push}
use Rattle.og_session.proofs.NameLemmas.{query_of-view, refreshed-shown}
use Rattle.og_session.proofs.NameSteps.{within-sizes}
use Rattle.og_session.proofs.QueryLemmas.{used_table}
use Rattle.og_session.proofs.Running.{carried_out}

-- a live result that was one still is, with one more behind it
still_live : (live : List Live) (l : Live) (name : List ℕ) (query : Query) → query_of live name ≡ Some query → query_of (live ++ l ∷ []) name ≡ Some query
still_live live l name query is = query_of-push live l name ∙ ap (λ o. first_of o (cond (bytes_eq name l.name) (Some l.query) None)) is

-- and that one is live
last_live : (live : List Live) (l : Live) → (query : Query) × (query_of (live ++ l ∷ []) l.name ≡ Some query)
last_live live l = at (query_of live l.name) (query_of-push live l l.name ∙ ap (λ b. first_of (query_of live l.name) (cond b (Some l.query) None)) (nat_list_eq_equiv.refl l.name))
  where
    at : (o : Option Query) → query_of (live ++ l ∷ []) l.name ≡ first_of o (Some l.query) → (query : Query) × (query_of (live ++ l ∷ []) l.name ≡ Some query)
    at None is = (l.query, is)
    at (Some query) is = (query, is)

-- so no name is settled
settled-more : {V : Type 0} (live : List Live) (l : Live) (hs : List (Held V)) → settled live (live ++ l ∷ []) hs ≡ hs
settled-more live l [] = refl
settled-more live l (h ∷ hs) = λ i. at (query_of live h.name) refl i ∷ settled-more live l hs i
  where
    at : (o : Option Query) → query_of live h.name ≡ o → (if is_some (query_of live h.name) && not (is_some (query_of (live ++ l ∷ []) h.name)) then kept_with h.rows h else h) ≡ h
    at None is = ap (λ o. if is_some o && not (is_some (query_of (live ++ l ∷ []) h.name)) then kept_with h.rows h else h) is
    at (Some query) is = λ i. if is_some (is i) && not (is_some (still_live live l h.name query is i)) then kept_with h.rows h else h

-- a name that was not there is found where it was added
found_last : (db : List (Held Relation)) (h : Held Relation) → known_of db h.name ≡ None → found (db ++ h ∷ []) h.name ≡ Some h
found_last db h new =
    found-push db h h.name ∙ ap (λ b. first_of (found db h.name) (cond b (Some h) None)) (nat_list_eq_equiv.refl h.name) ∙ at (found db h.name) new
  where
    at : (o : Option (Held Relation)) → option_map described o ≡ None → first_of o (Some h) ≡ Some h
    at None none = refl
    at (Some g) none = cc none

module _ (db : List (Held Relation)) (views : Views) (all : AreLiveViews db views) (name : List ℕ) (view : Seen) where
  abbrev names : List (Held Relation)
  names = with_views views db

  -- the live name, without rows
  abbrev added : Held Relation
  added = record { name = name; what = what.Live; columns = view.query.first.schema; rows = [] }

  abbrev now : Views
  now = views ++ (name, view) ∷ []

  -- the view is one of the database
  live_views : known_of db name ≡ None → view.next ≡ None → IsAnswerOver db view.query view.result → AreLiveViews (db ++ added ∷ []) now
  live_views new settled answer =
      All-push (IsLiveView (db ++ added ∷ [])) views (name, view) (live_push db views all added)
      (record {
        known = ap (option_map described) (found_last db added new);
        rows = ap (option_map (λ h. h.rows)) (found_last db added new);
        settled = settled;
        answer = answer_over db (db ++ added ∷ []) view.query view.result answer (λ other used.
            let table = used_table (known_of db) view.query answer.fits other used in
            found-more db added other (what.Table, table.0) table.1);
      })

  -- LIVE
  live_done : IsDistinct bytes_eq (map (λ h. h.name) db) → AreLiveViews (db ++ added ∷ []) now → IsDone (watched db views) (watched (db ++ added ∷ []) now) (on_names (t.Live name view.query, tt))
  live_done apart watched_now files effects running =
      let before : List Live = lives_of views in
      let last : Live = record { name = name; query = view.query } in
      let after = before ++ last ∷ [] in
      let lives : lives_of now ≡ after = map-append (λ v. record { name = v.0; query = v.1.query }) views ((name, view) ∷ []) in
      let most = (sizes_after effects).names in
      let stmt : OfNames = (t.Live name view.query, tt) in
      carried_out (watched db views) (db ++ added ∷ []) files now stmt effects
      (record {
        running = running;
        watched = watched_now;
        live = lives;
        alike = λ d day f.
            let at = λ (rel : Relation). relation_at row_order row_at rel d in
            let held : Held (List Fixed) = record { name = name; what = what.Live; columns = view.query.first.schema; rows = ordinary_query d (named_rows (names_at d names)) view.query } in
            let q = last_live before last in
            subst (λ l. refreshed f l (names_at d (db ++ added ∷ [])) ≡ refreshed f l (settled before l (names_after d (names_at d names) stmt))) (sym lives)
            (ap (refreshed f after) (all_made_of-push at db added)
            ∙ refreshed-push f after (names_at d db) (made_of at added)
            ∙ ap (λ hs. hs ++ answered f (query_of after name) (made_of at added) ∷ [])
            (sym (refreshed-shown views at after (λ n v is. (v.query, still_live before last n v.query (query_of-view views n v is))) f db))
            ∙ ap (λ h. refreshed f after (names_at d names) ++ h ∷ []) (ap (λ o. answered f o (made_of at added)) q.1 ∙ sym (ap (λ o. answered f o held) q.1))
            ∙ sym (refreshed-push f after (names_at d names) held)
            ∙ ap (refreshed f after) (sym (settled-more before last (names_after d (names_at d names) stmt))));
        sized = subst (λ l. AreWithin (sizes_at (db ++ added ∷ [])) (settled before l (name_sizes_after most stmt))) (sym lives)
            (subst (AreWithin (sizes_at (db ++ added ∷ []))) (sym (settled-more before last (name_sizes_after most stmt)))
            (subst (λ a. AreWithin a (name_sizes_after most stmt)) (sym (all_made_of-push length db added))
            (within-push (sizes_at db) most (made_of length added) (record { name = name; what = what.Live; columns = view.query.first.schema; rows = query_size (named_sizes most) view.query })
            (within-sizes db views all apart most running.world.sizes) (record { name = refl; what = refl; rows = omega arith }))));
      })

  -- so it is with what was entered, where that is the name and its view
  pub live_entered : (new : List (Held Relation)) (entries : Views) → known_of db name ≡ None → IsDistinct bytes_eq (map (λ h. h.name) db) → view.next ≡ None → IsAnswerOver db view.query view.result
      → new ≡ db ++ added ∷ [] → entries ≡ now → AreLiveViews new entries × IsDone (watched db views) (watched new entries) (on_names (t.Live name view.query, tt))
  live_entered new entries is_new apart settled answer left kept =
      let live = live_views is_new settled answer in
      subst (λ es. AreLiveViews new es × IsDone (watched db views) (watched new es) (on_names (t.Live name view.query, tt))) (sym kept)
      (subst (λ d. AreLiveViews d now × IsDone (watched db views) (watched d now) (on_names (t.Live name view.query, tt))) (sym left) (live, live_done apart live))

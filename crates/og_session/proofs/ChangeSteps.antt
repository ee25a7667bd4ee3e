-- What a run holds after a statement that changes a table.
use Rattle.std.proofs.Common.{◌≡◌, ◌∙◌, ℤ, ℕ, true, false, List, [], ◌∷◌, Some, None, Result, Ok, Err, OnOk, OnErr, is_ok, map, refl, sym, ap, subst, true≢false}
use Rattle.std.specs.List.{AllByRecursion, IsDistinct}
use Rattle.std.specs.Str.{bytes_eq}
use Rattle.std.proofs.lemmas.List.Elements.{All-from_recursion, recursion_from_All}
use Rattle.og_value.specs.Order.{row_order}
use Rattle.og_value.specs.Values.{row_at}
use Rattle.og_value.specs.declared.kind.What.TheVariants as what
use Rattle.og_rel.specs.Relations.{relation_at}
use Rattle.og_query.specs.Queries.{Fixed}
use Rattle.og_query.specs.declared.query.Query.{Query}
use Rattle.og_query.specs.declared.typed.Typed.{Typed}
use Rattle.og_query.specs.declared.typed.Typed.TheVariants as t
use Rattle.og_db.specs.Database.{Relation, names_at}
use Rattle.og_db.specs.Deltas.{DoesStatement, IsApplied, IsDelta}
use Rattle.og_db.specs.declared.delta.Delta.{Delta}
use Rattle.og_db.specs.Effects.{on_names, sizes_after}
use Rattle.og_db.specs.Held.{Held, changed_at, known_of, rows_of}
use Rattle.og_db.specs.Live.{Live, live_after, refreshed}
use Rattle.og_db.specs.Runs.{sizes_at}
use Rattle.og_db.specs.Statements.{Names, OfNames, names_after, name_sizes_after}
use Rattle.og_db.proofs.LiveNames.{refreshed-changed_at}
use Rattle.og_db.proofs.SizeLemmas.{within-after, within-trans}
use Rattle.og_db.proofs.WorldLemmas.{known_of-changed_at, rows_of-others}
use Rattle.og_view.specs.Views.{IsAnswerOver, Seen, to_be}
use Rattle.og_session.specs.Following.{ArePaired, Follows, IsChange, IsEnded, IsSame, changed_name}
use Rattle.og_session.specs.Names.{AreLiveViews, IsDone, IsLiveView, Views, lives_of, watched, with_views}
use Rattle.og_session.proofs.LiveWorlds.{is_live}
use Rattle.og_session.proofs.NameLemmas.{refreshed-shown}
use Rattle.og_session.proofs.NameSteps.{covered, within-sizes}
use Rattle.og_session.proofs.Running.{carried_on}

-- ---- views one after the other

-- what two relations give, where one view is between
paired_both : (R S T : Seen → Seen → Type 0) → ((v m w : Seen) → R v m → S m w → T v w) → (old mid new : Views) → ArePaired R old mid → ArePaired S mid new → ArePaired T old new
paired_both R S T both [] [] [] r s = tt
paired_both R S T both (v ∷ old) (m ∷ mid) (w ∷ new) r s = ((s.0.0 ∙ r.0.0, both v.1 m.1 w.1 r.0.1 s.0.1), paired_both R S T both old mid new r.1 s.1)
paired_both R S T both [] (m ∷ mid) new r s = absurd r
paired_both R S T both (v ∷ old) [] new r s = absurd r
paired_both R S T both [] [] (w ∷ new) r s = absurd s
paired_both R S T both (v ∷ old) (m ∷ mid) [] r s = absurd s

-- where nothing was done the views are what they were
pub undone_views : (db : List (Held Relation)) (views mid new : Views) → AreLiveViews db views → ArePaired IsSame views mid → ArePaired (IsEnded false) mid new → new ≡ views
undone_views db views mid new all same ended = by views new (recursion_from_All (IsLiveView db) views all) (paired_both IsSame (IsEnded false) IsUndone one views mid new same ended)
  where
    IsUndone : Seen → Seen → Type 0
    IsUndone v w = v.next ≡ None → w ≡ v

    one : (v m w : Seen) → IsSame v m → IsEnded false m w → IsUndone v w
    one v m w same ended none = λ i. record { query = (ended.query ∙ same.query) i; result = (ended.undone refl ∙ same.result) i; next = (ended.next ∙ sym none) i }

    by : (vs ws : Views) → AllByRecursion (IsLiveView db) vs → ArePaired IsUndone vs ws → ws ≡ vs
    by [] [] all paired = refl
    by (v ∷ vs) (w ∷ ws) all paired = λ i. (paired.0.0 i, paired.0.1 all.0.settled i) ∷ by vs ws all.1 paired.1 i
    by [] (w ∷ ws) all paired = absurd paired
    by (v ∷ vs) [] all paired = absurd paired

-- ---- a delta that is in its table

-- the same query, and a result that is put: it is the answer over the tables
record IsPut (tables : List (Held Relation)) (old new : Seen) : Type 0 where
  query : new.query ≡ old.query
  next : new.next ≡ None
  answer : IsAnswerOver tables old.query new.result

-- so are the live results
lives_same : (tables : List (Held Relation)) (old new : Views) → ArePaired (IsPut tables) old new → lives_of new ≡ lives_of old
lives_same tables [] [] put = refl
lives_same tables (v ∷ old) (w ∷ new) put = λ i. record { name = put.0.0 i; query = put.0.1.query i } ∷ lives_same tables old new put.1 i
lives_same tables [] (w ∷ new) put = absurd put
lives_same tables (v ∷ old) [] put = absurd put

module _ (db : List (Held Relation)) (name : List ℕ) (delta : Delta) (new : List (Held Relation)) (applied : IsApplied name delta db new) where
  -- where all have followed the results are put
  put_results : (views mid now : Views) → ArePaired (Follows db name delta) views mid → ArePaired (IsEnded true) mid now → ArePaired (IsPut new) views now
  put_results = paired_both (Follows db name delta) (IsEnded true) (IsPut new) one
    where
      one : (v m w : Seen) → Follows db name delta v m → IsEnded true m w → IsPut new v w
      one v m w follows ended = record {
        query = ended.query ∙ follows.same.query;
        next = ended.next;
        answer = subst (λ q. IsAnswerOver new q w.result) follows.same.query (ended.put refl new (subst (λ q. IsAnswerOver new q (to_be m)) (sym follows.same.query) (follows.next new applied)));
      }

  -- and the views are live ones over the new tables
  put_views : IsDelta db name delta → (views now : Views) → AreLiveViews db views → ArePaired (IsPut new) views now → AreLiveViews new now
  put_views is views now all put = All-from_recursion (IsLiveView new) now (by views now (recursion_from_All (IsLiveView db) views all) put)
    where
      known : (other : List ℕ) → known_of new other ≡ known_of db other
      known other = ap (λ d. known_of d other) applied.put ∙ known_of-changed_at name (λ _. applied.rows) db other

      rows : (other : List ℕ) → ¬ (other ≡ name) → rows_of new other ≡ rows_of db other
      rows other another = ap (λ d. rows_of d other) applied.put ∙ rows_of-others name (λ _. applied.rows) db other another

      by : (vs ws : Views) → AllByRecursion (IsLiveView db) vs → ArePaired (IsPut new) vs ws → AllByRecursion (IsLiveView new) ws
      by [] [] all put = tt
      by (v ∷ vs) (w ∷ ws) all put =
          let one = put.0.1 in (
            record {
              known = ap (known_of new) put.0.0 ∙ known v.0 ∙ all.0.known ∙ ap (λ (q : Query). Some (what.Live, q.first.schema)) (sym one.query);
              rows = ap (rows_of new) put.0.0 ∙ rows v.0 (λ e. true≢false (ap is_live (sym all.0.known ∙ ap (known_of db) e ∙ is.table))) ∙ all.0.rows;
              settled = one.next;
              answer = subst (λ q. IsAnswerOver new q w.1.result) (sym one.query) one.answer;
            },
            by vs ws all.1 put.1,
          )
      by [] (w ∷ ws) all put = absurd put
      by (v ∷ vs) [] all put = absurd put

-- ---- statements that change a table

-- no live name comes or goes
change-live : (stmt : Typed) → IsChange stmt → (live : List Live) → live_after live stmt ≡ live
change-live (t.Insert name rows) is live = refl
change-live (t.Delete name cond) is live = refl
change-live (t.Update name sets cond) is live = refl
change-live (t.Create name columns) is live = absurd is
change-live (t.Drop name) is live = absurd is
change-live t.Tables is live = absurd is
change-live (t.Keep name query) is live = absurd is
change-live (t.PrintName name day) is live = absurd is
change-live (t.PrintQuery query day) is live = absurd is
change-live (t.Save name file) is live = absurd is
change-live (t.OpenFile name file) is live = absurd is
change-live (t.ImportFile name file) is live = absurd is
change-live (t.Explain query) is live = absurd is
change-live (t.Valid name day) is live = absurd is
change-live (t.Live name query) is live = absurd is

-- what they make of the names of one day is a change of one name
change-at : (stmt : OfNames) → IsChange stmt.0 → (d : ℤ) → (change : List Fixed → List Fixed) × ((names : Names) → names_after d names stmt ≡ changed_at (changed_name stmt.0) change names)
change-at (t.Insert name rows, of) is d = (_, λ names. refl)
change-at (t.Delete name cond, of) is d = (_, λ names. refl)
change-at (t.Update name sets cond, of) is d = (_, λ names. refl)
change-at (t.Create name columns, of) is d = absurd is
change-at (t.Drop name, of) is d = absurd is
change-at (t.Tables, of) is d = absurd is
change-at (t.Keep name query, of) is d = absurd is
change-at (t.PrintName name day, of) is d = absurd is
change-at (t.PrintQuery query day, of) is d = absurd is
change-at (t.Save name file, of) is d = absurd is
change-at (t.OpenFile name file, of) is d = absurd is
change-at (t.ImportFile name file, of) is d = absurd is
change-at (t.Explain query, of) is d = absurd is
change-at (t.Valid name day, of) is d = absurd is
change-at (t.Live name query, of) is d = absurd is

-- so names that are alike but for the live ones stay so
after-alike : (stmt : OfNames) → IsChange stmt.0 → (d : ℤ) (live : List Live) (f : Query → List Fixed) (a b : Names) → refreshed f live a ≡ refreshed f live b → refreshed f live (names_after d a stmt) ≡ refreshed f live (names_after d b stmt)
after-alike stmt is d live f a b same =
    let c = change-at stmt is d in
    let table = changed_name stmt.0 in
    ap (refreshed f live) (c.1 a)
    ∙ sym (refreshed-changed_at live f f table c.0 a) ∙ ap (λ hs. refreshed f live (changed_at table c.0 hs)) same ∙ refreshed-changed_at live f f table c.0 b
    ∙ sym (ap (refreshed f live) (c.1 b))

-- what is held where a delta was to be put into its table, and into each result what it was to be: all that, or what was held before
pub record IsOutcome {T E : Type 0} (db : List (Held Relation)) (views : Views) (name : List ℕ) (delta : Delta) (new : List (Held Relation)) (now : Views) (r : Result T E) : Type 0 where
  pub live : AreLiveViews new now
  pub done : OnOk r ((stmt : OfNames) → IsChange stmt.0 → DoesStatement stmt db name delta → IsDone (watched db views) (watched new now) (on_names stmt))
  pub refused : OnErr r (watched new now ≡ watched db views)

pub outcome_of : {T E : Type 0} (db : List (Held Relation)) (views : Views) → AreLiveViews db views → IsDistinct bytes_eq (map (λ h. h.name) db) → (name : List ℕ) (delta : Delta) → IsDelta db name delta
    → (new : List (Held Relation)) (mid now : Views) (r : Result T E) → OnOk r (ArePaired (Follows db name delta) views mid × IsApplied name delta db new) → OnErr r (new ≡ db)
    → ArePaired IsSame views mid → ArePaired (IsEnded (is_ok r)) mid now → IsOutcome db views name delta new now r
outcome_of db views all apart name delta is_delta new mid now (Err e) made refused same ended =
    let views_same = undone_views db views mid now all same ended in record {
      live = subst (AreLiveViews new) (sym views_same) (subst (λ d. AreLiveViews d views) (sym refused) all);
      done = tt;
      refused = λ i. watched (refused i) (views_same i);
    }
outcome_of db views all apart name delta is_delta new mid now (Ok x) made refused same ended =
    let put = put_results db name delta new made.1 views mid now made.0 ended in
    let live = put_views db name delta new made.1 is_delta views now all put in record {
      live = live;
      done = λ stmt is does files effects running.
          let before : List Live = lives_of views in
          let names = with_views views db in
          let sizes = (sizes_after effects).names in
          carried_on (watched db views) new files now stmt effects running live (lives_same new views now put) (change-live stmt.0 is before)
          (λ d day f.
          ap (refreshed f before) (does.law new made.1 d day)
          ∙ after-alike stmt is d before f (names_at d db) (names_at d names) (sym (refreshed-shown views (λ rel. relation_at row_order row_at rel d) before (covered views) f db)))
          (within-trans (sizes_at new) (name_sizes_after (sizes_at db) stmt) (name_sizes_after sizes stmt) (does.size new made.1)
          (within-after (sizes_at db) sizes (within-sizes db views all apart sizes running.world.sizes) stmt));
      refused = tt;
    }

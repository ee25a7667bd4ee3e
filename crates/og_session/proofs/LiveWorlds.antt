-- Live results on one day: after each statement that passed its checks they have the rows of their queries.
use Rattle.std.proofs.Common.{◌≡◌, ◌++◌, ◌||◌, ◌∙◌, ℕ, ℤ, Bool, true, false, cond, not, List, [], ◌∷◌, Option, Some, None, filter, slice_index_or, refl, sym, ap, true≢false}
use Rattle.std.specs.Bool.{⊤}
use Rattle.std.specs.Cmp.Lexicographic.{nat_list_eq_equiv, same_text}
use Rattle.std.specs.List.{All}
use Rattle.std.specs.Option.{option_map}
use Rattle.std.specs.Str.{bytes_eq}
use Rattle.std.proofs.lemmas.List.Elements.{All-filter, All-head, All-push, All-tail, All-weaker, filter_passes}
use Rattle.std.proofs.lemmas.Option.{same_Some}
use Rattle.og_value.specs.declared.kind.What.{What}
use Rattle.og_value.specs.declared.kind.What.TheVariants as what
use Rattle.og_value.specs.declared.schema.Column.{Column}
use Rattle.og_query.specs.Fits.{IsFit, IsFitQuery, Known, tables_of}
use Rattle.og_query.specs.Queries.{Fixed, ordinary_query}
use Rattle.og_query.specs.declared.query.Query.{Query}
use Rattle.og_query.specs.declared.typed.Typed.TheVariants as t
use Rattle.og_db.specs.Effects.{Effect, World, imported, kept_as, on_names, opened, ordinary_statement, reopened, saved, with_name}
use Rattle.og_db.specs.Held.{Held, changed_at, described, found, known_of, made_of, rows_of, without}
use Rattle.og_db.specs.Live.{Live, ends_with, kept_with, live_after, query_of, uses}
use Rattle.og_db.specs.Statements.{Names, OfNames, named_rows, names_after, or_else}
use Rattle.og_db.proofs.WorldLemmas.{known_of-changed_at}
use Rattle.og_session.proofs.FollowedNames.{first_of, found-ended, found-live, found-more, found-plain, found-push, found-without, found_is, left, query_of-push}
use Rattle.og_view.proofs.UsedLemmas.{query_same}
use Rattle.og_session.proofs.QueryLemmas.{used_differs, used_table}

-- ---- what is known of live results

-- whether a name is known as a live one
abbrev pub is_live : Option (What × List Column) → Bool
is_live (Some (what.Live, columns)) = true
is_live (Some (what.Table, columns)) = false
is_live (Some (what.Kept, columns)) = false
is_live None = false

module _ {V : Type 0} (hs : List (Held V)) where
  -- a live result has a live name, of the columns of its query
  abbrev pub IsNamedLive : Live → Type 0
  IsNamedLive l = known_of hs l.name ≡ Some (what.Live, l.query.first.schema)

  -- a name is a table
  abbrev pub IsTable : List ℕ → Type 0
  IsTable name = (columns : List Column) × (known_of hs name ≡ Some (what.Table, columns))

  -- another name has no query
  pub no_query : (name : List ℕ) → is_live (known_of hs name) ≡ false → (live : List Live) → All IsNamedLive live → query_of live name ≡ None
  no_query name none [] all = refl
  no_query name none (l ∷ live) all = at (bytes_eq name l.name) refl (no_query name none live (All-tail IsNamedLive l live all))
    where
      at : (b : Bool) → bytes_eq name l.name ≡ b → query_of live name ≡ None → cond b (Some l.query) (query_of live name) ≡ None
      at true here rest = absurd (true≢false (sym (ap is_live (ap (known_of hs) (same_text name l.name (sym here)) ∙ All-head IsNamedLive l live all)) ∙ none))
      at false here rest = rest

  -- a table is no live result
  pub apart : (l : Live) (name : List ℕ) → IsNamedLive l → IsTable name → bytes_eq name l.name ≡ false
  apart l name live table = at (bytes_eq name l.name) refl
    where
      at : (b : Bool) → bytes_eq name l.name ≡ b → b ≡ false
      at true here = absurd (true≢false (ap is_live (sym live ∙ ap (known_of hs) (sym (same_text name l.name (sym here))) ∙ table.1)))
      at false here = refl

-- on a day a live result has a live name, its own query, which asks tables alone, and the rows of that query
pub record IsRight (d : ℤ) (names : Names) (live : List Live) (l : Live) : Type 0 where
  pub known : IsNamedLive names l
  pub own : query_of live l.name ≡ Some l.query
  pub tables : (name : List ℕ) → uses l.query name ≡ true → IsTable names name
  pub rows : rows_of names l.name ≡ Some (ordinary_query d (named_rows names) l.query)

-- each of a world does
abbrev pub AreRight : ℤ → World → Type 0
AreRight d world = All (IsRight d world.names world.live) world.live

-- a live result before its rows follow a statement: among the names that the statement left it is live, and what its query asks was a table and is one
record IsReady (names after : Names) (now : List Live) (l : Live) : Type 0 where
  known : IsNamedLive after l
  own : query_of now l.name ≡ Some l.query
  tables : (name : List ℕ) → uses l.query name ≡ true → IsTable names name × IsTable after name

module _ (d : ℤ) (names : Names) (live : List Live) (right : All (IsRight d names live) live) where
  -- before the statement all are live names
  known_before : All (IsNamedLive names) live
  known_before = All-weaker (IsRight d names live) (IsNamedLive names) (λ l r. r.known) live right

  module _ (after : Names) (now : List Live) (ready : All (IsReady names after now) now) where
    -- what queries answer over it
    abbrev answer : Query → List Fixed
    answer = ordinary_query d (named_rows after)

    -- the names once the live results follow
    abbrev new : Names
    new = left answer live now after

    -- and among what it left
    known_now : All (IsNamedLive after) now
    known_now = All-weaker (IsReady names after now) (IsNamedLive after) (λ l r. r.known) now ready

    -- once their rows follow, they have those of their queries
    right_again : All (IsRight d new now) now
    right_again = All-weaker (IsReady names after now) (IsRight d new now) one now ready
      where
        one : (l : Live) → IsReady names after now l → IsRight d new now l
        one l r = record {
          known = ap (option_map described) (found-live answer live now after l.name l.query r.own) ∙ same (found after l.name) ∙ r.known;
          own = r.own;
          tables = λ name used. let table = (r.tables name used).1 in (table.0, ap (option_map described) (stays name used) ∙ table.1);
          rows = ap (option_map (λ h. h.rows)) (found-live answer live now after l.name l.query r.own)
              ∙ has (found after l.name) (what.Live, l.query.first.schema) r.known
              ∙ ap Some (query_same d (named_rows after) (named_rows new) l.query (λ name used. ap (λ o. or_else [] (option_map (λ h. h.rows) o)) (sym (stays name used))));
        }
          where
            stays : (name : List ℕ) → uses l.query name ≡ true → found new name ≡ found after name
            stays name used =
                let table = r.tables name used in
                found-plain answer live now after name (no_query names name (ap is_live table.0.1) live known_before) (no_query after name (ap is_live table.1.1) now known_now)

            same : (o : Option (Held (List Fixed))) → option_map described (option_map (made_of (λ _. answer l.query)) o) ≡ option_map described o
            same None = refl
            same (Some h) = refl

            has : (o : Option (Held (List Fixed))) (k : What × List Column) → option_map described o ≡ Some k → option_map (λ h. h.rows) (option_map (made_of (λ _. answer l.query)) o) ≡ Some (answer l.query)
            has None k is = cc is
            has (Some h) k is = refl

  -- ---- statements

  -- what was known is known
  abbrev Keeps : Names → Type 0
  Keeps after = (name : List ℕ) (k : What × List Column) → known_of names name ≡ Some k → known_of after name ≡ Some k

  -- by a statement that leaves the names, adds one, or changes a table
  keeps-all : Keeps names
  keeps-all name k is = is

  keeps-more : (h : Held (List Fixed)) → Keeps (names ++ h ∷ [])
  keeps-more h name k is = ap (option_map described) (found-more names h name k is) ∙ is

  keeps-changed : (table : List ℕ) (change : List Fixed → List Fixed) → Keeps (changed_at table change names)
  keeps-changed table change name k is = known_of-changed_at table change names name ∙ is

  -- a statement that leaves the live results as they are
  ready_kept : (after : Names) → Keeps after → All (IsReady names after live) live
  ready_kept after keeps = All-weaker (IsRight d names live) (IsReady names after live) one live right
    where
      one : (l : Live) → IsRight d names live l → IsReady names after live l
      one l r = record {
        known = keeps l.name (what.Live, l.query.first.schema) r.known;
        own = r.own;
        tables = λ name used. let table = r.tables name used in (table, (table.0, keeps name (what.Table, table.0) table.1));
      }

  -- names that are added to, with nothing else
  right_more : (h : Held (List Fixed)) → All (IsRight d (names ++ h ∷ []) live) live
  right_more h = All-weaker (IsRight d names live) (IsRight d (names ++ h ∷ []) live) one live right
    where
      one : (l : Live) → IsRight d names live l → IsRight d (names ++ h ∷ []) live l
      one l r = record {
        known = keeps-more h l.name (what.Live, l.query.first.schema) r.known;
        own = r.own;
        tables = λ name used. let table = r.tables name used in (table.0, keeps-more h name (what.Table, table.0) table.1);
        rows = ap (option_map (λ h. h.rows)) (found-more names h l.name (what.Live, l.query.first.schema) r.known)
            ∙ r.rows
            ∙ ap Some (query_same d (named_rows names) (named_rows (names ++ h ∷ [])) l.query (λ name used.
            let table = r.tables name used in ap (λ o. or_else [] (option_map (λ h. h.rows) o)) (sym (found-more names h name (what.Table, table.0) table.1))));
      }

  -- LIVE
  module _ (name : List ℕ) (query : Query) (new : known_of names name ≡ None) (fits : IsFitQuery (tables_of (known_of names)) query) where
    -- the new live result, and its name
    abbrev last : Live
    last = record { name = name; query = query }

    abbrev more : Held (List Fixed)
    more = record { name = name; what = what.Live; columns = query.first.schema; rows = ordinary_query d (named_rows names) query }

    -- a new name is behind the others
    last_known : (o : Option (Held (List Fixed))) → option_map described o ≡ None → option_map described (first_of o (cond (bytes_eq name name) (Some more) None)) ≡ Some (what.Live, query.first.schema)
    last_known None none = ap (λ b. option_map described (cond b (Some more) None)) (nat_list_eq_equiv.refl name)
    last_known (Some h) none = cc none

    -- all are ready
    ready_live : All (IsReady names (names ++ more ∷ []) (live ++ last ∷ [])) (live ++ last ∷ [])
    ready_live =
        All-push (IsReady names (names ++ more ∷ []) (live ++ last ∷ [])) live last
        (All-weaker (IsRight d names live) (IsReady names (names ++ more ∷ []) (live ++ last ∷ [])) one live right)
        (record {
          known = ap (option_map described) (found-push names more name) ∙ last_known (found names name) new;
          own = query_of-push live last name
              ∙ (λ i. first_of (no_query names name (ap is_live new) live known_before i) (cond (nat_list_eq_equiv.refl name i) (Some query) None));
          tables = λ other used.
              let table = used_table (known_of names) query fits other used in
              (table, (table.0, keeps-more more other (what.Table, table.0) table.1));
        })
      where
        one : (l : Live) → IsRight d names live l → IsReady names (names ++ more ∷ []) (live ++ last ∷ []) l
        one l r = record {
          known = keeps-more more l.name (what.Live, l.query.first.schema) r.known;
          own = query_of-push live last l.name ∙ ap (λ o. first_of o (cond (bytes_eq l.name name) (Some query) None)) r.own;
          tables = λ other used. let table = r.tables other used in (table, (table.0, keeps-more more other (what.Table, table.0) table.1));
        }

  -- DROP
  module _ (gone : List ℕ) where
    -- the live results that last
    abbrev lasting : List Live → List Live
    lasting ls = filter (λ l. not (ends_with gone l)) ls

    -- neither of two holds
    neither : (x y : Bool) → not (x || y) ≡ true → (x ≡ false) × (y ≡ false)
    neither false false e = (refl, refl)
    neither false true e = absurd (true≢false (sym e))
    neither true y e = absurd (true≢false (sym e))

    -- one that lasts has its query
    query_of-lasting : (ls : List Live) (l : Live) → query_of ls l.name ≡ Some l.query → not (ends_with gone l) ≡ true → query_of (lasting ls) l.name ≡ Some l.query
    query_of-lasting [] l is lasts = cc is
    query_of-lasting (k ∷ ls) l is lasts = at (bytes_eq l.name k.name) refl is (λ is. query_of-lasting ls l is lasts)
      where
        kept : (b : Bool) → bytes_eq l.name k.name ≡ false → query_of (lasting ls) l.name ≡ Some l.query → query_of (cond b (k ∷ lasting ls) (lasting ls)) l.name ≡ Some l.query
        kept true other rest = ap (λ c. cond c (Some k.query) (query_of (lasting ls) l.name)) other ∙ rest
        kept false other rest = rest

        at : (b : Bool) → bytes_eq l.name k.name ≡ b → cond b (Some k.query) (query_of ls l.name) ≡ Some l.query → (query_of ls l.name ≡ Some l.query → query_of (lasting ls) l.name ≡ Some l.query)
            → query_of (cond (not (ends_with gone k)) (k ∷ lasting ls) (lasting ls)) l.name ≡ Some l.query
        at true here is rest =
            let name = sym (same_text l.name k.name (sym here)) in
            let query = same_Some k.query l.query is in
            ap (λ b. query_of (cond b (k ∷ lasting ls) (lasting ls)) l.name) ((λ i. not (bytes_eq gone (name i) || uses (query i) gone)) ∙ lasts)
            ∙ ap (λ c. cond c (Some k.query) (query_of (lasting ls) l.name)) here
            ∙ is
        at false here is rest = kept (not (ends_with gone k)) here (rest is)

    -- they are ready
    ready_lasting : All (IsReady names (without gone names) (lasting live)) (lasting live)
    ready_lasting = λ k x below. one (at_place k x) (All-filter (λ l. not (ends_with gone l)) (IsRight d names live) live right k x below) (filter_passes (λ l. not (ends_with gone l)) live k x below)
      where
        at_place : ℕ → Live → Live
        at_place k x = slice_index_or (lasting live) k x

        one : (l : Live) → IsRight d names live l → not (ends_with gone l) ≡ true → IsReady names (without gone names) (lasting live) l
        one l r lasts =
            let free = neither (bytes_eq gone l.name) (uses l.query gone) lasts in
            record {
              known = ap (option_map described) (found-without gone names l.name free.0) ∙ r.known;
              own = query_of-lasting live l r.own lasts;
              tables = λ name used.
                  let table = r.tables name used in
                  (table, (table.0, ap (option_map described) (found-without gone names name (used_differs l.query gone name free.1 used)) ∙ table.1));
            }

    -- one whose query names what is gone has no query then
    query_of-ended : (l : Live) → query_of live l.name ≡ Some l.query → uses l.query gone ≡ true → (ls : List Live) → All (λ k. query_of live k.name ≡ Some k.query) ls → query_of (lasting ls) l.name ≡ None
    query_of-ended l own used [] all = refl
    query_of-ended l own used (k ∷ ls) all =
        at (not (ends_with gone k)) refl (query_of-ended l own used ls (All-tail (λ k. query_of live k.name ≡ Some k.query) k ls all))
      where
        named : (b : Bool) → bytes_eq l.name k.name ≡ b → not (ends_with gone k) ≡ true → query_of (lasting ls) l.name ≡ None → cond b (Some k.query) (query_of (lasting ls) l.name) ≡ None
        named true here lasts rest =
            let query = same_Some k.query l.query (sym (All-head (λ k. query_of live k.name ≡ Some k.query) k ls all) ∙ ap (query_of live) (sym (same_text l.name k.name (sym here))) ∙ own) in
            absurd (true≢false (sym (ap (λ q. uses q gone) query ∙ used) ∙ (neither (bytes_eq gone k.name) (uses k.query gone) lasts).1))
        named false here lasts rest = rest

        at : (b : Bool) → not (ends_with gone k) ≡ b → query_of (lasting ls) l.name ≡ None → query_of (cond b (k ∷ lasting ls) (lasting ls)) l.name ≡ None
        at true lasts rest = named (bytes_eq l.name k.name) refl lasts rest
        at false ends rest = rest

-- ---- one statement more

-- what a statement does, where it passed its checks over what is known
abbrev pub IsChecked : Known → Effect → Type 0
IsChecked known (on_names stmt) = IsFit known stmt.0
IsChecked known (saved name file) = ⊤
IsChecked known (reopened name file) = ⊤
IsChecked known (opened name columns rel) = ⊤
IsChecked known (imported name rows) = ⊤

module _ (d : ℤ) (world : World) (right : AreRight d world) where
  -- the names and the live results that a statement leaves, before the rows of these follow
  ready : (stmt : OfNames) → IsFit (known_of world.names) stmt.0 → All (IsReady world.names (names_after d world.names stmt) (live_after world.live stmt.0)) (live_after world.live stmt.0)
  ready (t.Create name columns, of) fit = ready_kept d world.names world.live right _ (keeps-more d world.names world.live right _)
  ready (t.Insert name rows, of) fit = ready_kept d world.names world.live right _ (keeps-changed d world.names world.live right name _)
  ready (t.Delete name cond, of) fit = ready_kept d world.names world.live right _ (keeps-changed d world.names world.live right name _)
  ready (t.Update name sets cond, of) fit = ready_kept d world.names world.live right _ (keeps-changed d world.names world.live right name _)
  ready (t.Drop name, of) fit = ready_lasting d world.names world.live right name
  ready (t.Keep name query, of) fit = ready_kept d world.names world.live right _ (keeps-more d world.names world.live right _)
  ready (t.Tables, of) fit = ready_kept d world.names world.live right world.names (keeps-all d world.names world.live right)
  ready (t.PrintName name day, of) fit = ready_kept d world.names world.live right world.names (keeps-all d world.names world.live right)
  ready (t.PrintQuery query day, of) fit = ready_kept d world.names world.live right world.names (keeps-all d world.names world.live right)
  ready (t.Save name file, of) fit = absurd of
  ready (t.OpenFile name file, of) fit = absurd of
  ready (t.ImportFile name file, of) fit = absurd of
  ready (t.Explain query, of) fit = ready_kept d world.names world.live right world.names (keeps-all d world.names world.live right)
  ready (t.Valid name day, of) fit = ready_kept d world.names world.live right world.names (keeps-all d world.names world.live right)
  ready (t.Live name query, of) fit = ready_live d world.names world.live right name query fit.0 fit.1

  -- live results that are right stay so
  pub right_step : (effect : Effect) → IsChecked (known_of world.names) effect → AreRight d (ordinary_statement d world effect)
  right_step (on_names stmt) checked = right_again d world.names world.live right _ (live_after world.live stmt.0) (ready stmt checked)
  right_step (saved name file) checked = right
  right_step (reopened name file) checked = by (found world.files file)
    where
      by : (o : Option (Held (List Fixed))) → All (IsRight d (with_name name o world.names) world.live) world.live
      by None = right
      by (Some h) = right_more d world.names world.live right (kept_as name h)
  right_step (opened name columns rel) checked = right_more d world.names world.live right _
  right_step (imported name rows) checked =
      right_again d world.names world.live right _ world.live (ready_kept d world.names world.live right _ (keeps-changed d world.names world.live right name _))

  -- a live result whose query names a table that is dropped is a kept result, with the rows that it had
  pub kept_step : (gone : List ℕ) (l : Live) → IsRight d world.names world.live l → uses l.query gone ≡ true → found (ordinary_statement d world (on_names (t.Drop gone, tt))).names l.name
      ≡ Some (record { name = l.name; what = what.Kept; columns = l.query.first.schema; rows = ordinary_query d (named_rows world.names) l.query })
  kept_step gone l r used =
      found-ended (ordinary_query d (named_rows (without gone world.names))) world.live (live_after world.live (t.Drop gone)) (without gone world.names) l.name l.query r.own
      (query_of-ended d world.names world.live right gone l r.own used world.live
      (All-weaker (IsRight d world.names world.live) (λ k. query_of world.live k.name ≡ Some k.query) (λ k r. r.own) world.live right))
      ∙ ap (option_map (λ h. kept_with h.rows h))
      (found-without gone world.names l.name (apart world.names l gone r.known (r.tables gone used)) ∙ found_is world.names l.name (what.Live, l.query.first.schema) _ r.known r.rows)

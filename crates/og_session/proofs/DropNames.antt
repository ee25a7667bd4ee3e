-- The names of a run after a DROP.
use Rattle.std.proofs.Common.{◌≡◌, ◌≤◌, ◌&&◌, ℕ, ℤ, Bool, true, false, cond, not, List, [], ◌∷◌, Option, Some, None, is_some, length, map, if◌then◌else◌, refl, sym, ap, ◌∙◌, subst, arith}
use Rattle.std.specs.Cmp.Lexicographic.{nat_list_eq_equiv, same_text}
use Rattle.std.specs.List.{AllByRecursion, IsDistinct}
use Rattle.std.specs.Map.{lookup, keys_of}
use Rattle.std.specs.Option.{option_map}
use Rattle.std.specs.Str.{bytes_eq}
use Rattle.std.proofs.lemmas.Map.Keys.{IsDistinct-tail}
use Rattle.og_value.specs.Order.{row_order}
use Rattle.og_value.specs.Values.{row_at}
use Rattle.og_value.specs.declared.kind.What.{What}
use Rattle.og_value.specs.declared.kind.What.TheVariants as what
use Rattle.og_value.specs.declared.schema.Column.{Column}
use Rattle.og_rel.specs.Relations.{relation_at}
use Rattle.og_query.specs.Queries.{Fixed}
use Rattle.og_query.specs.declared.query.Query.{Query}
use Rattle.og_query.specs.declared.typed.Typed.TheVariants as t
use Rattle.og_db.specs.Database.{Relation, names_at}
use Rattle.og_db.specs.Held.{Held, made_of, all_made_of, without}
use Rattle.og_db.specs.Live.{Live, answered, has_ended, kept_at, kept_with, query_of, refreshed, settled}
use Rattle.og_db.specs.Runs.{AreWithin, IsWithin, sizes_at}
use Rattle.og_db.specs.Statements.{names_after, name_sizes_after}
use Rattle.og_view.specs.Views.{Seen}
use Rattle.og_session.specs.Following.{lasting, settle_one, settle_views, view_ends}
use Rattle.og_session.specs.Names.{AreLiveViews, Views, lives_of, shown, with_views}
use Rattle.og_session.proofs.DropSteps.{kept_view, lookup-lasting, none_behind}
use Rattle.og_session.proofs.NameLemmas.{IsBlank, blank_names, query_of-lives, shown-name}

module _ (name : List ℕ) where
  -- a name as it is settled: a kept result, where its view ends
  abbrev pub settled_name : Option Seen → Held Relation → Held Relation
  settled_name None h = h
  settled_name (Some s) h = if view_ends name (h.name, s) then kept_with s.result h else h

  -- all names as they are settled
  abbrev pub settled_names : Views → List (Held Relation) → List (Held Relation)
  settled_names views db = map (λ h. settled_name (lookup (bytes_eq h.name) views) h) db

  -- the name stays
  settled-name : (o : Option Seen) (h : Held Relation) → (settled_name o h).name ≡ h.name
  settled-name None h = refl
  settled-name (Some s) h = at (view_ends name (h.name, s))
    where
      at : (b : Bool) → (if b then kept_with s.result h else h).name ≡ h.name
      at true = refl
      at false = refl

  -- views settle each name by its own view alone
  pub settle-names : (views : Views) → IsDistinct bytes_eq (keys_of views) → (db : List (Held Relation)) → settle_views name views db ≡ settled_names views db
  settle-names [] apart db = stay db
    where
      stay : (db : List (Held Relation)) → db ≡ map (λ h. h) db
      stay [] = refl
      stay (h ∷ db) = ap (λ hs. h ∷ hs) (stay db)
  settle-names (v ∷ views) apart db =
      ap (settle_one name v) (settle-names views (IsDistinct-tail bytes_eq v.0 (keys_of views) apart) db) ∙ all (view_ends name v) refl db
    where
      old : Held Relation → Held Relation
      old h = settled_name (lookup (bytes_eq h.name) views) h

      now : Held Relation → Held Relation
      now h = settled_name (lookup (bytes_eq h.name) (v ∷ views)) h

      put : Bool → Held Relation → Held Relation
      put b h = if b then kept_with v.1.result h else h

      ends_same : (h : Held Relation) → bytes_eq h.name v.0 ≡ true → view_ends name (h.name, v.1) ≡ view_ends name v
      ends_same h is = ap (λ k. view_ends name (k, v.1)) (same_text h.name v.0 (sym is))

      first : (e : Bool) → view_ends name v ≡ e → (h : Held Relation) → bytes_eq h.name v.0 ≡ true → now h ≡ put e h
      first e ends h is = ap (λ b. settled_name (cond b (Some v.1) (lookup (bytes_eq h.name) views)) h) is ∙ ap (λ b. put b h) (ends_same h is ∙ ends)

      other : (h : Held Relation) → bytes_eq h.name v.0 ≡ false → now h ≡ old h
      other h is = ap (λ b. settled_name (cond b (Some v.1) (lookup (bytes_eq h.name) views)) h) is

      plain : (h : Held Relation) → bytes_eq h.name v.0 ≡ true → old h ≡ h
      plain h is = ap (λ o. settled_name o h) (none_behind h.name v views apart is)

      turned : (h : Held Relation) (b : Bool) → bytes_eq h.name v.0 ≡ b → bytes_eq v.0 h.name ≡ b
      turned h b is = nat_list_eq_equiv.symm v.0 h.name ∙ is

      ended : view_ends name v ≡ true → (h : Held Relation) (b : Bool) → bytes_eq h.name v.0 ≡ b → put (bytes_eq v.0 (old h).name) (old h) ≡ now h
      ended ends h true is = ap (λ k. put (bytes_eq v.0 k.name) k) (plain h is) ∙ ap (λ b. put b h) (turned h true is) ∙ sym (first true ends h is)
      ended ends h false is =
          ap (λ n. put (bytes_eq v.0 n) (old h)) (settled-name (lookup (bytes_eq h.name) views) h) ∙ ap (λ b. put b (old h)) (turned h false is) ∙ sym (other h is)

      lasts : view_ends name v ≡ false → (h : Held Relation) (b : Bool) → bytes_eq h.name v.0 ≡ b → old h ≡ now h
      lasts ends h true is = plain h is ∙ sym (first false ends h is)
      lasts ends h false is = sym (other h is)

      all : (e : Bool) → view_ends name v ≡ e → (db : List (Held Relation)) → (if e then kept_at v.0 v.1.result (map old db) else map old db) ≡ map now db
      all true ends [] = refl
      all true ends (h ∷ db) = λ i. ended ends h (bytes_eq h.name v.0) refl i ∷ all true ends db i
      all false ends [] = refl
      all false ends (h ∷ db) = λ i. lasts ends h (bytes_eq h.name v.0) refl i ∷ all false ends db i

  module _ (views : Views) (apart : IsDistinct bytes_eq (keys_of views)) where
    abbrev before : List Live
    before = lives_of views

    abbrev now : List Live
    now = lives_of (lasting name views)

    -- the query of a name that lasts
    now_query : (n : List ℕ) (o : Option Seen) → lookup (bytes_eq n) views ≡ o → query_of now n ≡ option_map (λ s. s.query) (kept_view name n o)
    now_query n o is = query_of-lives (lasting name views) n ∙ ap (option_map (λ s. s.query)) (lookup-lasting name views apart n ∙ ap (kept_view name n) is)

    -- a name without a view does not end
    none_ends : (n : List ℕ) → lookup (bytes_eq n) views ≡ None → has_ended before now n ≡ false
    none_ends n is = ap (λ q. is_some q && not (is_some (query_of now n))) (query_of-lives views n ∙ ap (option_map (λ s. s.query)) is)

    -- one with a view ends where the view does
    view_ended : (n : List ℕ) (s : Seen) (e : Bool) → lookup (bytes_eq n) views ≡ Some s → view_ends name (n, s) ≡ e → has_ended before now n ≡ e
    view_ended n s e is ends =
        ap (λ q. is_some q && not (is_some (query_of now n))) (query_of-lives views n ∙ ap (option_map (λ s. s.query)) is)
        ∙ ap (λ q. not (is_some q)) (now_query n (Some s) is) ∙ ap (λ b. not (is_some (option_map (λ s. s.query) (if b then None else Some s)))) ends ∙ turned e
      where
        turned : (b : Bool) → not (is_some (option_map (λ s. s.query) (if b then None else Some s))) ≡ b
        turned true = refl
        turned false = refl

    module _ {V : Type 0} (g : Relation → V) (f : Query → V) where
      -- a name with what its query answers, and a name that is settled by what is live
      abbrev see : Held V → Held V
      see h = answered f (query_of now h.name) h

      abbrev settle : Bool → Held V → Held V
      settle b h = if b then kept_with h.rows h else h

      -- one name, as it is settled here and as its statement settles it
      one_alike : (h : Held Relation) (o : Option Seen) → lookup (bytes_eq h.name) views ≡ o
          → see (made_of g (settled_name o h)) ≡ see (settle (has_ended before now (shown o h).name) (made_of g (shown o h)))
      one_alike h None is = sym (ap (λ b. see (settle b (made_of g h))) (none_ends h.name is))
      one_alike h (Some s) is = at (view_ends name (h.name, s)) refl
        where
          kept : Held V
          kept = made_of g (shown (Some s) h)

          at : (e : Bool) → view_ends name (h.name, s) ≡ e → see (made_of g (if e then kept_with s.result h else h)) ≡ see (settle (has_ended before now h.name) kept)
          at true ends = sym (ap (λ b. see (settle b kept)) (view_ended h.name s true is ends))
          at false ends =
              let query = now_query h.name (Some s) is ∙ ap (λ b. option_map (λ s. s.query) (if b then None else Some s)) ends in
              ap (λ q. answered f q (made_of g h)) query ∙ sym (ap (λ q. answered f q kept) query) ∙ sym (ap (λ b. see (settle b kept)) (view_ended h.name s false is ends))

      -- all names but the one that goes
      names_alike : (db : List (Held Relation))
          → refreshed f now (all_made_of g (without name (settled_names views db))) ≡ refreshed f now (settled before now (without name (all_made_of g (with_views views db))))
      names_alike [] = refl
      names_alike (h ∷ db) =
          ap (λ n. refreshed f now (all_made_of g (cond (not (bytes_eq name n)) (mine ∷ rest) rest))) (settled-name o h)
          ∙ at (bytes_eq name h.name) (names_alike db)
          ∙ sym (ap (λ n. refreshed f now (settled before now (cond (not (bytes_eq name n)) (theirs ∷ others) others))) (shown-name o h))
        where
          o : Option Seen
          o = lookup (bytes_eq h.name) views

          mine : Held Relation
          mine = settled_name o h

          rest : List (Held Relation)
          rest = without name (settled_names views db)

          theirs : Held V
          theirs = made_of g (shown o h)

          others : List (Held V)
          others = without name (all_made_of g (with_views views db))

          at : (b : Bool) → refreshed f now (all_made_of g rest) ≡ refreshed f now (settled before now others)
              → refreshed f now (all_made_of g (cond (not b) (mine ∷ rest) rest)) ≡ refreshed f now (settled before now (cond (not b) (theirs ∷ others) others))
          at true same = same
          at false same = λ i. one_alike h o refl i ∷ same i

    -- once the queries of the views that last answer, the names of the database are those that the statement leaves
    pub drop_alike : (db : List (Held Relation)) (d : ℤ) (f : Query → List Fixed) → refreshed f now (names_at d (without name (settle_views name views db)))
        ≡ refreshed f now (settled before now (names_after d (names_at d (with_views views db)) (t.Drop name, tt)))
    drop_alike db d f =
        ap (λ hs. refreshed f now (names_at d (without name hs))) (settle-names views apart db) ∙ names_alike (λ rel. relation_at row_order row_at rel d) f db

    -- one name has no more rows than its size
    one_within : (h : Held Relation) (m : Held ℕ) (o : Option Seen) → lookup (bytes_eq h.name) views ≡ o → IsBlank views h → IsWithin (made_of length (shown o h)) m
        → IsWithin (made_of length (settled_name o h)) (if has_ended before now h.name then kept_with m.rows m else m)
    one_within h m None is blank within = subst (λ b. IsWithin (made_of length h) (if b then kept_with m.rows m else m)) (sym (none_ends h.name is)) within
    one_within h m (Some s) is blank within = at (view_ends name (h.name, s)) refl
      where
        at : (e : Bool) → view_ends name (h.name, s) ≡ e
            → IsWithin (made_of length (if e then kept_with s.result h else h)) (if has_ended before now h.name then kept_with m.rows m else m)
        at true ends =
            subst (λ b. IsWithin (made_of length (kept_with s.result h)) (if b then kept_with m.rows m else m)) (sym (view_ended h.name s true is ends))
            (record { name = within.name; what = ap (λ (k : What × List Column). (what.Kept, k.1)) within.what; rows = within.rows })
        at false ends =
            subst (λ b. IsWithin (made_of length h) (if b then kept_with m.rows m else m)) (sym (view_ended h.name s false is ends))
            (record { name = within.name; what = within.what; rows = subst (λ n. n ≤ m.rows) (sym (ap length (blank s is).1)) (omega arith) })

    -- so have all
    names_within : (db : List (Held Relation)) (sizes : List (Held ℕ)) → AllByRecursion (IsBlank views) db → AreWithin (sizes_at (with_views views db)) sizes
        → AreWithin (sizes_at (without name (settled_names views db))) (settled before now (without name sizes))
    names_within [] [] blank within = tt
    names_within [] (m ∷ sizes) blank within = absurd within
    names_within (h ∷ db) [] blank within = absurd within
    names_within (h ∷ db) (m ∷ sizes) blank within =
        subst (λ n. AreWithin (sizes_at (cond (not (bytes_eq name n)) (mine ∷ rest) rest)) (settled before now (cond (not (bytes_eq name m.name)) (m ∷ others) others))) (sym (settled-name o h))
        (subst (λ n. AreWithin (sizes_at (cond (not (bytes_eq name h.name)) (mine ∷ rest) rest)) (settled before now (cond (not (bytes_eq name n)) (m ∷ others) others))) named
        (at (bytes_eq name h.name) (names_within db sizes blank.1 within.1)))
      where
        o : Option Seen
        o = lookup (bytes_eq h.name) views

        named : h.name ≡ m.name
        named = sym (shown-name o h) ∙ within.0.name

        mine : Held Relation
        mine = settled_name o h

        rest : List (Held Relation)
        rest = without name (settled_names views db)

        others : List (Held ℕ)
        others = without name sizes

        at : (b : Bool) → AreWithin (sizes_at rest) (settled before now others)
            → AreWithin (sizes_at (cond (not b) (mine ∷ rest) rest)) (settled before now (cond (not b) (m ∷ others) others))
        at true less = less
        at false less = (
          subst (λ n. IsWithin (made_of length mine) (if has_ended before now n then kept_with m.rows m else m)) named (one_within h m o refl blank.0 within.0),
          less,
        )

    -- no name has more rows than the statement leaves it
    pub drop_sized : (db : List (Held Relation)) → IsDistinct bytes_eq (map (λ h. h.name) db) → AreLiveViews db views → (sizes : List (Held ℕ)) → AreWithin (sizes_at (with_views views db)) sizes
        → AreWithin (sizes_at (without name (settle_views name views db))) (settled before now (name_sizes_after sizes (t.Drop name, tt)))
    drop_sized db names live sizes within =
        subst (λ hs. AreWithin (sizes_at (without name hs)) (settled before now (without name sizes))) (sym (settle-names views apart db))
        (names_within db sizes (blank_names db names views live) within)

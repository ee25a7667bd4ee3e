-- What becomes of live results at a statement: nothing where none is live, and no more rows where there were no more.
use Rattle.std.proofs.Common.{◌≡◌, ◌≤◌, ℕ, ℤ, Bool, true, false, List, [], ◌∷◌, Option, Some, None, fold, if◌then◌else◌, refl, sym, ap, ◌∙◌, subst, true≢false}
use Rattle.og_value.specs.declared.kind.What.TheVariants as what
use Rattle.og_query.specs.Sizes.{query_size}
use Rattle.og_query.specs.declared.query.Query.{Query}
use Rattle.og_query.specs.declared.typed.Typed.{Typed}
use Rattle.og_db.specs.Effects.{Effect, Store, World, on_names, saved, reopened, opened, imported, ordinary_statement, world_of_day, size_after, statement_sizes}
use Rattle.og_db.specs.Held.{Held}
use Rattle.og_db.specs.Live.{Live, live_after, query_of, kept_with, has_ended, settled, answered, refreshed, followed}
use Rattle.og_db.specs.Runs.{IsWithin, AreWithin, live_of}
use Rattle.og_db.specs.Statements.{OfNames, named_sizes, name_sizes_after}
use Rattle.og_db.proofs.SizeLemmas.{query_more, within-after, within-named}

-- names are what they are where none is live
pub followed-none : {V : Type 0} (answer : List (Held V) → Query → V) (live : List Live) (stmt : Typed) → live ≡ [] → live_after [] stmt ≡ [] → (after : List (Held V))
    → followed answer live stmt after ≡ after
followed-none {V} answer live stmt before now after =
    ap (λ live. followed answer live stmt after) before ∙ ap (λ now. refreshed (answer after) now (settled [] now after)) now ∙ same after
  where
    same : (hs : List (Held V)) → refreshed (answer after) [] (settled [] [] hs) ≡ hs
    same [] = refl
    same (h ∷ hs) = ap (λ rest. h ∷ rest) (same hs)

-- names that are settled
within-settled : (before now : List Live) (a b : List (Held ℕ)) → AreWithin a b → AreWithin (settled before now a) (settled before now b)
within-settled before now [] [] v = tt
within-settled before now [] (m ∷ b) v = absurd v
within-settled before now (h ∷ a) [] v = absurd v
within-settled before now (h ∷ a) (m ∷ b) v =
    (at (has_ended before now h.name) (has_ended before now m.name) (ap (has_ended before now) v.0.name), within-settled before now a b v.1)
  where
    at : (x y : Bool) → x ≡ y → IsWithin (if x then kept_with h.rows h else h) (if y then kept_with m.rows m else m)
    at true true e = record { name = v.0.name; what = ap (λ k. (what.Kept, k.1)) v.0.what; rows = v.0.rows }
    at true false e = absurd (true≢false e)
    at false true e = absurd (true≢false (sym e))
    at false false e = v.0

-- names whose queries have answers with no more rows
within-refreshed : (f g : Query → ℕ) → ((query : Query) → f query ≤ g query) → (live : List Live) (a b : List (Held ℕ)) → AreWithin a b → AreWithin (refreshed f live a) (refreshed g live b)
within-refreshed f g more live [] [] v = tt
within-refreshed f g more live [] (m ∷ b) v = absurd v
within-refreshed f g more live (h ∷ a) [] v = absurd v
within-refreshed f g more live (h ∷ a) (m ∷ b) v =
    (subst (λ o. IsWithin (answered f (query_of live h.name) h) (answered g o m)) (ap (query_of live) v.0.name) (at (query_of live h.name)), within-refreshed f g more live a b v.1)
  where
    at : (o : Option Query) → IsWithin (answered f o h) (answered g o m)
    at None = v.0
    at (Some query) = record { name = v.0.name; what = v.0.what; rows = more query }

-- a statement leaves no more rows where there were no more
pub within-statement : (live : List Live) (a b : List (Held ℕ)) → AreWithin a b → (stmt : OfNames) → AreWithin (statement_sizes live a stmt) (statement_sizes live b stmt)
within-statement live a b v stmt = within-followed (name_sizes_after a stmt) (name_sizes_after b stmt) (within-after a b v stmt)
  where
    followed_sizes : List (Held ℕ) → List (Held ℕ)
    followed_sizes = followed (λ after. query_size (named_sizes after)) live stmt.0

    within-followed : (a b : List (Held ℕ)) → AreWithin a b → AreWithin (followed_sizes a) (followed_sizes b)
    within-followed a b v =
        within-refreshed (query_size (named_sizes a)) (query_size (named_sizes b)) (query_more (named_sizes a) (named_sizes b) (λ name. within-named name a b v)) (live_after live stmt.0)
        (settled live (live_after live stmt.0) a) (settled live (live_after live stmt.0) b) (within-settled live (live_after live stmt.0) a b v)

-- the same names are live on a day as in the sizes after a statement
live_step : (d : ℤ) (world : World) (sizes : Store ℕ) → world.live ≡ sizes.live → (e : Effect) → (ordinary_statement d world e).live ≡ (size_after sizes e).live
live_step d world sizes same (on_names stmt) = ap (λ live. live_after live stmt.0) same
live_step d world sizes same (saved name file) = same
live_step d world sizes same (reopened name file) = same
live_step d world sizes same (opened name columns rel) = same
live_step d world sizes same (imported name rows) = same

-- and after statements
live_steps : (d : ℤ) (effects : List Effect) (world : World) (sizes : Store ℕ) → world.live ≡ sizes.live → (fold (ordinary_statement d) world effects).live ≡ (fold size_after sizes effects).live
live_steps d [] world sizes same = same
live_steps d (e ∷ effects) world sizes same = live_steps d effects (ordinary_statement d world e) (size_after sizes e) (live_step d world sizes same e)

-- the live results are the same on all days
pub live_on_day : (d : ℤ) (effects : List Effect) → (world_of_day d effects).live ≡ live_of effects
live_on_day d effects = live_steps d effects (record { names = []; files = []; live = [] }) (record { names = []; files = []; live = [] }) refl

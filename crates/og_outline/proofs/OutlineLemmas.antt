-- Outlines and the statements that they stand for.
use Rattle.std.proofs.Common.{◌≡◌, ◌++◌, ◌&&◌, ℕ, Bool, true, false, cond, not, List, [], ◌∷◌, Option, Some, None, is_some, if◌then◌else◌, refl, sym, ap, ◌∙◌}
use Rattle.std.specs.Str.{bytes_eq}
use Rattle.std.proofs.lemmas.List.{append_assoc}
use Rattle.std.proofs.lemmas.List.Sums.{fold-append}
use Rattle.og_query.specs.declared.query.Query.{Query}
use Rattle.og_query.specs.declared.typed.Typed.{Typed}
use Rattle.og_db.specs.Effects.{Effect, Store, size_after, sizes_after}
use Rattle.og_db.specs.Held.{Held, changed_at, known_of, made_of}
use Rattle.og_db.specs.Live.{Live, answered, followed, has_ended, kept_with, live_after, query_of, refreshed, settled}
use Rattle.og_db.specs.Runs.{known_after}
use Rattle.og_db.proofs.WorldLemmas.{all_made_of-push, known_of-made_of}
use Rattle.og_outline.specs.Outlines.{IsOutlineOf, Outlined, bare, held_columns, live_at, lives_in, saved_columns}

-- ---- names without what is held under them

-- what queries answer is not seen
pub bare-refreshed : {V : Type 0} (answer : Query → V) (live : List Live) (hs : List (Held V)) → bare (refreshed answer live hs) ≡ bare hs
bare-refreshed answer live [] = refl
bare-refreshed {V} answer live (h ∷ hs) = λ i. one (query_of live h.name) i ∷ bare-refreshed answer live hs i
  where
    one : (o : Option Query) → made_of {V = V} {W = Unit {0}} (λ _. tt) (answered answer o h) ≡ made_of (λ _. tt) h
    one None = refl
    one (Some query) = refl

-- nor are other rows
pub bare-changed : {V : Type 0} (name : List ℕ) (g : V → V) (hs : List (Held V)) → bare (changed_at name g hs) ≡ bare hs
bare-changed name g [] = refl
bare-changed {V} name g (h ∷ hs) = λ i. one (bytes_eq name h.name) i ∷ bare-changed name g hs i
  where
    one : (b : Bool) → made_of {V = V} {W = Unit {0}} (λ _. tt) (if b then made_of g h else h) ≡ made_of (λ _. tt) h
    one true = refl
    one false = refl

-- one name more, with the same of all but its rows
pub bare-push : {V W : Type 0} (a : List (Held V)) (b : List (Held W)) → bare a ≡ bare b → (x : Held V) (y : Held W) → made_of {W = Unit {0}} (λ _. tt) x ≡ made_of (λ _. tt) y → bare (a ++ x ∷ []) ≡ bare (b ++ y ∷ [])
bare-push a b same x y one = all_made_of-push (λ _. tt) a x ∙ (λ i. same i ++ one i ∷ []) ∙ sym (all_made_of-push (λ _. tt) b y)

-- ---- live results

-- the live results among names with one more
pub lives_in-push : (hs : List (Held (Option Query))) (h : Held (Option Query)) → lives_in (hs ++ h ∷ []) ≡ lives_in hs ++ live_at h.name h.rows
lives_in-push [] h = at h.rows
  where
    at : (o : Option Query) → live_at h.name o ++ [] ≡ live_at h.name o
    at None = refl
    at (Some query) = refl
lives_in-push (k ∷ hs) h = ap (λ live. live_at k.name k.rows ++ live) (lives_in-push hs h) ∙ sym (append_assoc (live_at k.name k.rows) (lives_in hs) (live_at h.name h.rows))

-- where others become live, none ends
has_ended-grown : (live more : List Live) (name : List ℕ) → has_ended live (live ++ more) name ≡ false
has_ended-grown [] more name = refl
has_ended-grown (l ∷ live) more name =
    elim (bytes_eq name l.name) as (λ b. is_some (cond b (Some l.query) (query_of live name)) && not (is_some (cond b (Some l.query) (query_of (live ++ more) name))) ≡ false) [
      | true ↦ refl
      | false ↦ has_ended-grown live more name
    ]

-- and no name is settled
settled-grown : {V : Type 0} (live more : List Live) (hs : List (Held V)) → settled live (live ++ more) hs ≡ hs
settled-grown live more [] = refl
settled-grown live more (h ∷ hs) = λ i. (if has_ended-grown live more h.name i then kept_with h.rows h else h) ∷ settled-grown live more hs i

-- the names that a statement leaves are those that it makes, where no live result ends with it
pub bare-grown : {V : Type 0} (answer : List (Held V) → Query → V) (live more : List Live) (stmt : Typed) → live_after live stmt ≡ live ++ more → (after : List (Held V))
    → bare (followed answer live stmt after) ≡ bare after
bare-grown answer live more stmt now after =
    bare-refreshed (answer after) (live_after live stmt) (settled live (live_after live stmt) after)
    ∙ ap (λ now. bare (settled live now after)) now
    ∙ ap (λ hs. bare hs) (settled-grown live more after)

-- ---- outlines of sizes

-- the outline of names and files with their numbers of rows
pub record IsOutlineIn (o : Outlined) (sizes : Store ℕ) : Type 0 where
  pub names : bare o.names ≡ bare sizes.names
  pub live : lives_in o.names ≡ sizes.live
  pub files : (file : List ℕ) → saved_columns o.files file ≡ held_columns sizes.files file

-- the outline of statements is that of the sizes after them
pub of_sizes : (o : Outlined) (effects : List Effect) → IsOutlineOf o effects → IsOutlineIn o (sizes_after effects)
of_sizes o effects is = record { names = is.names; live = is.live; files = is.files }

-- and with one statement more
pub one_more : (o : Outlined) (effects : List Effect) (e : Effect) → IsOutlineIn o (size_after (sizes_after effects) e) → IsOutlineOf o (effects ++ e ∷ [])
one_more o effects e is = record {
  names = is.names ∙ ap (λ (s : Store ℕ). bare s.names) (sym sizes);
  live = is.live ∙ ap (λ (s : Store ℕ). s.live) (sym sizes);
  files = λ file. is.files file ∙ ap (λ (s : Store ℕ). held_columns s.files file) (sym sizes);
}
  where
    sizes : sizes_after (effects ++ e ∷ []) ≡ size_after (sizes_after effects) e
    sizes = fold-append size_after (record { names = []; files = []; live = [] }) effects (e ∷ [])

-- the names that an outline knows are known in the sizes
pub known_in : (o : Outlined) (sizes : Store ℕ) → IsOutlineIn o sizes → (name : List ℕ) → known_of o.names name ≡ known_of sizes.names name
known_in o sizes is name = sym (known_of-made_of (λ _. tt) o.names name) ∙ ap (λ hs. known_of hs name) is.names ∙ known_of-made_of (λ _. tt) sizes.names name

-- and after the statements
pub known_same : (o : Outlined) (effects : List Effect) → IsOutlineOf o effects → known_of o.names ≡ known_after effects
known_same o effects is = λ i name. known_in o (sizes_after effects) (of_sizes o effects is) name i

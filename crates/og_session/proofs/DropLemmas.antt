-- Live results that end with the DROP of a name.
use Rattle.std.proofs.Common.{◌≡◌, ◌≤◌, ◌<◌, ◌++◌, ◌+◌, ℕ, zero, suc, Bool, true, false, cond, not, List, [], ◌∷◌, Some, length, filter, slice_get, remove, if◌then◌else◌, refl, sym, ap, ◌∙◌, subst, true≢false, arith}
use Rattle.std.specs.Cmp.Lexicographic.{same_text}
use Rattle.std.specs.List.{AllByRecursion, IsDistinct}
use Rattle.std.specs.Map.{keys_of}
use Rattle.std.specs.Option.{option_map}
use Rattle.std.specs.Str.{bytes_eq}
use Rattle.std.proofs.lemmas.Map.Keys.{IsDistinct-head, IsDistinct-tail}
use Rattle.std.proofs.lemmas.Option.{same_Some}
use Rattle.og_db.specs.Database.{Relation}
use Rattle.og_db.specs.Held.{Held, described, found, known_of}
use Rattle.og_db.specs.Live.{ends_with, kept_at, kept_with}
use Rattle.og_view.specs.Views.{Seen}
use Rattle.og_session.specs.Following.{lasting, settle_one, settle_views, view_ends}
use Rattle.og_session.specs.Names.{Views, lives_of}

-- a list at a place
at_place : {A : Type 0} (front back : List A) (x : A) (i : ℕ) → length front ≡ i → slice_get (front ++ x ∷ back) i ≡ Some x
at_place [] back x i e = subst (λ n. slice_get (x ∷ back) n ≡ Some x) e refl
at_place (y ∷ front) back x i e = subst (λ n. slice_get (y ∷ (front ++ x ∷ back)) n ≡ Some x) e (at_place front back x (length front) refl)

-- and without what is there
without_place : {A : Type 0} (front back : List A) (x : A) → remove (front ++ x ∷ back) (length front) ≡ front ++ back
without_place [] back x = refl
without_place (y ∷ front) back x = ap (λ rest. y ∷ rest) (without_place front back x)

-- parts around a place
pub parts_at : {A : Type 0} (xs : List A) (x : A) (i : ℕ) → slice_get xs i ≡ Some x → (front : List A) × (back : List A) × (xs ≡ front ++ x ∷ back) × (length front ≡ i)
parts_at [] x i e = cc e
parts_at (y ∷ xs) x zero e = let same : y ≡ x = cc e in ([], xs, ap (λ z. z ∷ xs) same, refl)
parts_at (y ∷ xs) x (suc i) e = let p = parts_at xs x i e in (y ∷ p.0, p.1, ap (λ zs. y ∷ zs) p.2, ap (λ n. suc n) p.3)

-- the live results of those that last are the lasting live results
pub lives-lasting : (name : List ℕ) (views : Views) → lives_of (lasting name views) ≡ filter (λ l. not (ends_with name l)) (lives_of views)
lives-lasting name [] = refl
lives-lasting name (v ∷ views) =
    elim (view_ends name v) as (λ b. lives_of (cond (not b) (v ∷ lasting name views) (lasting name views))
    ≡ cond (not b) (record { name = v.0; query = v.1.query } ∷ filter (λ l. not (ends_with name l)) (lives_of views)) (filter (λ l. not (ends_with name l)) (lives_of views))) [
      | true ↦ lives-lasting name views
      | false ↦ ap (λ ls. record { name = v.0; query = v.1.query } ∷ ls) (lives-lasting name views)
    ]

module _ (name : List ℕ) where
  -- a view that ends is taken out
  pub taken_out : (entries now front back : Views) (v u : List ℕ × Seen) (i : ℕ) → view_ends name v ≡ true → Some u ≡ slice_get entries i → now ≡ remove entries i → entries ≡ front ++ v ∷ back → length front ≡ i
      → (u ≡ v) × (now ≡ front ++ (lasting name (v ∷ []) ++ back))
  taken_out entries now front back v u i ends entry left parts place = (
    same_Some u v (entry ∙ ap (λ es. slice_get es i) parts ∙ at_place front back v i place),
    left ∙ ap (λ es. remove es i) parts ∙ ap (remove (front ++ v ∷ back)) (sym place) ∙ without_place front back v
        ∙ ap (λ b. front ++ (cond (not b) (v ∷ []) [] ++ back)) (sym ends),
  )

  -- and it settles its name
  pub settled_by : (db new : List (Held Relation)) (v : List ℕ × Seen) → view_ends name v ≡ true → new ≡ kept_at v.0 v.1.result db → new ≡ settle_one name v db
  settled_by db new v ends is = is ∙ sym (ap (λ b. if b then kept_at v.0 v.1.result db else db) ends)

-- ---- one view after the other, from the last

-- the last of some
pub last_of : {A : Type 0} (xs : List A) → 0 < length xs → (front : List A) × (x : A) × (xs ≡ front ++ x ∷ []) × (length front + 1 ≡ length xs)
last_of [] some = absurd (omega (arith, some))
last_of (x ∷ []) some = ([], x, refl, refl)
last_of (x ∷ y ∷ xs) some = let more = last_of (y ∷ xs) (omega arith) in (x ∷ more.0, more.1, ap (λ ys. x ∷ ys) more.2, omega (arith, more.3))

-- what stands at one place is one thing
pub same_place : {A : Type 0} (xs front back other rest : List A) (x y : A) → xs ≡ front ++ x ∷ back → xs ≡ other ++ y ∷ rest → length front ≡ length other → x ≡ y
same_place xs front back other rest x y e f same =
    same_Some x y (sym (at_place front back x (length other) same) ∙ ap (λ zs. slice_get zs (length other)) (sym e ∙ f) ∙ at_place other rest y (length other) refl)

-- a name stays what it is where another is settled
found_kept : (n m : List ℕ) (rows : Relation) (hs : List (Held Relation)) → bytes_eq n m ≡ false → found (kept_at m rows hs) n ≡ found hs n
found_kept n m rows [] apart = refl
found_kept n m rows (h ∷ hs) apart = outer (bytes_eq m h.name) refl (found_kept n m rows hs apart)
  where
    one : Bool → Held Relation
    one b = if b then kept_with rows h else h

    inner : (b : Bool) → bytes_eq m h.name ≡ b → (c : Bool) → bytes_eq n h.name ≡ c → found (kept_at m rows hs) n ≡ found hs n
        → cond c (Some (one b)) (found (kept_at m rows hs) n) ≡ cond c (Some h) (found hs n)
    inner true is true here rest = absurd (true≢false (sym (ap (bytes_eq n) (same_text m h.name (sym is)) ∙ here) ∙ apart))
    inner false is true here rest = refl
    inner b is false here rest = rest

    outer : (b : Bool) → bytes_eq m h.name ≡ b → found (kept_at m rows hs) n ≡ found hs n
        → cond (bytes_eq n (one b).name) (Some (one b)) (found (kept_at m rows hs) n) ≡ cond (bytes_eq n h.name) (Some h) (found hs n)
    outer true is rest = inner true is (bytes_eq n h.name) refl rest
    outer false is rest = inner false is (bytes_eq n h.name) refl rest

module _ (name : List ℕ) where
  -- where all of others are
  pub known_settled : (n : List ℕ) (views : Views) (db : List (Held Relation)) → AllByRecursion (λ key. bytes_eq n key ≡ false) (keys_of views) → known_of (settle_views name views db) n ≡ known_of db n
  known_settled n [] db apart = refl
  known_settled n (v ∷ views) db apart = at (view_ends name v) (known_settled n views db apart.1)
    where
      at : (b : Bool) → known_of (settle_views name views db) n ≡ known_of db n → known_of (if b then kept_at v.0 v.1.result (settle_views name views db) else settle_views name views db) n ≡ known_of db n
      at true rest = ap (option_map described) (found_kept n v.0 v.1.result (settle_views name views db) apart.0) ∙ rest
      at false rest = rest

  -- where all that end are
  pub found_settled : (n : List ℕ) (views : Views) (db : List (Held Relation)) → AllByRecursion (λ v. view_ends name v ≡ true → bytes_eq n v.0 ≡ false) views → found (settle_views name views db) n ≡ found db n
  found_settled n [] db other = refl
  found_settled n (v ∷ views) db other = at (view_ends name v) refl (found_settled n views db other.1)
    where
      at : (b : Bool) → view_ends name v ≡ b → found (settle_views name views db) n ≡ found db n → found (if b then kept_at v.0 v.1.result (settle_views name views db) else settle_views name views db) n ≡ found db n
      at true ends rest = found_kept n v.0 v.1.result (settle_views name views db) (other.0 ends) ∙ rest
      at false ends rest = rest

  -- the lasting of one and of others
  pub lasting-cons : (v : List ℕ × Seen) (views : Views) → lasting name (v ∷ []) ++ lasting name views ≡ lasting name (v ∷ views)
  lasting-cons v views = at (view_ends name v)
    where
      at : (b : Bool) → cond (not b) (v ∷ []) [] ++ lasting name views ≡ cond (not b) (v ∷ lasting name views) (lasting name views)
      at true = refl
      at false = refl

-- keys behind a view are other ones
pub apart_behind : (front back : Views) (v : List ℕ × Seen) → IsDistinct bytes_eq (keys_of (front ++ v ∷ back)) → AllByRecursion (λ key. bytes_eq v.0 key ≡ false) (keys_of back)
apart_behind [] back v apart = IsDistinct-head bytes_eq v.0 (keys_of back) apart
apart_behind (u ∷ front) back v apart = apart_behind front back v (IsDistinct-tail bytes_eq u.0 (keys_of (front ++ v ∷ back)) apart)

-- what holds of all holds of what stands at a place
pub all_at : {A : Type 0} (P : A → Type 0) (front back : List A) (x : A) → AllByRecursion P (front ++ x ∷ back) → P x
all_at P [] back x all = all.0
all_at P (y ∷ front) back x all = all_at P front back x all.1

-- where none is left, there is none
pub none_left : {A : Type 0} (front : List A) (done count : ℕ) → length front + done ≡ count → count ≤ done → front ≡ []
none_left [] done count e f = refl
none_left (x ∷ front) done count e f = absurd (omega (arith, e, f))

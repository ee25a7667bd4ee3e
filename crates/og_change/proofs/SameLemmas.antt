-- The days on which relations have rows, and those on which they have the same list.
use Rattle.std.proofs.Common.{◌≡◌, ◌↔◌, ◌++◌, ◌<◌, ◌≤◌, ◌||◌, ℕ, zero, suc, ℤ, Bool, true, false, not, List, [], ◌∷◌, length, get_or, take, drop, if◌then◌else◌, Contains, Ordering, refl, sym, ap, ap₂, ◌∙◌, inl, true≢false, arith}
use Rattle.std.specs.List.{list_any}
use Rattle.std.proofs.lemmas.List.Folds.{list_any-append}
use Rattle.std.proofs.lemmas.Map.Views.{Contains-from_any}
use Rattle.og_base.specs.Ranges.{Range, holds_day}
use Rattle.og_base.specs.Set.{IsExactOrder, IsWithin, set_of}
use Rattle.og_base.proofs.SetLemmas.{eq_by_cmp-exact, Contains-cons, Contains-filter, IsStrictlySortedBy-set_of, same_rising}
use Rattle.og_base.proofs.SetMembers.{list_any-set_of}
use Rattle.og_rel.specs.Algebra.{is_in, except}
use Rattle.og_rel.specs.Relations.{present, relation_at}
use Rattle.og_rel.proofs.AlgebraLemmas.{Contains-except, or_false}

-- a part of a list is its two halves
pub halves : {A : Type 0} (a b c : ℕ) (xs : List A) → a ≤ b → b ≤ c → drop a (take b xs) ++ drop b (take c xs) ≡ drop a (take c xs)
halves zero zero c xs l m = refl
halves zero (suc b) zero xs l m = absurd (omega (arith, m))
halves zero (suc b) (suc c) [] l m = refl
halves zero (suc b) (suc c) (x ∷ xs) l m = ap (λ ys. x ∷ ys) (halves zero b c xs (omega arith) (omega (arith, m)))
halves (suc a) zero c xs l m = absurd (omega (arith, l))
halves (suc a) (suc b) zero xs l m = absurd (omega (arith, m))
halves (suc a) (suc b) (suc c) [] l m = refl
halves (suc a) (suc b) (suc c) (x ∷ xs) l m = halves a b c xs (omega (arith, l)) (omega (arith, m))

-- a test of some member of a part, from its two halves
pub list_any-halves : {A : Type 0} (p : A → Bool) (a b c : ℕ) (xs : List A) → a ≤ b → b ≤ c
    → (list_any p (drop a (take b xs)) || list_any p (drop b (take c xs))) ≡ list_any p (drop a (take c xs))
list_any-halves p a b c xs l m = sym (list_any-append p (drop a (take b xs)) (drop b (take c xs))) ∙ ap (list_any p) (halves a b c xs l m)

-- a test of some member of a part of one member
pub list_any-one : {A : Type 0} (p : A → Bool) (a b : ℕ) (xs : List A) (t : Bool) → b ≡ suc a → a < length xs → ((x : A) → t ≡ p (get_or xs a x)) → t ≡ list_any p (drop a (take b xs))
list_any-one {A} p a b xs t e l is = rw e (one a xs l is)
  where
    one : (i : ℕ) (ys : List A) → i < length ys → ((y : A) → t ≡ p (get_or ys i y)) → t ≡ list_any p (drop i (take (suc i) ys))
    one i [] l is = absurd (omega (arith, l))
    one zero (y ∷ ys) l is = is y ∙ sym (or_false (p y))
    one (suc i) (y ∷ ys) l is = one i ys (omega (arith, l)) is

-- whether there is a member
abbrev pub some : {A : Type 0} → List A → Bool
some xs = list_any (λ _. true) xs

-- a list without members has none of which a test holds
none_of : {F : Type 0} (xs : List F) → ((z : F) → ¬ Contains xs z) → some xs ≡ false
none_of [] h = refl
none_of (x ∷ xs) h = absurd (h x (Contains-cons x x xs (inl refl)))

-- a list with a member has some
some_of : {F : Type 0} (z : F) (xs : List F) → Contains xs z → some xs ≡ true
some_of z [] c = absurd (omega (arith, c.1))
some_of z (x ∷ xs) c = refl

-- there are rows on a day where the days of some row hold it
some_present : {R F : Type 0} (at : R → ℤ → F) (rel : List (R × List Range)) (d : ℤ) → some (present at rel d) ≡ list_any (λ p. holds_day p.1 d) rel
some_present at [] d = refl
some_present at (p ∷ rel) d = with_first (holds_day p.1 d) (some_present at rel d)
  where
    with_first : (h : Bool) → some (present at rel d) ≡ list_any (λ q. holds_day q.1 d) rel
        → some (if h then at p.0 d ∷ present at rel d else present at rel d) ≡ (h || list_any (λ q. holds_day q.1 d) rel)
    with_first true e = refl
    with_first false e = e

module _ {F : Type 0} {cmp : F → F → Ordering} (o : IsExactOrder cmp) where
  -- the days on which a relation has rows
  days_of_rows : {R : Type 0} (at : R → ℤ → F) (rel : List (R × List Range)) (d : ℤ) → list_any (λ p. holds_day p.1 d) rel ≡ some (relation_at cmp at rel d)
  days_of_rows at rel d = sym (some_present at rel d) ∙ sym (list_any-set_of o.exact (λ _. true) (present at rel d))

  -- where nothing is left of a list without another, its members are in the other
  within : (xs ys : List F) → some (except cmp xs ys) ≡ false → IsWithin xs ys
  within xs ys none z c = at (is_in cmp z ys) refl
    where
      at : (t : Bool) → is_in cmp z ys ≡ t → Contains ys z
      at true e = Contains-from_any (eq_by_cmp-exact o.exact) z ys e
      at false e = absurd (true≢false (sym (some_of z (except cmp xs ys) (Contains-filter (λ x. not (is_in cmp x ys)) xs z (ap not e) c)) ∙ none))

  -- nothing is left of a list without itself
  without_itself : (xs : List F) → some (except cmp xs xs) ≡ false
  without_itself xs = none_of (except cmp xs xs) (λ z c. let both = (Contains-except o xs xs z).0 c in both.1 both.0)

  -- two sets are one exactly where nothing is left of each without the other
  same_where_none : (us vs : List F) → (not (some (except cmp (set_of cmp us) (set_of cmp vs)) || some (except cmp (set_of cmp vs) (set_of cmp us))) ≡ true) ↔ (set_of cmp vs ≡ set_of cmp us)
  same_where_none us vs = (
    λ e. let none = neither (some (except cmp (set_of cmp us) (set_of cmp vs))) (some (except cmp (set_of cmp vs) (set_of cmp us))) e in
        same_rising o.total (set_of cmp vs) (set_of cmp us) (IsStrictlySortedBy-set_of o.total vs) (IsStrictlySortedBy-set_of o.total us)
        (within (set_of cmp vs) (set_of cmp us) none.1) (within (set_of cmp us) (set_of cmp vs) none.0),
    λ e. rw e (ap₂ (λ x y. not (x || y)) (without_itself (set_of cmp us)) (without_itself (set_of cmp us))),
  )
    where
      neither : (a b : Bool) → not (a || b) ≡ true → (a ≡ false) × (b ≡ false)
      neither true b e = absurd (true≢false (sym e))
      neither false true e = absurd (true≢false (sym e))
      neither false false e = (refl, refl)

  -- the list of a day is that of another exactly where no row has gone or come, with the rows of the other day set on all days
  pub tells_same : {R : Type 0} (at : R → ℤ → F) (rel frozen gone come : List (R × List Range)) (d e : ℤ) (held left right : Bool) → present at frozen e ≡ present at rel d
      → relation_at cmp at gone e ≡ except cmp (relation_at cmp at frozen e) (relation_at cmp at rel e)
      → relation_at cmp at come e ≡ except cmp (relation_at cmp at rel e) (relation_at cmp at frozen e)
      → left ≡ list_any (λ p. holds_day p.1 e) gone → right ≡ list_any (λ p. holds_day p.1 e) come → held ≡ not (left || right)
      → (held ≡ true) ↔ (relation_at cmp at rel e ≡ relation_at cmp at rel d)
  tells_same at rel frozen gone come d e held left right still went came l r h =
      let were = ap (set_of cmp) still in
      let one = l ∙ days_of_rows at gone e ∙ ap some (went ∙ ap (λ xs. except cmp xs (relation_at cmp at rel e)) were) in
      let other = r ∙ days_of_rows at come e ∙ ap some (came ∙ ap (λ xs. except cmp (relation_at cmp at rel e) xs) were) in
      let tells = h ∙ ap₂ (λ x y. not (x || y)) one other in
      let same = same_where_none (present at rel d) (present at rel e) in
      (λ t. same.0 (sym tells ∙ t), λ k. tells ∙ same.1 k)

-- Rows that are entered once for each of their groups: one more, in another order, and those of two groups.
use Rattle.std.proofs.Common.{◌≡◌, ◌==◌, ◌+◌, ◌<◌, ◌&&◌, ◌||◌, ℕ, ℤ, Bool, true, false, List, [], ◌∷◌, length, get_or, filter, take, refl, sym, ap, ap₂, ◌∙◌, true≢false}
use Rattle.std.proofs.Math.Bool.{and-false, or_self}
use Rattle.std.specs.Cmp.{unsigned_tied}
use Rattle.std.specs.List.{list_any}
use Rattle.std.specs.List.Sorted.{IsPermutation}
use Rattle.std.specs.Ordering.{eq_by_cmp, nat_cmp}
use Rattle.std.proofs.lemmas.List.Folds.{list_any_more}
use Rattle.std.proofs.lemmas.List.Sorted.{list_any-IsPermutation}
use Rattle.og_base.specs.Groups.{share_group}
use Rattle.og_base.specs.Ranges.{Range, holds_day}
use Rattle.og_base.specs.declared.row.Groups.{Groups}
use Rattle.og_base.proofs.SetMembers.{list_any-filter, list_any-map}
use Rattle.og_rel.specs.Relations.{present}
use Rattle.og_rel.proofs.PresentLemmas.{at_place, list_any-present}
use Rattle.og_ops.specs.declared.semijoins.KeyedRow.{KeyedRow}
use Rattle.og_ops.specs.Lending.{lent}
use Rattle.og_ops.specs.Members.{AreMembers}
use Rattle.og_ops.proofs.RowLemmas.{any_alike}

-- two tests, one or the other of which holds of some member
any_or : {X : Type 0} (p q : X → Bool) (xs : List X) → (list_any p xs || list_any q xs) ≡ list_any (λ x. p x || q x) xs
any_or p q [] = refl
any_or p q (x ∷ xs) = turned (p x) (q x) (list_any p xs) (list_any q xs) ∙ ap (λ b. (p x || q x) || b) (any_or p q xs)
  where
    turned : (a b c d : Bool) → ((a || c) || (b || d)) ≡ ((a || b) || (c || d))
    turned true b c d = refl
    turned false true true d = refl
    turned false true false d = refl
    turned false false true d = refl
    turned false false false d = refl

-- where what holds stands in a group that is sought, to ask in each of two groups that are sought, of both in which it stands, is to ask at all
sought_only : (a b c d h : Bool) → (h ≡ true → ((a || c) || (b || d)) ≡ true) → (((a && h) || (b && h)) || ((c && h) || (d && h))) ≡ h
sought_only true b c d true is = refl
sought_only false true c d true is = refl
sought_only false false true d true is = refl
sought_only false false false true true is = refl
sought_only false false false false true is = is refl
sought_only a b c d false is = none a b c d
  where
    none : (a b c d : Bool) → (((a && false) || (b && false)) || ((c && false) || (d && false))) ≡ false
    none a b c d = ap₂ (λ s t. s || t) (ap₂ (λ s t. s || t) (and-false a) (and-false b)) (ap₂ (λ s t. s || t) (and-false c) (and-false d))

module _ {R : Type 0} (standing : R → Groups) where
  -- one more row that is entered, at its place
  pub members_more : (rel : List (R × List Range)) (old new : List (KeyedRow R ℕ)) (i : ℕ) (row : R) (days : List Range) → i < length rel
      → ((p : R × List Range) → row ≡ (get_or rel i p).0) → ((p : R × List Range) → days ≡ (get_or rel i p).1) → AreMembers standing (take i rel) old
      → ((test : ℕ → R × List Range → Bool) → list_any (λ s. test s.key (s.row.now, s.days.now)) new
      ≡ (list_any (λ s. test s.key (s.row.now, s.days.now)) old || (test (standing row).first (row, days) || test (standing row).second (row, days))))
      → AreMembers standing (take (i + 1) rel) new
  members_more rel old new i row days l row_is days_is before more test =
      let p : R × List Range → Bool = λ q. test (standing q.0).first q || test (standing q.0).second q in
      more test
      ∙ ap (λ b. b || p (row, days)) (before test)
      ∙ sym (list_any_more p rel i (row, days) l ∙ ap (λ q. list_any p (take i rel) || p q) (sym (at_place rel i row days row_is days_is)))

  -- members in another order
  pub members_moved : (rel : List (R × List Range)) (members sorted : List (KeyedRow R ℕ)) → IsPermutation members sorted → AreMembers standing rel members → AreMembers standing rel sorted
  members_moved rel members sorted moved are test =
      sym (list_any-IsPermutation (λ s. test s.key (s.row.now, s.days.now)) members sorted moved) ∙ are test

  -- a test of the members' rows is one of the rows
  any_lent : (rel : List (R × List Range)) (members : List (KeyedRow R ℕ)) → AreMembers standing rel members → (p : R × List Range → Bool) → list_any p (lent members) ≡ list_any p rel
  any_lent rel members are p =
      list_any-map p (λ s. (s.row.now, s.days.now)) members ∙ are (λ k q. p q) ∙ any_alike (λ q. p q || p q) p rel (λ q. or_self (p q))

  -- the members are those of their own rows
  pub members_lent : (rel : List (R × List Range)) (members : List (KeyedRow R ℕ)) → AreMembers standing rel members → AreMembers standing (lent members) members
  members_lent rel members are test =
      are test ∙ sym (any_lent rel members are (λ q. test (standing q.0).first q || test (standing q.0).second q))

  module _ {F : Type 0} (at : R → ℤ → F) (t : F → Bool) (d : ℤ) where
    -- a test of the members' rows of a day
    pub members_present : (rel : List (R × List Range)) (members : List (KeyedRow R ℕ)) → AreMembers standing rel members → list_any t (present at (lent members) d) ≡ list_any t (present at rel d)
    members_present rel members are =
        list_any-present at t (lent members) d ∙ any_lent rel members are (λ q. holds_day q.1 d && t (at q.0 d)) ∙ sym (list_any-present at t rel d)

    -- a test of the rows of a day in one group
    in_group : (members : List (KeyedRow R ℕ)) → AreMembers standing (lent members) members → (n : ℕ)
        → list_any t (present at (lent (filter (λ s. eq_by_cmp nat_cmp s.key n) members)) d)
        ≡ list_any (λ q. (((standing q.0).first == n) && (holds_day q.1 d && t (at q.0 d))) || (((standing q.0).second == n) && (holds_day q.1 d && t (at q.0 d)))) (lent members)
    in_group members are n =
        let here : R × List Range → Bool = λ q. holds_day q.1 d && t (at q.0 d) in
        let pass : KeyedRow R ℕ → Bool = λ s. eq_by_cmp nat_cmp s.key n in
        list_any-present at t (lent (filter pass members)) d
        ∙ list_any-map here (λ s. (s.row.now, s.days.now)) (filter pass members)
        ∙ list_any-filter (λ s. here (s.row.now, s.days.now)) pass members
        ∙ any_alike (λ s. pass s && here (s.row.now, s.days.now)) (λ s. (s.key == n) && here (s.row.now, s.days.now)) members (λ s. ap (λ b. b && here (s.row.now, s.days.now)) (unsigned_tied s.key n))
        ∙ are (λ k q. (k == n) && here q)

    -- a test of the rows of a day in two groups, in one of which each row stands of which the test holds
    pub met_in_groups : (members : List (KeyedRow R ℕ)) → AreMembers standing (lent members) members → (g : Groups) → ((row : R) → t (at row d) ≡ true → share_group g (standing row) ≡ true)
        → (list_any t (present at (lent (filter (λ s. eq_by_cmp nat_cmp s.key g.first) members)) d) || list_any t (present at (lent (filter (λ s. eq_by_cmp nat_cmp s.key g.second) members)) d))
        ≡ list_any t (present at (lent members) d)
    met_in_groups members are g shared =
        let here : R × List Range → Bool = λ q. holds_day q.1 d && t (at q.0 d) in
        let within : ℕ → R × List Range → Bool = λ n q. (((standing q.0).first == n) && here q) || (((standing q.0).second == n) && here q) in
        ap₂ (λ a b. a || b) (in_group members are g.first) (in_group members are g.second)
        ∙ any_or (within g.first) (within g.second) (lent members)
        ∙ any_alike (λ q. within g.first q || within g.second q) here (lent members)
        (λ q. sought_only ((standing q.0).first == g.first) ((standing q.0).second == g.first) ((standing q.0).first == g.second) ((standing q.0).second == g.second) (here q)
        (λ h. shared q.0 (met (holds_day q.1 d) (t (at q.0 d)) h)))
        ∙ sym (list_any-present at t (lent members) d)
      where
        met : (a b : Bool) → (a && b) ≡ true → b ≡ true
        met true b h = h
        met false b h = absurd (true≢false (sym h))

    -- and in one group
    pub met_in_group : (members : List (KeyedRow R ℕ)) → AreMembers standing (lent members) members → (g : Groups) → ((row : R) → t (at row d) ≡ true → share_group g (standing row) ≡ true) → g.second ≡ g.first
        → list_any t (present at (lent (filter (λ s. eq_by_cmp nat_cmp s.key g.first) members)) d) ≡ list_any t (present at (lent members) d)
    met_in_group members are g shared e =
        let found : ℕ → Bool = λ n. list_any t (present at (lent (filter (λ s. eq_by_cmp nat_cmp s.key n) members)) d) in
        sym (or_self (found g.first)) ∙ ap (λ n. found g.first || found n) (sym e) ∙ met_in_groups members are g shared

-- Keys that are sought.
use Rattle.std.specs.Prelude.{◌≡◌, Bool, true, List}
use Rattle.std.specs.List.{list_any}
use Rattle.std.specs.Ordering.{eq_by_cmp}
use Rattle.std.specs.declared.cmp.Ordering.{Ordering}

-- where few keys are sought, which the first tells, one of them is equal to the key
abbrev pub IsSought : {K : Type 0} → (K → K → Ordering) → Bool × List K → K → Type 0
IsSought cmp sought key = sought.0 ≡ true → list_any (λ k. eq_by_cmp cmp k key) sought.1 ≡ true

-- the test holds of none but rows whose keys are sought
abbrev pub OfSought : {F K : Type 0} → (K → K → Ordering) → (F → K) → Bool × List K → (F → Bool) → Type 0
OfSought {F} cmp key_of sought t = (x : F) → t x ≡ true → IsSought cmp sought (key_of x)

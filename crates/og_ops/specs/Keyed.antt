-- The laws of groups.
use Rattle.std.proofs.Common.{◌≡◌, true, Some, None, Ordering, subst}
use Rattle.std.specs.Ordering.{eq_by_cmp}
use Rattle.og_base.specs.Groups.{share_group}
use Rattle.og_base.specs.Set.{IsExact}
use Rattle.og_base.specs.declared.row.Groups.{Groups}
use Rattle.og_base.proofs.SetLemmas.{eq_by_cmp-exact}

-- of two rows that are equal, the right one stands in a group that is sought
pub equal_keyed : {F : Type 0} {cmp : F → F → Ordering} → IsExact cmp → (x y : F) (seeks stands g : Groups) → (x ≡ y → share_group seeks stands ≡ true)
    → Some seeks ≡ Some g → eq_by_cmp cmp x y ≡ true → share_group g stands ≡ true
equal_keyed exact x y seeks stands g grouped some same =
    subst (λ h. share_group h stands ≡ true) (inside some) (grouped (eq_by_cmp-exact exact x y same))
  where
    inside : {A : Type 0} {a b : A} → Some a ≡ Some b → a ≡ b
    inside e = cc

-- nothing is sought
pub none_keyed : {A K : Type 0} {a b : A} (k : K) → None ≡ Some k → a ≡ b
none_keyed k e = cc

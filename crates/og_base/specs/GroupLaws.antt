-- Where two rows share a group.
use Rattle.std.proofs.Common.{◌≡◌, ◌==◌, ◌||◌, ℕ, Bool, true, false, refl, sym, ap}
use Rattle.std.proofs.lemmas.Bool.Decides.{Decides-eqb}
use Rattle.og_base.specs.declared.row.Groups.{Groups}
use Rattle.og_base.specs.Groups.{share_group}

-- a number is itself
one_number : (m n : ℕ) → m ≡ n → (m == n) ≡ true
one_number m n e = (Decides-eqb m n).1 e

-- of four truths the second holds
second_of_four : (a b c d : Bool) → b ≡ true → ((a || b) || (c || d)) ≡ true
second_of_four true b c d h = refl
second_of_four false b c d h = ap (λ t. t || (c || d)) h

-- of four truths the last holds
last_of_four : (a b c d : Bool) → d ≡ true → ((a || b) || (c || d)) ≡ true
last_of_four true b c d h = refl
last_of_four false true c d h = refl
last_of_four false false true d h = refl
last_of_four false false false d h = h

-- two rows share a group where the first ones are the same
pub share-first : (a b : Groups) → a.first ≡ b.first → share_group a b ≡ true
share-first a b e = ap (λ t. (t || (b.first == a.second)) || ((b.second == a.first) || (b.second == a.second))) (one_number b.first a.first (sym e))

-- or the second is the first
pub share-second-first : (a b : Groups) → a.second ≡ b.first → share_group a b ≡ true
share-second-first a b e = second_of_four (b.first == a.first) (b.first == a.second) (b.second == a.first) (b.second == a.second) (one_number b.first a.second (sym e))

-- or the second ones are the same
pub share-second : (a b : Groups) → a.second ≡ b.second → share_group a b ≡ true
share-second a b e = last_of_four (b.first == a.first) (b.first == a.second) (b.second == a.first) (b.second == a.second) (one_number b.second a.second (sym e))

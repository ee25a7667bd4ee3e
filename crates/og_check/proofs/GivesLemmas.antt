-- What functions give that pass on what others gave.
use Rattle.std.proofs.Common.{◌≡◌, Ok, Err, Result, refl, ap, sym, subst, ◌∙◌}
use Rattle.std.specs.Result.{result_and}
use Rattle.og_check.specs.declared.refusal.CheckRefusal.{CheckRefusal}
use Rattle.og_check.specs.Operands.{both}
use Rattle.og_check.specs.Results.{Gives}
use Rattle.og_check.specs.Steps.{Checked, ◌>>=◌, ◌>>◌, pure}
use Rattle.og_check.proofs.OkLemmas.{not_ok, ok_same}

-- what follows two checks that gave a pair
after_both : {A B C : Type 0} (p : Checked A) (q : Checked B) (f : A → B → Checked C) (x : A) (y : B) → both p q ≡ Ok (x, y) → (do x ← p; y ← q; f x y) ≡ f x y
after_both (Ok a) (Ok b) f x y e = ap (λ z. f z.0 z.1) (ok_same (a, b) (x, y) e)
after_both (Ok a) (Err reason) f x y e = absurd (not_ok reason (x, y) e)
after_both (Err reason) q f x y e = absurd (not_ok reason (x, y) e)

-- a result of two values that were checked
pub gives_both : {A B C : Type 0} (p : Checked A) (q : Checked B) (f : A → B → Checked C) (x : A) (y : B) (result : Result C CheckRefusal) → both p q ≡ Ok (x, y) → Gives result (f x y) → Gives result (do x ← p; y ← q; f x y)
gives_both p q f x y result e h = subst (λ z. Gives result z) (sym (after_both p q f x y e)) h

-- a result after one check
gives_and : {A : Type 0} (a : Result (Unit {0}) CheckRefusal) (p : Checked (Unit {0})) (x : A) → Gives a p → Gives (result_and a (Ok x)) (do p; pure x)
gives_and (Ok u) p x g = ap (λ z. do z; pure x) g
gives_and (Err reason) p x g = λ k. ap (λ z. do z; pure x) (g k)

-- a result after two checks
pub gives_and_and : {A : Type 0} (a b : Result (Unit {0}) CheckRefusal) (p q : Checked (Unit {0})) (x : A) → Gives a p → Gives b q → Gives (result_and (result_and a b) (Ok x)) (do p; q; pure x)
gives_and_and (Ok u) b p q x g h = subst (λ z. Gives (result_and b (Ok x)) (do z; q; pure x)) (sym g) (gives_and b q x h)
gives_and_and (Err reason) b p q x g h = λ k. ap (λ z. do z; q; pure x) (g k)

-- three steps, of which the last two are taken together or the first two
pub steps : {A B C : Type 0} (p : Checked A) (f : A → Checked B) (g : B → Checked C) → (p >>= (λ x. f x >>= g)) ≡ (p >>= f >>= g)
steps (Ok x) f g = refl
steps (Err reason) f g = refl

-- what is made of a value after a check, where the value was given
pub remade : {A B C : Type 0} (p : Checked A) (x : B) (f : B → C) (r : Checked B) → (do p; pure x) ≡ r → (do p; pure (f x)) ≡ (do y ← r; pure (f y))
remade p x f r e = steps p (λ _. pure x) (λ y. pure (f y)) ∙ ap (λ q. do y ← q; pure (f y)) e

-- what is made of a value and of one that is checked, where both were given as a pair
pub paired : {A B C : Type 0} (p : Checked B) (x : A) (f : A → B → C) (r : Checked (A × B)) → (do y ← p; pure (x, y)) ≡ r → (do y ← p; pure (f x y)) ≡ (do z ← r; pure (f z.0 z.1))
paired p x f r e = steps p (λ y. pure (x, y)) (λ z. pure (f z.0 z.1)) ∙ ap (λ q. do z ← q; pure (f z.0 z.1)) e

-- the same after a check
pub paired_after : {A B C : Type 0} (c : Checked (Unit {0})) (p : Checked B) (x : A) (f : A → B → C) (r : Checked (A × B)) → (do c; y ← p; pure (x, y)) ≡ r
    → (do c; y ← p; pure (f x y)) ≡ (do z ← r; pure (f z.0 z.1))
paired_after (Ok u) p x f r e = paired p x f r e
paired_after (Err reason) p x f r e = ap (λ q. do z ← q; pure (f z.0 z.1)) e

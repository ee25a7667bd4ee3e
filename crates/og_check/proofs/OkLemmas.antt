-- What is known where checks find no fault.
use Rattle.std.proofs.Common.{◌≡◌, ◌==◌, ℕ, suc, Bool, true, false, List, [], ◌∷◌, Ok, Err, length, refl, ap, sym, subst, true≢false, eqb-true, arith}
use Rattle.std.specs.List.{AllByRecursion}
use Rattle.og_value.specs.declared.kind.Kind.{Kind}
use Rattle.og_value.specs.declared.kind.Kind.TheVariants as k
use Rattle.og_check.specs.declared.refusal.CheckRefusal.{CheckRefusal}
use Rattle.og_check.specs.Steps.{Checked, ◌>>=◌, pure, unless, is_kind, same_kind, same_kinds, same_count, agree, in_turn, on_each}

-- whether there is a value
abbrev is_ok : {A : Type 0} → Checked A → Bool
is_ok (Ok x) = true
is_ok (Err fault) = false

-- the value, or the given one where there is a fault
abbrev value_or : {A : Type 0} → A → Checked A → A
value_or d (Ok x) = x
value_or d (Err fault) = d

-- a fault is no value
pub not_ok : {A : Type 0} (fault : CheckRefusal) (x : A) → ◌≡◌ {A = Checked A} (Err fault) (Ok x) → ⊥
not_ok fault x e = absurd (true≢false (sym (ap is_ok e)))

-- two that are one value have one value
pub ok_same : {A : Type 0} (x y : A) → ◌≡◌ {A = Checked A} (Ok x) (Ok y) → x ≡ y
ok_same x y e = ap (value_or x) e

-- where both steps give a value, the first gave one, and the second gave it of that
pub bind_ok : {A B : Type 0} (p : Checked A) (f : A → Checked B) (y : B) → (p >>= f) ≡ Ok y → (x : A) × (p ≡ Ok x) × (f x ≡ Ok y)
bind_ok (Ok x) f y e = (x, refl, e)
bind_ok (Err fault) f y e = absurd (not_ok fault y e)

-- the fault, or the given one where there is a value
abbrev fault_or : {A : Type 0} → CheckRefusal → Checked A → CheckRefusal
fault_or d (Ok x) = d
fault_or d (Err fault) = fault

-- where a value that is made of another one is a fault, the other one is it
pub same_fault : {A B : Type 0} (p : Checked A) (f : A → B) (fault : CheckRefusal) → (do x ← p; pure (f x)) ≡ Err fault → p ≡ Err fault
same_fault (Ok x) f fault e = absurd (not_ok fault (f x) (sym e))
same_fault (Err reason) f fault e = ap (λ z. Err z) (ap (fault_or reason) e)

-- what follows where both steps give a value
pub where_ok : {A B : Type 0} {P : Type 0} (p : Checked A) (f : A → Checked B) (y : B) → ((x : A) → p ≡ Ok x → f x ≡ Ok y → P) → (p >>= f) ≡ Ok y → P
where_ok (Ok x) f y h e = h x refl e
where_ok (Err fault) f y h e = absurd (not_ok fault y e)

-- where there is no fault, the test holds
pub unless_ok : (good : Bool) (fault : CheckRefusal) (u : Unit {0}) → unless good fault ≡ Ok u → good ≡ true
unless_ok true fault u e = refl
unless_ok false fault u e = absurd (not_ok fault u e)

-- kinds that are the same are one
kind_is : (x y : Kind) → is_kind x y ≡ true → x ≡ y
unfolding is_kind
kind_is k.Int k.Int e = refl
kind_is k.Int k.Text e = absurd (true≢false (sym e))
kind_is k.Int k.Date e = absurd (true≢false (sym e))
kind_is k.Int k.Period e = absurd (true≢false (sym e))
kind_is k.Text k.Int e = absurd (true≢false (sym e))
kind_is k.Text k.Text e = refl
kind_is k.Text k.Date e = absurd (true≢false (sym e))
kind_is k.Text k.Period e = absurd (true≢false (sym e))
kind_is k.Date k.Int e = absurd (true≢false (sym e))
kind_is k.Date k.Text e = absurd (true≢false (sym e))
kind_is k.Date k.Date e = refl
kind_is k.Date k.Period e = absurd (true≢false (sym e))
kind_is k.Period k.Int e = absurd (true≢false (sym e))
kind_is k.Period k.Text e = absurd (true≢false (sym e))
kind_is k.Period k.Date e = absurd (true≢false (sym e))
kind_is k.Period k.Period e = refl

-- the kind that was found is the wanted one
pub same_is : (x y : Kind) (u : Unit {0}) → same_kind x y ≡ Ok u → x ≡ y
same_is x y u e = kind_is x y (unless_ok (is_kind x y) _ u e)

-- nothing is no successor
not_suc : (n : ℕ) → 0 ≡ suc n → ⊥
not_suc n e = omega (arith, e)

-- as many kinds that are the wanted ones are those
kinds_are : (xs ys : List Kind) (u : Unit {0}) → length xs ≡ length ys → same_kinds xs ys ≡ Ok u → xs ≡ ys
kinds_are [] [] u h e = refl
kinds_are [] (y ∷ ys) u h e = absurd (not_suc (length ys) h)
kinds_are (x ∷ xs) [] u h e = absurd (not_suc (length xs) (sym h))
kinds_are (x ∷ xs) (y ∷ ys) u h e =
    let b = bind_ok (same_kind x y) (λ _. same_kinds xs ys) u e in
    (λ i. same_is x y b.0 b.1 i ∷ kinds_are xs ys u (omega (arith, h)) b.2 i)

-- kinds that agree with the wanted ones are those
pub agree_are : (xs ys : List Kind) (u : Unit {0}) → agree xs ys ≡ Ok u → xs ≡ ys
agree_are xs ys u e =
    let b = bind_ok (same_count (length xs) (length ys)) (λ _. same_kinds xs ys) u e in
    kinds_are xs ys u (eqb-true (length xs) (length ys) (unless_ok (length xs == length ys) _ b.0 b.1)) b.2

-- what holds before, and holds after each step, holds at the end
pub turn_keeps : {S A : Type 0} (P : S → Type 0) (step : S → A → Checked S) → ((s : S) (x : A) (t : S) → step s x ≡ Ok t → P s → P t)
    → (s : S) (xs : List A) (t : S) → in_turn step s xs ≡ Ok t → P s → P t
turn_keeps P step keeps s [] t e h = subst P (ok_same s t e) h
turn_keeps P step keeps s (x ∷ xs) t e h =
    let b = bind_ok (step s x) (λ after. in_turn step after xs) t e in turn_keeps P step keeps b.0 xs t b.2 (keeps s x b.0 b.1 h)

-- what has no fault of a check that says it holds of each
pub on_each_all : {A : Type 0} (check : A → Checked (Unit {0})) (P : A → Type 0) → ((x : A) (u : Unit {0}) → check x ≡ Ok u → P x)
    → (xs : List A) (u : Unit {0}) → on_each check xs ≡ Ok u → AllByRecursion P xs
on_each_all check P each [] u g = tt
on_each_all check P each (x ∷ xs) u g =
    let b = bind_ok (check x) (λ after. in_turn (λ _ y. check y) after xs) u g in (each x b.0 b.1, on_each_all check P each xs u b.2)

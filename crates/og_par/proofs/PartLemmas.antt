-- What is made of an item that is handed over, and of a cut into chunks.
use Rattle.std.proofs.Common.{◌≡◌, Bool, false, true, eqb, eqb-true, true≢false, ◌*◌, ◌<◌, ◌≤◌, ℕ, zero, suc, List, [], ◌∷◌, length, refl, sym, ◌∙◌, subst, arith, IfOk}
use Rattle.std.specs.Prelude.{Result, Ok, Err, Vec}
use Rattle.std.specs.declared.alloc.Global.{Global}
use Rattle.std.proofs.lemmas.Grind.{div_ceil_times}
use Rattle.std.specs.Int.{div_ceil}
use Rattle.og_base.specs.declared.memory.NoMemory.{NoMemory}
use denote.Param.Members.{Shared}
use Rattle.og_par.specs.Handed.{MakesOf}

-- a list that a call with the item made is one that it may make
pub MakesOf-met : {F T X : Type 0} (g : Shared F (T × Unit {0}) (Result (Vec X Global) NoMemory)) (f : F) (item : T) (made : Result (Vec X Global) NoMemory) → g.post f (item, tt) made → IfOk made (λ v. MakesOf g f item v.items)
MakesOf-met g f item (Ok v) met = (v, met, refl)
MakesOf-met g f item (Err e) met = tt

-- a list that is_empty says is empty
pub nothing : {T : Type 0} (xs : List T) (len : ℕ) (none : Bool) → len ≡ length xs → none ≡ eqb len 0 → none ≡ true → xs ≡ []
nothing [] len none long is empty = refl
nothing (x ∷ xs) len none long is empty = absurd (omega (arith, long, eqb-true len 0 (sym is ∙ empty)))

-- a chunk of the items' number divided by the workers, rounded up, is not empty
pub positive : (len workers size : ℕ) (none : Bool) → none ≡ eqb len 0 → none ≡ false → 1 ≤ workers → size ≡ div_ceil len workers → 0 < size
positive zero workers size none is some least e = absurd (true≢false (sym is ∙ some))
positive (suc len) workers zero none is some least e =
    let long = subst (λ k. suc len ≤ k * workers) (sym e) (div_ceil_times (suc len) workers least).0 in
    absurd (omega (arith, long))
positive (suc len) workers (suc size) none is some least e = omega arith

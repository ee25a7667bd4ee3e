-- Runs of bytes of one class, and lists that are put together.
use Rattle.std.proofs.Common.{◌≡◌, ℕ, ◌+◌, ◌≤◌, Bool, true, false, cond, List, [], ◌∷◌, ◌++◌, length, take, drop, refl, ap, ◌∙◌, arith}
use Rattle.std.specs.List.{prefix_len}
use Rattle.og_lex.specs.Bytes.{AreAll, IsRun}

-- the run before bytes of another class is the longest
pub prefix_len-run : (p : ℕ → Bool) (text rest : List ℕ) → IsRun p text rest → prefix_len p (text ++ rest) ≡ length text
prefix_len-run p [] [] h = refl
prefix_len-run p [] (b ∷ rest) h = ap (λ t. cond t (1 + prefix_len p rest) 0) h.whole
prefix_len-run p (b ∷ text) rest h =
    let more = prefix_len-run p text rest (record { all = h.all.1; whole = h.whole }) in
    ap (λ t. cond t (1 + prefix_len p (text ++ rest)) 0) h.all.0 ∙ omega (arith, more)

-- bytes of the class are within the longest run
pub prefix_len-all : (p : ℕ → Bool) (text rest : List ℕ) → AreAll p text → length text ≤ prefix_len p (text ++ rest)
prefix_len-all p [] rest h = omega arith
prefix_len-all p (b ∷ text) rest h =
    let more = prefix_len-all p text rest h.1 in
    let first = ap (λ t. cond t (1 + prefix_len p (text ++ rest)) 0) h.0 in
    omega (arith, more, first)

-- a run at the front, with what follows it
pub record Cut (p : ℕ → Bool) (z : List ℕ) : Type 0 where
  pub text : List ℕ
  pub rest : List ℕ
  pub joined : z ≡ text ++ rest
  pub run : IsRun p text rest
  pub len : prefix_len p z ≡ length text

pub cut_run : (p : ℕ → Bool) (z : List ℕ) → Cut p z
cut_run p [] = record { text = []; rest = []; joined = refl; run = record { all = tt; whole = tt }; len = refl }
cut_run p (b ∷ z) = by (p b) refl (cut_run p z)
  where
    by : (t : Bool) → p b ≡ t → Cut p z → Cut p (b ∷ z)
    by true e r = record {
      text = b ∷ r.text;
      rest = r.rest;
      joined = ap (λ xs. b ∷ xs) r.joined;
      run = record { all = (e, r.run.all); whole = r.run.whole };
      len = ap (λ t. cond t (1 + prefix_len p z) 0) e ∙ omega (arith, r.len);
    }
    by false e r = record {
      text = [];
      rest = b ∷ z;
      joined = refl;
      run = record { all = tt; whole = e };
      len = ap (λ t. cond t (1 + prefix_len p z) 0) e;
    }

-- the two parts of what is put together
pub take-joined : (xs ys : List ℕ) → take (length xs) (xs ++ ys) ≡ xs
take-joined [] ys = refl
take-joined (x ∷ xs) ys = ap (λ zs. x ∷ zs) (take-joined xs ys)

pub drop-joined : (xs ys : List ℕ) → drop (length xs) (xs ++ ys) ≡ ys
drop-joined [] ys = refl
drop-joined (x ∷ xs) ys = drop-joined xs ys

-- Bytes that are given or taken a front at a time.
use Rattle.std.proofs.Common.{◌≡◌, ℕ, ◌+◌, ◌-◌, ◌≤◌, List, ◌++◌, Option, length, take, drop, sym, ap, subst, ◌∙◌, arith, length-drop, take-append-drop}
use Rattle.std.proofs.lemmas.List.{take_all, drop-drop, length-take-le}
use Rattle.std.proofs.Math.Seq.{take-add, take-append_seam}
use Rattle.std.specs.Io.KnownBytes.{Appends, Keeps}
use Rattle.std.proofs.KnownBytes.{Appends-trans, Appends-kept}
use Rattle.og_base.specs.Told.{AppendsFront}

-- what is left is as long as it is
pub take-drop_all : (at : ℕ) (xs : List ℕ) → take (length xs - at) (drop at xs) ≡ drop at xs
take-drop_all at xs = take_all (length xs - at) (drop at xs) (omega (arith, length-drop at xs))

-- what is left begins with the front that was copied
pub drop-copied : (at n : ℕ) (xs tail copied : List ℕ) → n ≤ length (drop at xs) → copied ≡ take n (drop at xs)
    → drop at xs ≡ take n (copied ++ tail) ++ drop (at + n) xs
drop-copied at n xs tail copied fits same =
    let len : length copied ≡ n = ap length same ∙ length-take-le n (drop at xs) fits in
    let front : take n (copied ++ tail) ≡ copied = ap (λ k. take k (copied ++ tail)) (sym len) ∙ take-append_seam copied tail in
    sym (take-append-drop n (drop at xs)) ∙ ap (λ l. l ++ drop n (drop at xs)) (sym (front ∙ same))
    ∙ ap (λ l. take n (copied ++ tail) ++ l) (drop-drop n at xs)

-- a front was appended, and then a front of what was left
pub Appends-more : (a b c : Option (List ℕ)) (xs : List ℕ) (done n : ℕ)
    → Appends a b (take done xs) → Appends b c (take n (take (length xs - done) (drop done xs))) → Appends a c (take (done + n) xs)
Appends-more a b c xs done n before more =
    let whole = ap (λ l. take done xs ++ take n l) (take-drop_all done xs) in
    subst (Appends a c) (whole ∙ sym (take-add done n xs)) (Appends-trans a b c _ _ before more)

-- a front was appended, and then nothing
pub AppendsFront-kept : (a b c : Option (List ℕ)) (xs : List ℕ) (done : ℕ)
    → Appends a b (take done xs) → Keeps b c → AppendsFront a c xs
AppendsFront-kept a b c xs done before kept =
    (take done xs, (drop done xs, sym (take-append-drop done xs)), Appends-kept a b c _ before kept)

-- a front was appended, and then another that is a front of the piece with it
pub AppendsFront-more : (a b c : Option (List ℕ)) (xs : List ℕ) (done n : ℕ)
    → Appends a b (take done xs) → Appends b c (take n (take (length xs - done) (drop done xs))) → AppendsFront a c xs
AppendsFront-more a b c xs done n before more =
    (take (done + n) xs, (drop (done + n) xs, sym (take-append-drop (done + n) xs)), Appends-more a b c xs done n before more)

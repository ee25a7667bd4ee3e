-- What stands at the front of the bytes is in the grammar.
use Rattle.std.proofs.Common.{◌≡◌, ◌⊎◌, inl, inr, ℕ, suc, ◌+◌, ◌<◌, ◌||◌, ◌==◌, Bool, true, false, cond, List, [], ◌∷◌, ◌++◌, length, take, drop, slice_index, Option, Some, None, SomeIff, refl, ap, subst, sym, ◌∙◌, arith, IsTrue, ℤ}
use Rattle.std.specs.Bool.{⊤}
use Rattle.std.proofs.lemmas.Bool.Decides.{Decides-eqb}
use Rattle.std.proofs.lemmas.Str.{IsUtf8-from_is_utf8}
use Rattle.std.specs.Char.{is_ascii_digit}
use Rattle.std.specs.List.{prefix_len}
use Rattle.std.specs.Str.{is_utf8}
use Rattle.og_lex.specs.declared.front.Fault.TheVariants as faults
use Rattle.og_lex.specs.declared.front.Front.{Front}
use Rattle.og_lex.specs.declared.front.Front.TheVariants.{Skip, Piece, Bad}
use Rattle.og_lex.specs.declared.symbol.Symbol.{Symbol}
use Rattle.og_lex.specs.declared.symbol.Symbol.TheVariants as symbols
use Rattle.og_lex.specs.declared.token.TokenKind.TheVariants as kinds
use Rattle.og_base.specs.Letters.{begins_word, is_in_word}
use Rattle.og_lex.specs.Bytes.{is_blank, is_in_line, is_quote, Stops, IsRun, value_of, value_after, signed, IsIn64, doubled, quoted}
use Rattle.og_lex.specs.Faults.{IsOpenText, IsNumberRange}
use Rattle.og_lex.specs.Front.{front, dash, number, numbered, in_64, sign_len, text, closed, closing, mark, less, greater, single, marked}
use Rattle.og_lex.specs.Grammar.{IsComment, IsNumeral, IsToken, symbol_text, makes_longer}
use Rattle.og_lex.proofs.Fronts.{with_sign, number-run, unsigned-with_sign, value_of-with_sign, length-with_sign, in_64-is, quoted-before, length-quoted}
use Rattle.og_lex.proofs.Quotes.{closing-quoted, closed_at, IsUtf8-single}
use Rattle.og_lex.proofs.Runs.{cut_run, take-joined}

-- bytes that mean nothing
abbrev pub IsSkipped : List ℕ → List ℕ → Type 0
IsSkipped z rest = ((b : ℕ) × (z ≡ b ∷ []) × IsTrue (is_blank b)) ⊎ IsComment z rest

-- what is said of the bytes by what stands at their front
abbrev pub Means : List ℕ → Front → Type 0
Means z (Skip len) = (y rest : List ℕ) × (z ≡ y ++ rest) × (len ≡ length y) × IsSkipped y rest
Means z (Piece kind len) = (y rest : List ℕ) × (z ≡ y ++ rest) × (len ≡ length y) × IsToken kind y rest
Means z (Bad faults.OpenText) = IsOpenText z
Means z (Bad faults.NumberRange) = IsNumberRange z
Means z (Bad faults.BadByte) = ⊤

-- one of two, by a test
choose : (z : List ℕ) (t : Bool) (x y : Front) → (t ≡ true → Means z x) → (t ≡ false → Means z y) → Means z (cond t x y)
choose z true x y h k = h refl
choose z false x y h k = k refl

-- the bytes from a first one on
first_is : (z : List ℕ) (k : ℕ) → slice_index z 0 ≡ suc k → z ≡ suc k ∷ drop 1 z
first_is [] k e = absurd (cc)
first_is (b ∷ z) k e = ap (λ x. x ∷ z) e

-- ---- symbols

never_longer : (s : Symbol) (z : List ℕ) → ((b : ℕ) → makes_longer s b ≡ false) → Stops (makes_longer s) z
never_longer s [] h = tt
never_longer s (b ∷ z) h = h b

means-one : (s : Symbol) (b k : ℕ) (z : List ℕ) → symbol_text s ≡ k ∷ [] → ((x : ℕ) → makes_longer s x ≡ false) → (b == k) ≡ true → Means (b ∷ z) (marked s 1)
means-one s b k z e h same =
    (b ∷ [], z, refl, refl, record { same = ap (λ x. x ∷ []) ((Decides-eqb b k).0 same) ∙ sym e; longest = never_longer s z h })

means-single : (b : ℕ) (z : List ℕ) → Means (b ∷ z) (single b)
unfolding single
means-single b z =
    choose (b ∷ z) (b == 40) _ _ (means-one symbols.LeftParen b 40 z refl (λ _. refl)) (λ _.
    choose (b ∷ z) (b == 41) _ _ (means-one symbols.RightParen b 41 z refl (λ _. refl)) (λ _.
    choose (b ∷ z) (b == 44) _ _ (means-one symbols.Comma b 44 z refl (λ _. refl)) (λ _.
    choose (b ∷ z) (b == 59) _ _ (means-one symbols.Semicolon b 59 z refl (λ _. refl)) (λ _.
    choose (b ∷ z) (b == 46) _ _ (means-one symbols.Dot b 46 z refl (λ _. refl)) (λ _.
    choose (b ∷ z) (b == 42) _ _ (means-one symbols.Star b 42 z refl (λ _. refl)) (λ _.
    choose (b ∷ z) (b == 61) _ _ (means-one symbols.Equal b 61 z refl (λ _. refl)) (λ _. tt)))))))

-- a symbol of two bytes
means-two : (s : Symbol) (b k : ℕ) (z : List ℕ) → symbol_text s ≡ b ∷ suc k ∷ [] → ((x : ℕ) → makes_longer s x ≡ false) → (slice_index z 0 == suc k) ≡ true → Means (b ∷ z) (marked s 2)
means-two s b k z e h same =
    (b ∷ suc k ∷ [], drop 1 z, ap (λ y. b ∷ y) (first_is z k ((Decides-eqb (slice_index z 0) (suc k)).0 same)), refl, record { same = sym e; longest = never_longer s (drop 1 z) h })

neither : (t u : Bool) → t ≡ false → u ≡ false → (t || u) ≡ false
neither true u h k = h
neither false u h k = k

less_stops : (z : List ℕ) → (slice_index z 0 == 62) ≡ false → (slice_index z 0 == 61) ≡ false → Stops (makes_longer symbols.Less) z
less_stops [] h k = tt
less_stops (b ∷ z) h k = neither (b == 62) (b == 61) h k

greater_stops : (z : List ℕ) → (slice_index z 0 == 61) ≡ false → Stops (makes_longer symbols.Greater) z
greater_stops [] h = tt
greater_stops (b ∷ z) h = h

means-less : (z : List ℕ) → Means (60 ∷ z) (less (slice_index z 0))
unfolding less
means-less z =
    choose (60 ∷ z) (slice_index z 0 == 62) _ _ (means-two symbols.NotEqual 60 61 z refl (λ _. refl)) (λ h.
    choose (60 ∷ z) (slice_index z 0 == 61) _ _ (means-two symbols.LessEqual 60 60 z refl (λ _. refl)) (λ k.
    (60 ∷ [], z, refl, refl, record { same = refl; longest = less_stops z h k })))

means-greater : (z : List ℕ) → Means (62 ∷ z) (greater (slice_index z 0))
unfolding greater
means-greater z =
    choose (62 ∷ z) (slice_index z 0 == 61) _ _ (means-two symbols.GreaterEqual 62 60 z refl (λ _. refl)) (λ h.
    (62 ∷ [], z, refl, refl, record { same = refl; longest = greater_stops z h }))

means-mark : (b : ℕ) (z : List ℕ) → Means (b ∷ z) (mark b (slice_index z 0))
unfolding mark
means-mark b z =
    choose (b ∷ z) (b == 60) _ _ (λ e. subst (λ x. Means (x ∷ z) (less (slice_index z 0))) (sym ((Decides-eqb b 60).0 e)) (means-less z)) (λ _.
    choose (b ∷ z) (b == 62) _ _ (λ e. subst (λ x. Means (x ∷ z) (greater (slice_index z 0))) (sym ((Decides-eqb b 62).0 e)) (means-greater z)) (λ _.
    means-single b z))

-- ---- numbers

-- a run that a digit begins has a digit
some_digit : (digits rest : List ℕ) → IsRun is_ascii_digit digits rest → is_ascii_digit (slice_index (digits ++ rest) 0) ≡ true → 0 < length digits
some_digit [] [] h e = absurd (cc)
some_digit [] (b ∷ rest) h e = absurd (cc (sym h.whole ∙ e))
some_digit (b ∷ digits) rest h e = omega arith

means-numbered : (y rest : List ℕ) (r : Option ℤ) (len : ℕ) → IsNumeral y rest → len ≡ length y → SomeIff r (IsIn64 (value_of y)) (value_of y) → Means (y ++ rest) (numbered r len)
means-numbered y rest None len h e is = (y, rest, refl, h, is)
means-numbered y rest (Some n) len h e is = (y, rest, refl, e, record { numeral = h; value = is.1; fits = subst IsIn64 (sym is.1) is.0 })

with_sign-joined : (is_negative : Bool) (digits rest : List ℕ) → with_sign is_negative digits ++ rest ≡ with_sign is_negative (digits ++ rest)
with_sign-joined true digits rest = refl
with_sign-joined false digits rest = refl

means-run : (is_negative : Bool) (digits rest : List ℕ) → IsRun is_ascii_digit digits rest → 0 < length digits
    → Means (with_sign is_negative (digits ++ rest)) (number is_negative (digits ++ rest))
means-run is_negative digits rest h some =
    let same = unsigned-with_sign is_negative digits h.all in
    let numeral : IsNumeral (with_sign is_negative digits) rest = record {
      digits = subst (λ y. IsRun is_ascii_digit y rest) (sym same) h;
      some = subst (λ y. 0 < length y) (sym same) some;
    } in
    subst (λ y. Means y (number is_negative (digits ++ rest))) (with_sign-joined is_negative digits rest)
    (subst (Means (with_sign is_negative digits ++ rest)) (sym (number-run is_negative digits rest h))
    (means-numbered (with_sign is_negative digits) rest (in_64 (signed is_negative (value_after 0 digits))) (sign_len is_negative + length digits) numeral (length-with_sign is_negative digits)
    (subst (λ n. SomeIff (in_64 n) (IsIn64 (value_of (with_sign is_negative digits))) (value_of (with_sign is_negative digits))) (value_of-with_sign is_negative digits h.all) (in_64-is (value_of (with_sign is_negative digits))))))

means-number : (is_negative : Bool) (z : List ℕ) → is_ascii_digit (slice_index z 0) ≡ true → Means (with_sign is_negative z) (number is_negative z)
means-number is_negative z e =
    let c = cut_run is_ascii_digit z in
    subst (λ y. Means (with_sign is_negative y) (number is_negative y)) (sym c.joined)
    (means-run is_negative c.text c.rest c.run (some_digit c.text c.rest c.run (subst (λ y. is_ascii_digit (slice_index y 0) ≡ true) c.joined e)))

-- ---- comments, texts and words

means-comment : (z : List ℕ) → Means (45 ∷ 45 ∷ z) (Skip (2 + prefix_len is_in_line z))
means-comment z =
    let c = cut_run is_in_line z in
    (45 ∷ 45 ∷ c.text, c.rest, ap (λ y. 45 ∷ 45 ∷ y) c.joined, omega (arith, c.len), inr (c.text, refl, c.run))

means-dash : (z : List ℕ) → Means (45 ∷ z) (dash z)
unfolding dash
means-dash z =
    choose (45 ∷ z) (slice_index z 0 == 45) _ _ (λ e. subst (λ y. Means (45 ∷ y) (Skip (2 + prefix_len is_in_line (drop 1 z)))) (sym (first_is z 44 ((Decides-eqb (slice_index z 0) 45).0 e))) (means-comment (drop 1 z))) (λ _.
    choose (45 ∷ z) (is_ascii_digit (slice_index z 0)) _ _ (λ e. means-number true z e) (λ _. tt))

-- a text has no other place to close
endless : (z : List ℕ) → closing false 0 z ≡ None → IsOpenText (39 ∷ z)
endless z e = record {
  opens = (z, refl);
  endless = λ content y rest joined h.
      let same : 39 ∷ z ≡ 39 ∷ (doubled content ++ 39 ∷ rest) = joined ∙ (ap (λ x. x ++ rest) h.between ∙ quoted-before content rest) in
      let tail : z ≡ doubled content ++ 39 ∷ rest = ap (drop 1) same in
      let found = ap (closing false 0) tail ∙ closing-quoted 0 content rest h.closed in
      cc (sym e ∙ found);
}

means-closed : (content rest : List ℕ) (end : ℕ) → Stops is_quote rest → end ≡ length (doubled content)
    → Means (39 ∷ (doubled content ++ 39 ∷ rest)) (closed (doubled content ++ 39 ∷ rest) (Some end))
means-closed content rest end stops e =
    let front : take end (doubled content ++ 39 ∷ rest) ≡ doubled content = ap (λ n. take n (doubled content ++ 39 ∷ rest)) e ∙ take-joined (doubled content) (39 ∷ rest) in
    choose (39 ∷ (doubled content ++ 39 ∷ rest)) (is_utf8 (take end (doubled content ++ 39 ∷ rest))) _ _
    (λ u. (
      quoted content,
      rest,
      sym (quoted-before content rest),
      ap (λ n. n + 2) e ∙ length-quoted content,
      (content, record { between = refl; closed = stops }, IsUtf8-single content (IsUtf8-from_is_utf8 (doubled content) (sym (ap is_utf8 front) ∙ u))),
    ))
    (λ _. tt)

means-text : (z : List ℕ) → Means (39 ∷ z) (text z)
unfolding text
means-text z = by (closing false 0 z) refl
  where
    by : (r : Option ℕ) → closing false 0 z ≡ r → Means (39 ∷ z) (closed z r)
    by None e = endless z e
    by (Some end) e =
        let c = closed_at 0 z end e in
        subst (λ y. Means (39 ∷ y) (closed y (Some end))) (sym c.joined) (means-closed c.content c.rest end c.stops (omega (arith, c.place)))

means-word : (b : ℕ) (z : List ℕ) → begins_word b ≡ true → Means (b ∷ z) (Piece kinds.Word (1 + prefix_len is_in_word z))
means-word b z e =
    let c = cut_run is_in_word z in
    (b ∷ c.text, c.rest, ap (λ y. b ∷ y) c.joined, omega (arith, c.len), (b, c.text, refl, e, c.run))

-- what stands at the front is so in the grammar
pub means-front : (z : List ℕ) → Means z (front z)
unfolding front
means-front [] = tt
means-front (b ∷ z) =
    choose (b ∷ z) (is_blank b) _ _ (λ e. (b ∷ [], z, refl, refl, inl (b, refl, e))) (λ _.
    choose (b ∷ z) (begins_word b) _ _ (means-word b z) (λ _.
    choose (b ∷ z) (is_ascii_digit b) _ _ (means-number false (b ∷ z)) (λ _.
    choose (b ∷ z) (b == 45) _ _ (λ e. subst (λ x. Means (x ∷ z) (dash z)) (sym ((Decides-eqb b 45).0 e)) (means-dash z)) (λ _.
    choose (b ∷ z) (b == 39) _ _ (λ e. subst (λ x. Means (x ∷ z) (text z)) (sym ((Decides-eqb b 39).0 e)) (means-text z)) (λ _.
    means-mark b z)))))

-- A token is the longest at its place.
use Rattle.std.proofs.Common.{◌≡◌, ℕ, ℤ, ◌+◌, ◌≤◌, ◌==◌, Bool, true, false, cond, List, [], ◌∷◌, ◌++◌, length, take, slice_index, Option, Some, None, ap, subst, sym, ◌∙◌, arith}
use Rattle.std.specs.Bool.{⊤}
use Rattle.std.specs.Char.{is_ascii_digit}
use Rattle.std.specs.List.{prefix_len}
use Rattle.std.specs.Str.{is_utf8}
use Rattle.og_lex.specs.declared.front.Fault.TheVariants as faults
use Rattle.og_lex.specs.declared.front.Front.{Front}
use Rattle.og_lex.specs.declared.front.Front.TheVariants.{Skip, Piece, Bad}
use Rattle.og_lex.specs.declared.symbol.Symbol.{Symbol}
use Rattle.og_lex.specs.declared.symbol.Symbol.TheVariants as symbols
use Rattle.og_lex.specs.declared.token.TokenKind.{TokenKind}
use Rattle.og_lex.specs.declared.token.TokenKind.TheVariants as kinds
use Rattle.og_base.specs.Letters.{is_in_word}
use Rattle.og_lex.specs.Bytes.{doubled, quoted, value_after, signed}
use Rattle.og_lex.specs.Front.{front, mark, less, greater, single, marked, number, numbered, in_64, sign_len, text, closed, closing}
use Rattle.og_lex.specs.Grammar.{IsWord, IsNumeral, IsToken, symbol_text}
use Rattle.og_lex.proofs.Fronts.{front-begins_word, with_sign, signed_parts, front-with_sign, length-with_sign, quoted-before, length-quoted, front-quote}
use Rattle.og_lex.proofs.Quotes.{closing-doubled, closed_at}
use Rattle.og_lex.proofs.Runs.{prefix_len-all}
use Rattle.og_lex.proofs.Scripts.{front-token}

-- a token at the front has so many bytes or more
abbrev Reaches : ℕ → Front → Type 0
Reaches n (Skip len) = ⊤
Reaches n (Piece kind len) = n ≤ len
Reaches n (Bad fault) = ⊤

reaches-word : (z rest : List ℕ) → IsWord z [] → Reaches (length z) (front (z ++ rest))
reaches-word z rest h =
    let more = prefix_len-all is_in_word h.1 rest h.4.all in
    rw (h.2, front-begins_word h.0 (h.1 ++ rest) h.3) (omega (arith, more))

reaches-numbered : (n len : ℕ) (r : Option ℤ) → n ≤ len → Reaches n (numbered r len)
reaches-numbered n len None h = tt
reaches-numbered n len (Some value) h = h

reaches-digits : (is_negative : Bool) (n : ℕ) (z : List ℕ) → n ≤ sign_len is_negative + prefix_len is_ascii_digit z → Reaches n (number is_negative z)
unfolding number
reaches-digits is_negative n z h =
    reaches-numbered n (sign_len is_negative + prefix_len is_ascii_digit z) (in_64 (signed is_negative (value_after 0 (take (prefix_len is_ascii_digit z) z)))) h

reaches-numeral : (z rest : List ℕ) → IsNumeral z [] → Reaches (length z) (front (z ++ rest))
reaches-numeral z rest h =
    let s = signed_parts z [] h in
    let more = prefix_len-all is_ascii_digit s.digits rest s.run.all in
    let enough : length (with_sign s.is_negative s.digits) ≤ sign_len s.is_negative + prefix_len is_ascii_digit (s.digits ++ rest) = omega (arith, more, length-with_sign s.is_negative s.digits) in
    subst (λ y. Reaches (length y) (front (y ++ rest))) (sym s.same)
    (subst (Reaches (length (with_sign s.is_negative s.digits))) (sym (front-with_sign s.is_negative s.digits rest s.run.all s.some))
    (reaches-digits s.is_negative (length (with_sign s.is_negative s.digits)) (s.digits ++ rest) enough))

reaches-if_utf8 : (t : Bool) (n len : ℕ) → n ≤ len → Reaches n (cond t (Piece kinds.Text len) (Bad faults.BadByte))
reaches-if_utf8 true n len h = h
reaches-if_utf8 false n len h = tt

reaches-closed : (at : ℕ) (y z : List ℕ) (r : Option ℕ) → closing false at z ≡ r → Reaches (at + 2) (closed y r)
reaches-closed at y z None e = tt
reaches-closed at y z (Some end) e =
    let c = closed_at at z end e in
    reaches-if_utf8 (is_utf8 (take end y)) (at + 2) (end + 2) (omega (arith, c.place))

reaches-text : (content rest : List ℕ) → Reaches (length (doubled content) + 2) (text (doubled content ++ 39 ∷ rest))
unfolding text
reaches-text content rest =
    reaches-closed (length (doubled content)) (doubled content ++ 39 ∷ rest) (39 ∷ rest) (closing false 0 (doubled content ++ 39 ∷ rest))
    (sym (closing-doubled 0 content (39 ∷ rest) ∙ ap (λ k. closing false k (39 ∷ rest)) (omega arith)))

reaches-quoted : (content rest : List ℕ) → Reaches (length (quoted content)) (front (quoted content ++ rest))
reaches-quoted content rest =
    subst (λ y. Reaches (length (quoted content)) (front y)) (sym (quoted-before content rest))
    (subst (Reaches (length (quoted content))) (sym (front-quote (doubled content ++ 39 ∷ rest)))
    (subst (λ n. Reaches n (text (doubled content ++ 39 ∷ rest))) (length-quoted content) (reaches-text content rest)))

reaches-marks : (t u : Bool) (s s' s'' : Symbol) → Reaches 1 (cond t (marked s 2) (cond u (marked s' 2) (marked s'' 1)))
reaches-marks true u s s' s'' = omega arith
reaches-marks false true s s' s'' = omega arith
reaches-marks false false s s' s'' = omega arith

reaches-mark : (t : Bool) (s s' : Symbol) → Reaches 1 (cond t (marked s 2) (marked s' 1))
reaches-mark true s s' = omega arith
reaches-mark false s s' = omega arith

reaches-symbol : (s : Symbol) (rest : List ℕ) → Reaches (length (symbol_text s)) (front (symbol_text s ++ rest))
unfolding front mark less greater single
reaches-symbol symbols.LeftParen rest = omega arith
reaches-symbol symbols.RightParen rest = omega arith
reaches-symbol symbols.Comma rest = omega arith
reaches-symbol symbols.Semicolon rest = omega arith
reaches-symbol symbols.Dot rest = omega arith
reaches-symbol symbols.Star rest = omega arith
reaches-symbol symbols.Equal rest = omega arith
reaches-symbol symbols.NotEqual rest = omega arith
reaches-symbol symbols.LessEqual rest = omega arith
reaches-symbol symbols.GreaterEqual rest = omega arith
reaches-symbol symbols.Less rest = reaches-marks (slice_index rest 0 == 62) (slice_index rest 0 == 61) symbols.NotEqual symbols.LessEqual symbols.Less
reaches-symbol symbols.Greater rest = reaches-mark (slice_index rest 0 == 61) symbols.GreaterEqual symbols.Greater

-- what stands at the front reaches over a token, whatever follows that
reaches-token : (kind : TokenKind) (z rest : List ℕ) → IsToken kind z [] → Reaches (length z) (front (z ++ rest))
reaches-token kinds.Word z rest h = reaches-word z rest h
reaches-token (kinds.Number n) z rest h = reaches-numeral z rest h.numeral
reaches-token kinds.Text z rest h = subst (λ y. Reaches (length y) (front (y ++ rest))) (sym h.1.between) (reaches-quoted h.0 rest)
reaches-token (kinds.Sym s) z rest h = subst (λ y. Reaches (length y) (front (y ++ rest))) (sym h.same) (reaches-symbol s rest)

pub longest : (kind other : TokenKind) (z rest longer after : List ℕ) → IsToken kind z rest → z ++ rest ≡ longer ++ after → IsToken other longer [] → length longer ≤ length z
longest kind other z rest longer after h e k =
    let there : Reaches (length longer) (front (z ++ rest)) = subst (λ y. Reaches (length longer) (front y)) (sym e) (reaches-token other longer after k) in
    let here : Reaches (length longer) (Piece kind (length z)) = subst (Reaches (length longer)) (front-token kind z rest h) there in
    here

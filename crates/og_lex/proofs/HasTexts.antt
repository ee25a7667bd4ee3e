-- Which bytes are a text.
use Rattle.std.proofs.Common.{◌≡◌, ◌+◌, ◌&&◌, ◌==◌, ◌-◌, ◌≤◌, ℕ, Bool, true, false, List, [], ◌∷◌, ◌++◌, length, nat_le, slice_range, if◌then◌else◌, Option, Some, None, refl, ap, ap₂, sym, ◌∙◌, arith, length-append, eqb-true}
use Rattle.std.proofs.lemmas.Bool.Decides.{Decides-eqb}
use Rattle.std.proofs.lemmas.Bool.{leb-true, le-leb}
use Rattle.std.proofs.lemmas.Option.{same_Some}
use Rattle.og_lex.specs.Bytes.{is_quote, doubled, quoted}
use Rattle.og_lex.specs.declared.token.Token.{Token}
use Rattle.og_lex.specs.Front.{closing, ends_at, is_quoted, single_quotes, content_at}
use Rattle.og_lex.specs.Grammar.{bytes_of, IsTextAt, HasText}
use Rattle.og_lex.proofs.Quotes.{closing-quoted, closed_at, single_quotes-doubled}
use Rattle.og_lex.proofs.Tokens.{inner-quoted}

-- a content between quotes is a text
pub quoted-is : (content : List ℕ) → is_quoted (quoted content) ≡ true
quoted-is content =
    let z = doubled content ++ 39 ∷ [] in
    let len : 0 + length (doubled content) + 1 ≡ length z = omega (arith, length-append (doubled content) (39 ∷ [])) in
    ap (λ end. ends_at end (length z)) (closing-quoted 0 content [] tt) ∙ (ap (λ n. n == length z) len ∙ (Decides-eqb (length z) (length z)).1 refl)

-- what follows so many bytes of the same number
none_left : (xs ys : List ℕ) (n : ℕ) → n ≡ length xs → n + 1 ≡ length (xs ++ 39 ∷ ys) → ys ≡ []
none_left xs [] n e f = refl
none_left xs (y ∷ ys) n e f = absurd (omega (arith, e, f, length-append xs (39 ∷ y ∷ ys)))

-- the content of a text
pub is_quoted-content : (z : List ℕ) → is_quoted z ≡ true → (content : List ℕ) × (z ≡ quoted content)
is_quoted-content [] e = cc
is_quoted-content (b ∷ z) e = by (is_quote b) (closing false 0 z) refl refl e
  where
    by : (q : Bool) (end : Option ℕ) → is_quote b ≡ q → closing false 0 z ≡ end → (q && ends_at end (length z)) ≡ true → (content : List ℕ) × (b ∷ z ≡ quoted content)
    by false end q c e = cc
    by true None q c e = cc
    by true (Some end) q c e =
        let at = closed_at 0 z end c in
        let all : end + 1 ≡ length z = eqb-true (end + 1) (length z) e in
        let rest : at.rest ≡ [] = none_left (doubled at.content) at.rest end (omega (arith, at.place)) (all ∙ ap length at.joined) in
        (at.content, ap₂ (λ x xs. x ∷ xs) (eqb-true b 39 q) (at.joined ∙ ap (λ r. doubled at.content ++ 39 ∷ r) rest))

-- the bytes of a token within the script are a text
pub has_text-within : (script : List ℕ) (token : Token) → token.end ≤ length script → is_quoted (bytes_of script token) ≡ true → HasText script token
has_text-within script token within e = let had = is_quoted-content (bytes_of script token) e in (had.0, record { within = within; between = had.1 })

-- the bytes of a text are so
pub has_text-quoted : (script : List ℕ) (token : Token) → HasText script token → is_quoted (bytes_of script token) ≡ true
has_text-quoted script token had = ap is_quoted had.1.between ∙ quoted-is had.0

-- what is found is the content of the text
pub content_at-sound : (script : List ℕ) (token : Token) (content : List ℕ) → content_at script token ≡ Some content → IsTextAt script token content
unfolding content_at
content_at-sound script token content e = by (nat_le token.end (length script)) (is_quoted (bytes_of script token)) refl refl e
  where
    by : (w q : Bool) → nat_le token.end (length script) ≡ w → is_quoted (bytes_of script token) ≡ q → (if w && q then Some (single_quotes false (slice_range script (token.start + 1) (token.end - 1))) else None) ≡ Some content
        → IsTextAt script token content
    by true true w q e =
        let within = leb-true token.end (length script) w in
        let had = is_quoted-content (bytes_of script token) q in
        record { within = within; between = had.1 ∙ ap quoted (sym (ap (single_quotes false) (inner-quoted script token.start token.end had.0 within had.1) ∙ single_quotes-doubled had.0) ∙ same_Some _ content e) }
    by true false w q e = cc
    by false q w f e = cc

-- the content of a text is found
pub content_at-complete : (script : List ℕ) (token : Token) (content : List ℕ) → IsTextAt script token content → content_at script token ≡ Some content
unfolding content_at
content_at-complete script token content h =
    let found = slice_range script (token.start + 1) (token.end - 1) in
    ap₂ (λ w q. if w && q then Some (single_quotes false found) else None) (le-leb token.end (length script) h.within) (has_text-quoted script token (content, h))
    ∙ ap Some (ap (single_quotes false) (inner-quoted script token.start token.end content h.within h.between) ∙ single_quotes-doubled content)

-- The tokens of a script: their places, and their bytes there.
use Rattle.std.proofs.Common.{◌≡◌, ℕ, ◌+◌, ◌-◌, ◌≤◌, List, [], ◌∷◌, ◌++◌, length, take, drop, refl, ap, ap₂, subst, sym, ◌∙◌, append_assoc, arith, length-append}
use Rattle.std.proofs.lemmas.List.{take-append-drop, length-take, length-drop, drop-drop}
use Rattle.std.proofs.lemmas.List.Elements.{All-cons}
use Rattle.std.specs.List.{All}
use Rattle.std.specs.Str.{IsUtf8}
use Rattle.og_lex.specs.declared.token.Token.{Token}
use Rattle.og_lex.specs.declared.token.TokenKind.{TokenKind}
use Rattle.og_lex.specs.declared.token.TokenKind.TheVariants as kinds
use Rattle.og_lex.specs.Bytes.{doubled, quoted}
use Rattle.og_lex.specs.Grammar.{IsToken, Reads, IsLexed, bytes_of, Rise, IsTokenOf, IsTextAt}
use Rattle.og_lex.proofs.Lexing.{token_at}
use Rattle.og_lex.proofs.Quotes.{doubled-same}
use Rattle.og_lex.proofs.Runs.{take-joined, drop-joined}
use Rattle.og_lex.proofs.Scripts.{token-some}

-- ---- places

rise-earlier : (from start most : ℕ) (tokens : List Token) → start ≤ from → Rise from tokens most → Rise start tokens most
rise-earlier from start most [] h rise = omega (arith, h, rise)
rise-earlier from start most (token ∷ tokens) h rise = (omega (arith, h, rise.0), rise.1, rise.2)

pub rise-reads : {at end : ℕ} {z rest : List ℕ} {tokens : List Token} → Reads at z tokens end rest → Rise at tokens end
rise-reads (Reads.stops at z) = omega arith
rise-reads (Reads.past_blank at b z tokens end rest h more) = rise-earlier (at + 1) at end tokens (omega arith) (rise-reads more)
rise-reads (Reads.past_comment at y z tokens end rest h more) = rise-earlier (at + length y) at end tokens (omega arith) (rise-reads more)
rise-reads (Reads.past_token at kind y z tokens end rest h more) =
    let some = token-some kind y z h in
    (omega arith, omega (arith, some), rise-reads more)

pub rising : (script : List ℕ) (tokens : List Token) → IsLexed script tokens → Rise 0 tokens (length script)
rising script tokens h = rise-reads h

-- ---- bytes

-- a token after other bytes
token_of_joined : (before y rest : List ℕ) (kind : TokenKind) → IsToken kind y rest → IsTokenOf (before ++ (y ++ rest)) (token_at kind (length before) (length y))
token_of_joined before y rest kind h =
    let some = token-some kind y rest h in
    let len : length before + length y - length before ≡ length y = omega arith in
    let here : take (length before + length y - length before) (drop (length before) (before ++ (y ++ rest))) ≡ y = ap₂ (λ n z. take n z) len (drop-joined before (y ++ rest)) ∙ take-joined y rest in
    let whole : before ++ (y ++ rest) ≡ (before ++ y) ++ rest = sym (append_assoc before y rest) in
    let after : drop (length before + length y) (before ++ (y ++ rest)) ≡ rest = ap₂ (λ n z. drop n z) (sym (length-append before y)) whole ∙ drop-joined (before ++ y) rest in
    record {
      some = omega (arith, some);
      within = omega (arith, length-append before (y ++ rest), length-append y rest);
      same = subst (λ z. IsToken kind z (drop (length before + length y) (before ++ (y ++ rest)))) (sym here) (subst (IsToken kind y) (sym after) h);
    }

pub kinds-reads : {at end : ℕ} {z rest : List ℕ} {tokens : List Token} → (before : List ℕ) → length before ≡ at → Reads at z tokens end rest → All (IsTokenOf (before ++ z)) tokens
kinds-reads before e (Reads.stops at z) = λ k d h. absurd (omega (arith, h))
kinds-reads before e (Reads.past_blank at b z tokens end rest h more) =
    let all = kinds-reads (before ++ b ∷ []) (omega (arith, e, length-append before (b ∷ []))) more in
    subst (λ s. All (IsTokenOf s) tokens) (append_assoc before (b ∷ []) z) all
kinds-reads before e (Reads.past_comment at y z tokens end rest h more) =
    let all = kinds-reads (before ++ y) (omega (arith, e, length-append before y)) more in
    subst (λ s. All (IsTokenOf s) tokens) (append_assoc before y z) all
kinds-reads before e (Reads.past_token at kind y z tokens end rest h more) =
    let all = kinds-reads (before ++ y) (omega (arith, e, length-append before y)) more in
    All-cons (IsTokenOf (before ++ (y ++ z))) (token_at kind at (length y)) tokens
    (subst (λ n. IsTokenOf (before ++ (y ++ z)) (token_at kind n (length y))) e (token_of_joined before y z kind h))
    (subst (λ s. All (IsTokenOf s) tokens) (append_assoc before y z) all)

pub kinds-lexed : (script : List ℕ) (tokens : List Token) → IsLexed script tokens → All (IsTokenOf script) tokens
kinds-lexed script tokens h = kinds-reads [] refl h

-- ---- texts

pub quoted-same : (xs ys : List ℕ) → quoted xs ≡ quoted ys → xs ≡ ys
quoted-same xs ys e =
    let tails : doubled xs ++ 39 ∷ [] ≡ doubled ys ++ 39 ∷ [] = ap (drop 1) e in
    let lens : length (doubled xs) ≡ length (doubled ys) = omega (arith, ap length tails, length-append (doubled xs) (39 ∷ []), length-append (doubled ys) (39 ∷ [])) in
    doubled-same xs ys (sym (take-joined (doubled xs) (39 ∷ [])) ∙ (ap₂ (λ n z. take n z) lens tails ∙ take-joined (doubled ys) (39 ∷ [])))

pub one_content : (script : List ℕ) (token : Token) (content other : List ℕ) → IsTextAt script token content → IsTextAt script token other → content ≡ other
one_content script token content other h k = quoted-same content other (sym h.between ∙ k.between)

pub content-utf8 : (script : List ℕ) (token : Token) (content : List ℕ) → IsTokenOf script token → token.kind ≡ kinds.Text → IsTextAt script token content → IsUtf8 content
content-utf8 script token content h e is =
    let text = subst (λ kind. IsToken kind (bytes_of script token) (drop token.end script)) e h.same in
    subst IsUtf8 (quoted-same text.0 content (sym text.1.between ∙ is.between)) text.2

-- the bytes between the quotes of a token
pub inner-quoted : (script : List ℕ) (start end : ℕ) (content : List ℕ) → end ≤ length script → take (end - start) (drop start script) ≡ quoted content
    → take (end - 1 - (start + 1)) (drop (start + 1) script) ≡ doubled content
inner-quoted script start end content within e =
    let len : end - start ≡ length (doubled content) + 2 = omega (arith, ap length e, length-take (end - start) (drop start script), length-drop start script, length-append (doubled content) (39 ∷ [])) in
    let less : end - 1 - (start + 1) ≡ length (doubled content) = omega (arith, len) in
    let after = drop (end - start) (drop start script) in
    let whole : drop start script ≡ quoted content ++ after = sym (take-append-drop (end - start) (drop start script)) ∙ ap (λ z. z ++ after) e in
    let tail : drop (start + 1) script ≡ doubled content ++ 39 ∷ after = sym (drop-drop 1 start script) ∙ (ap (drop 1) whole ∙ append_assoc (doubled content) (39 ∷ []) after) in
    ap₂ (λ n z. take n z) less tail ∙ take-joined (doubled content) (39 ∷ after)

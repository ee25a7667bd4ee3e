-- Tokens that are taken piece by piece: what is read from one place to another.
use Rattle.std.proofs.Common.{◌≡◌, ◌+◌, ◌<◌, ◌≤◌, ℕ, true, List, [], ◌∷◌, ◌++◌, length, drop, refl, sym, ap, ◌∙◌, subst, inl, inr, arith}
use Rattle.std.proofs.lemmas.List.{drop-drop}
use Rattle.og_lex.specs.declared.front.Fault.{Fault}
use Rattle.og_lex.specs.declared.front.Fault.TheVariants as faults
use Rattle.og_lex.specs.declared.front.Front.TheVariants.{Skip, Piece, Bad}
use Rattle.og_lex.specs.declared.refusal.LexRefusal.{LexRefusal}
use Rattle.og_lex.specs.declared.refusal.LexRefusal.TheVariants as refusals
use Rattle.og_lex.specs.declared.symbol.Symbol.TheVariants.{Semicolon}
use Rattle.og_lex.specs.declared.token.Token.{Token}
use Rattle.og_lex.specs.declared.token.TokenKind.{TokenKind}
use Rattle.og_lex.specs.declared.token.TokenKind.TheVariants.{Sym}
use Rattle.og_lex.specs.Faults.{IsRefusal, IsRefusalFrom}
use Rattle.og_lex.specs.Front.{front, refusal_at}
use Rattle.og_lex.specs.Grammar.{Reads}
use Rattle.og_lex.specs.Endings.{EndsStatement, is_semicolon}
use Rattle.og_lex.proofs.Lexing.{token_at}
use Rattle.og_lex.proofs.Meanings.{Means, IsSkipped, means-front}
use Rattle.og_lex.proofs.Runs.{drop-joined}
use Rattle.og_lex.proofs.Scripts.{IsFaultAt-front, comment-some, token-some}

-- what is read from one place to another, and from there on to a third
pub reads_on : {at mid end : ℕ} {z y x : List ℕ} {tokens more : List Token} → Reads at z tokens mid y → Reads mid y more end x → Reads at z (tokens ++ more) end x
reads_on (Reads.stops at z) next = next
reads_on {end = end} {x = x} {more = more} (Reads.past_blank at b z tokens mid y h first) next = Reads.past_blank at b z (tokens ++ more) end x h (reads_on first next)
reads_on {end = end} {x = x} {more = more} (Reads.past_comment at text z tokens mid y h first) next = Reads.past_comment at text z (tokens ++ more) end x h (reads_on first next)
reads_on {end = end} {x = x} {more = more} (Reads.past_token at kind text z tokens mid y h first) next = Reads.past_token at kind text z (tokens ++ more) end x h (reads_on first next)

-- each token takes a byte
pub reads_len : {at end : ℕ} {z rest : List ℕ} {tokens : List Token} → Reads at z tokens end rest → at + length tokens ≤ end
reads_len (Reads.stops at z) = omega arith
reads_len (Reads.past_blank at b z tokens end rest h more) = omega (arith, reads_len more)
reads_len (Reads.past_comment at text z tokens end rest h more) = omega (arith, reads_len more, comment-some text z h)
reads_len (Reads.past_token at kind text z tokens end rest h more) = omega (arith, reads_len more, token-some kind text z h)

-- ---- one piece

-- of bytes that begin with a piece
moved : (at len : ℕ) (z y rest : List ℕ) (tokens : List Token) → z ≡ y ++ rest → len ≡ length y → Reads at (y ++ rest) tokens (at + length y) rest → Reads at z tokens (at + len) (drop len z)
moved at len z y rest tokens e same read =
    let after : drop len z ≡ rest = ap (λ n. drop n z) same ∙ (ap (drop (length y)) e ∙ drop-joined y rest) in
    subst (λ x. Reads at x tokens (at + len) (drop len z)) (sym e)
    (subst (λ n. Reads at (y ++ rest) tokens (at + n) (drop len z)) (sym same)
    (subst (λ x. Reads at (y ++ rest) tokens (at + length y) x) (sym after) read))

skipped : (at : ℕ) (y rest : List ℕ) → IsSkipped y rest → Reads at (y ++ rest) [] (at + length y) rest
skipped at y rest (inl (b, e, blank)) =
    subst (λ x. Reads at (x ++ rest) [] (at + length x) rest) (sym e) (Reads.past_blank at b rest [] (at + 1) rest blank (Reads.stops (at + 1) rest))
skipped at y rest (inr comment) = Reads.past_comment at y rest [] (at + length y) rest comment (Reads.stops (at + length y) rest)

skip-means : (at len : ℕ) (z : List ℕ) → Means z (Skip len) → Reads at z [] (at + len) (drop len z)
skip-means at len z (y, rest, e, same, is) = moved at len z y rest [] e same (skipped at y rest is)

token-means : (at len : ℕ) (kind : TokenKind) (z : List ℕ) → Means z (Piece kind len) → Reads at z (token_at kind at len ∷ []) (at + len) (drop len z)
token-means at len kind z (y, rest, e, same, is) =
    subst (λ n. Reads at z (token_at kind at n ∷ []) (at + len) (drop len z)) (sym same)
    (moved at len z y rest (token_at kind at (length y) ∷ []) e same
    (Reads.past_token at kind y rest [] (at + length y) rest is (Reads.stops (at + length y) rest)))

-- what is passed over, a token, and a fault
pub reads_skip : (at len : ℕ) (z : List ℕ) → front z ≡ Skip len → Reads at z [] (at + len) (drop len z)
reads_skip at len z e = skip-means at len z (subst (Means z) e (means-front z))

pub reads_token : (at len : ℕ) (kind : TokenKind) (z : List ℕ) → front z ≡ Piece kind len → Reads at z (token_at kind at len ∷ []) (at + len) (drop len z)
reads_token at len kind z e = token-means at len kind z (subst (Means z) e (means-front z))

pub refused_at : (at : ℕ) (z : List ℕ) (fault : Fault) → 0 < length z → front z ≡ Bad fault → IsRefusalFrom at z (refusal_at fault at)
refused_at at [] fault some e = absurd (omega (arith, some))
refused_at at (b ∷ z) faults.BadByte some e = ([], at, b ∷ z, Reads.stops at (b ∷ z), IsFaultAt-front at b z faults.BadByte e (subst (Means (b ∷ z)) e (means-front (b ∷ z))))
refused_at at (b ∷ z) faults.OpenText some e = ([], at, b ∷ z, Reads.stops at (b ∷ z), IsFaultAt-front at b z faults.OpenText e (subst (Means (b ∷ z)) e (means-front (b ∷ z))))
refused_at at (b ∷ z) faults.NumberRange some e = ([], at, b ∷ z, Reads.stops at (b ∷ z), IsFaultAt-front at b z faults.NumberRange e (subst (Means (b ∷ z)) e (means-front (b ∷ z))))

-- a token that is a semicolon is the last
pub ends_with : (before : List Token) (kind : TokenKind) (at len : ℕ) → is_semicolon kind ≡ true → EndsStatement (before ++ token_at kind at len ∷ [])
ends_with before (Sym Semicolon) at len e = (before, token_at (Sym Semicolon) at len, refl, refl)
ends_with before _ at len e = cc

-- ---- a part

-- what is read from one place on is refused where it is refused further on
pub refused_on : (from at : ℕ) (z rest : List ℕ) (tokens : List Token) (refusal : LexRefusal) → Reads from z tokens at rest → IsRefusalFrom at rest refusal → IsRefusalFrom from z refusal
refused_on from at z rest tokens (refusals.BadByte offset) first (more, place, y, next, is) = (tokens ++ more, place, y, reads_on first next, is)
refused_on from at z rest tokens (refusals.OpenText offset) first (more, place, y, next, is) = (tokens ++ more, place, y, reads_on first next, is)
refused_on from at z rest tokens (refusals.NumberRange offset) first (more, place, y, next, is) = (tokens ++ more, place, y, reads_on first next, is)
refused_on from at z rest tokens refusals.NoMemory first is = tt

-- from the first place on it is a refusal of the script
pub refused_first : (script : List ℕ) (refusal : LexRefusal) → IsRefusalFrom 0 script refusal → IsRefusal script refusal
refused_first script (refusals.BadByte offset) h = h
refused_first script (refusals.OpenText offset) h = h
refused_first script (refusals.NumberRange offset) h = h
refused_first script refusals.NoMemory h = tt

-- one more piece of a part
pub one_more : (script z : List ℕ) (from at len : ℕ) (rest left : List ℕ) (tokens now more : List Token)
    → left ≡ drop len rest → rest ≡ drop at script → now ≡ tokens ++ more → Reads at rest more (at + len) (drop len rest) → Reads from z tokens at rest
    → Reads from z now (at + len) left × (left ≡ drop (at + len) script)
one_more script z from at len rest left tokens now more back where_rest e next first = (
  subst (λ ts. Reads from z ts (at + len) left) (sym e) (subst (λ x. Reads from z (tokens ++ more) (at + len) x) (sym back) (reads_on first next)),
  back ∙ (ap (drop len) where_rest ∙ drop-drop len at script),
)

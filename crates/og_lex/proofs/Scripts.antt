-- The tokens and the first fault of a script are what is lexed.
use Rattle.std.proofs.Common.{◌≡◌, ◌⊎◌, inl, inr, ℕ, zero, suc, ◌+◌, ◌-◌, ◌<◌, ◌≤◌, List, [], ◌∷◌, ◌++◌, length, drop, refl, ap, subst, sym, ◌∙◌, arith, true, Ok, Err, length-append}
use Rattle.std.proofs.lemmas.List.{append-nil}
use Rattle.og_lex.specs.declared.front.Fault.{Fault}
use Rattle.og_lex.specs.declared.front.Fault.TheVariants as faults
use Rattle.og_lex.specs.declared.front.Front.{Front}
use Rattle.og_lex.specs.declared.front.Front.TheVariants.{Skip, Piece, Bad}
use Rattle.og_lex.specs.declared.refusal.LexRefusal.{LexRefusal}
use Rattle.og_lex.specs.declared.refusal.LexRefusal.TheVariants as refusals
use Rattle.og_lex.specs.declared.symbol.Symbol.{Symbol}
use Rattle.og_lex.specs.declared.symbol.Symbol.TheVariants as symbols
use Rattle.og_lex.specs.declared.token.Token.{Token}
use Rattle.og_lex.specs.declared.token.TokenKind.{TokenKind}
use Rattle.og_lex.specs.declared.token.TokenKind.TheVariants as kinds
use Rattle.og_lex.specs.Bytes.{is_blank, unsigned}
use Rattle.og_lex.specs.Faults.{Goes, IsBadByte, IsFaultAt, IsFirstFault, IsRefusal}
use Rattle.og_lex.specs.Front.{Lexed, front, lex_from, lexed, with_front, go_on, refusal_at, IsErrorOf}
use Rattle.og_lex.specs.Grammar.{IsComment, IsToken, Reads, IsLexed, symbol_text}
use Rattle.og_lex.proofs.Fronts.{front-blank, front-comment, front-word, front-number, front-text, front-number_range, front-open_text}
use Rattle.og_lex.proofs.Lexing.{with_front-nil, with_front-append, lex_from-skip, lex_from-token, lex_from-bad, token_at}
use Rattle.og_lex.proofs.Meanings.{Means, IsSkipped, means-front}
use Rattle.og_lex.proofs.Runs.{drop-joined}
use Rattle.og_lex.proofs.Symbols.{front-symbol}

-- ---- tokens at the front

pub front-token : (kind : TokenKind) (z rest : List ℕ) → IsToken kind z rest → front (z ++ rest) ≡ Piece kind (length z)
front-token kinds.Word z rest h = front-word z rest h
front-token (kinds.Number n) z rest h = front-number n z rest h
front-token kinds.Text z rest h = front-text h.0 z rest h.1 h.2
front-token (kinds.Sym s) z rest h = front-symbol s z rest h

symbol_text-some : (s : Symbol) → 1 ≤ length (symbol_text s)
symbol_text-some symbols.LeftParen = omega arith
symbol_text-some symbols.RightParen = omega arith
symbol_text-some symbols.Comma = omega arith
symbol_text-some symbols.Semicolon = omega arith
symbol_text-some symbols.Dot = omega arith
symbol_text-some symbols.Star = omega arith
symbol_text-some symbols.Equal = omega arith
symbol_text-some symbols.NotEqual = omega arith
symbol_text-some symbols.LessEqual = omega arith
symbol_text-some symbols.GreaterEqual = omega arith
symbol_text-some symbols.Less = omega arith
symbol_text-some symbols.Greater = omega arith

unsigned-some : (z : List ℕ) → 0 < length (unsigned z) → 1 ≤ length z
unsigned-some [] h = h
unsigned-some (b ∷ z) h = omega arith

-- a token has a byte or more
pub token-some : (kind : TokenKind) (z rest : List ℕ) → IsToken kind z rest → 1 ≤ length z
token-some kinds.Word z rest h = rw h.2 (omega arith)
token-some (kinds.Number n) z rest h = unsigned-some z h.numeral.some
token-some kinds.Text z rest h = rw h.1.between (omega arith)
token-some (kinds.Sym s) z rest h = rw h.same (symbol_text-some s)

pub comment-some : (z rest : List ℕ) → IsComment z rest → 1 ≤ length z
comment-some z rest h = rw h.1 (omega arith)

joined-within : (z rest : List ℕ) → length z ≤ length (z ++ rest)
joined-within z rest = omega (arith, length-append z rest)

joined-some : (z rest : List ℕ) → 1 ≤ length z → 0 < length (z ++ rest)
joined-some z rest h = omega (arith, length-append z rest, h)

-- ---- what is read is lexed

pub lexed-reads : {at end : ℕ} {z rest : List ℕ} {tokens : List Token} → Reads at z tokens end rest → lex_from at 0 z ≡ with_front tokens (lex_from end 0 rest)
lexed-reads (Reads.stops at z) = sym (with_front-nil (lex_from at 0 z))
lexed-reads (Reads.past_blank at b z tokens end rest h more) =
    lex_from-skip at 1 (b ∷ z) (omega arith) (front-blank b z h) (omega arith) (omega arith) ∙ lexed-reads more
lexed-reads (Reads.past_comment at y z tokens end rest h more) =
    let some = comment-some y z h in
    lex_from-skip at (length y) (y ++ z) (joined-some y z some) (front-comment y z h) some (joined-within y z)
    ∙ (ap (lex_from (at + length y) 0) (drop-joined y z) ∙ lexed-reads more)
lexed-reads (Reads.past_token at kind y z tokens end rest h more) =
    let some = token-some kind y z h in
    let one = token_at kind at (length y) ∷ [] in
    lex_from-token at (length y) kind (y ++ z) (joined-some y z some) (front-token kind y z h) some (joined-within y z)
    ∙ (ap (with_front one) (ap (lex_from (at + length y) 0) (drop-joined y z) ∙ lexed-reads more)
    ∙ with_front-append one tokens (lex_from end 0 rest))

-- ---- faults

pub front-goes : (z : List ℕ) (fault : Fault) → Goes z → front z ≡ Bad fault → ⊥
front-goes z fault (inl (b, rest, e, blank)) h = let f = front-blank b rest blank in cc (sym h ∙ (ap front e ∙ f))
front-goes z fault (inr (inl (y, rest, e, comment))) h = let f = front-comment y rest comment in cc (sym h ∙ (ap front e ∙ f))
front-goes z fault (inr (inr (kind, y, rest, e, token))) h = let f = front-token kind y rest token in cc (sym h ∙ (ap front e ∙ f))

skipped-goes : (y rest : List ℕ) → IsSkipped y rest → Goes (y ++ rest)
skipped-goes y rest (inl (b, e, blank)) = inl (b, rest, ap (λ x. x ++ rest) e, blank)
skipped-goes y rest (inr comment) = inr (inl (y, rest, refl, comment))

-- what stands at the front where nothing goes on
pub front-bad_byte : (z : List ℕ) → IsBadByte z → front z ≡ Bad faults.BadByte
front-bad_byte z h = by (front z) (means-front z)
  where
    by : (f : Front) → Means z f → f ≡ Bad faults.BadByte
    by (Skip len) (y, rest, e, same, skipped) = absurd (h.stuck (subst Goes (sym e) (skipped-goes y rest skipped)))
    by (Piece kind len) (y, rest, e, same, token) = absurd (h.stuck (inr (inr (kind, y, rest, e, token))))
    by (Bad faults.BadByte) m = refl
    by (Bad faults.OpenText) m = absurd (h.closed m)
    by (Bad faults.NumberRange) m = absurd (h.in_range m)

-- the fault of what stands at the front
pub IsFaultAt-front : (at b : ℕ) (z : List ℕ) (fault : Fault) → front (b ∷ z) ≡ Bad fault → Means (b ∷ z) (Bad fault) → IsFaultAt (refusal_at fault at) at (b ∷ z)
IsFaultAt-front at b z faults.OpenText e m = (refl, m)
IsFaultAt-front at b z faults.NumberRange e m = (refl, m)
IsFaultAt-front at b z faults.BadByte e m = (
  refl,
  record {
    more = λ none. cc none;
    stuck = λ goes. front-goes (b ∷ z) faults.BadByte goes e;
    closed = λ open_text. let f = front-open_text (b ∷ z) open_text in cc (sym e ∙ f);
    in_range = λ range. let f = front-number_range (b ∷ z) range in cc (sym e ∙ f);
  },
)

some-front : (fault : Fault) (z : List ℕ) → (z ≡ [] → ⊥) → 0 < length z
some-front fault [] h = absurd (h refl)
some-front fault (b ∷ z) h = omega arith

-- a fault at a place is what is lexed there
lexed-fault_at : (fault : LexRefusal) (at : ℕ) (z : List ℕ) → IsFaultAt fault at z → lex_from at 0 z ≡ Err fault
lexed-fault_at (refusals.BadByte offset) at z h =
    lex_from-bad at faults.BadByte z (some-front faults.BadByte z h.1.more) (front-bad_byte z h.1) ∙ ap (λ n. Err (refusals.BadByte n)) (sym h.0)
lexed-fault_at (refusals.OpenText offset) at z h =
    let some : 0 < length z = rw h.1.opens.1 (omega arith) in
    lex_from-bad at faults.OpenText z some (front-open_text z h.1) ∙ ap (λ n. Err (refusals.OpenText n)) (sym h.0)
lexed-fault_at (refusals.NumberRange offset) at z h =
    let some : 0 < length z = rw h.1.2 (joined-some h.1.0 h.1.1 (unsigned-some h.1.0 h.1.3.some)) in
    lex_from-bad at faults.NumberRange z some (front-number_range z h.1) ∙ ap (λ n. Err (refusals.NumberRange n)) (sym h.0)
lexed-fault_at refusals.NoMemory at z h = absurd h

-- ---- what is lexed is read

-- what is lexed from a place on
abbrev pub Outcome : ℕ → List ℕ → Lexed → Type 0
Outcome at z (Ok tokens) = (end : ℕ) × Reads at z tokens end [] × (end ≡ at + length z)
Outcome at z (Err fault) = (tokens : List Token) × (place : ℕ) × (y : List ℕ) × Reads at z tokens place y × IsFaultAt fault place y

outcome-blank : (at b : ℕ) (z : List ℕ) (r : Lexed) → is_blank b ≡ true → Outcome (at + 1) z r → Outcome at (b ∷ z) r
outcome-blank at b z (Ok tokens) h (end, more, e) = (end, Reads.past_blank at b z tokens end [] h more, omega (arith, e))
outcome-blank at b z (Err fault) h (tokens, place, y, more, is) = (tokens, place, y, Reads.past_blank at b z tokens place y h more, is)

outcome-comment : (at : ℕ) (x z : List ℕ) (r : Lexed) → IsComment x z → Outcome (at + length x) z r → Outcome at (x ++ z) r
outcome-comment at x z (Ok tokens) h (end, more, e) = (end, Reads.past_comment at x z tokens end [] h more, omega (arith, e, length-append x z))
outcome-comment at x z (Err fault) h (tokens, place, y, more, is) = (tokens, place, y, Reads.past_comment at x z tokens place y h more, is)

outcome-skip : (at : ℕ) (x z : List ℕ) (r : Lexed) → IsSkipped x z → Outcome (at + length x) z r → Outcome at (x ++ z) r
outcome-skip at x z r (inl (b, e, blank)) m =
    subst (λ y. Outcome at (y ++ z) r) (sym e) (outcome-blank at b z r blank (subst (λ y. Outcome (at + length y) z r) e m))
outcome-skip at x z r (inr comment) m = outcome-comment at x z r comment m

outcome-token : (at : ℕ) (kind : TokenKind) (x z : List ℕ) (r : Lexed) → IsToken kind x z → Outcome (at + length x) z r
    → Outcome at (x ++ z) (with_front (token_at kind at (length x) ∷ []) r)
outcome-token at kind x z (Ok tokens) h (end, more, e) = (end, Reads.past_token at kind x z tokens end [] h more, omega (arith, e, length-append x z))
outcome-token at kind x z (Err fault) h (tokens, place, y, more, is) = (token_at kind at (length x) ∷ tokens, place, y, Reads.past_token at kind x z tokens place y h more, is)

drop-piece : (b : ℕ) (z y rest : List ℕ) (len : ℕ) → b ∷ z ≡ y ++ rest → len ≡ length y → 1 ≤ len → drop (len - 1) z ≡ rest
drop-piece b z y rest zero e same some = absurd (omega (arith, some))
drop-piece b z y rest (suc len) e same some =
    let less : suc len - 1 ≡ len = omega arith in
    ap (λ n. drop n z) less ∙ (ap (drop (suc len)) e ∙ (ap (λ n. drop n (y ++ rest)) same ∙ drop-joined y rest))

-- what comes after a piece
after_piece : (at b : ℕ) (z y rest : List ℕ) (len : ℕ) (r : Lexed) → b ∷ z ≡ y ++ rest → len ≡ length y → 1 ≤ len
    → Outcome (at + 1 + (len - 1)) (drop (len - 1) z) r → Outcome (at + length y) rest r
after_piece at b z y rest len r e same some m =
    let place : at + 1 + (len - 1) ≡ at + length y = omega (arith, same, some) in
    subst (λ x. Outcome (at + length y) x r) (drop-piece b z y rest len e same some) (subst (λ n. Outcome n (drop (len - 1) z) r) place m)

skipped-some : (y rest : List ℕ) → IsSkipped y rest → 1 ≤ length y
skipped-some y rest (inl (b, e, blank)) = rw e (omega arith)
skipped-some y rest (inr comment) = comment-some y rest comment

piece-within : (b : ℕ) (z y rest : List ℕ) (len : ℕ) → b ∷ z ≡ y ++ rest → len ≡ length y → len - 1 ≤ length z
piece-within b z y rest len e same = omega (arith, same, ap length e, length-append y rest)

step : (at b : ℕ) (z : List ℕ) (f : Front) → front (b ∷ z) ≡ f → Means (b ∷ z) f
    → ((len : ℕ) → len - 1 ≤ length z → Outcome (at + 1 + (len - 1)) (drop (len - 1) z) (lex_from (at + 1) (len - 1) z))
    → Outcome at (b ∷ z) (go_on f at (λ len. lex_from (at + 1) (len - 1) z))
step at b z (Skip len) is (y, rest, e, same, skipped) more =
    let some : 1 ≤ len = omega (arith, same, skipped-some y rest skipped) in
    let after = after_piece at b z y rest len (lex_from (at + 1) (len - 1) z) e same some (more len (piece-within b z y rest len e same)) in
    subst (λ x. Outcome at x (lex_from (at + 1) (len - 1) z)) (sym e) (outcome-skip at y rest (lex_from (at + 1) (len - 1) z) skipped after)
step at b z (Piece kind len) is (y, rest, e, same, token) more =
    let some : 1 ≤ len = omega (arith, same, token-some kind y rest token) in
    let after = after_piece at b z y rest len (lex_from (at + 1) (len - 1) z) e same some (more len (piece-within b z y rest len e same)) in
    subst (λ n. Outcome at (b ∷ z) (with_front (token_at kind at n ∷ []) (lex_from (at + 1) (len - 1) z))) (sym same)
    (subst (λ x. Outcome at x (with_front (token_at kind at (length y) ∷ []) (lex_from (at + 1) (len - 1) z))) (sym e)
    (outcome-token at kind y rest (lex_from (at + 1) (len - 1) z) token after))
step at b z (Bad fault) is m more = ([], at, b ∷ z, Reads.stops at (b ∷ z), IsFaultAt-front at b z fault is m)

pub outcome_from : (at left : ℕ) (z : List ℕ) → left ≤ length z → Outcome (at + left) (drop left z) (lex_from at left z)
outcome_from at zero [] h = (at + 0, Reads.stops (at + 0) [], omega arith)
outcome_from at (suc left) [] h = absurd (omega (arith, h))
outcome_from at (suc left) (b ∷ z) h =
    let place : at + 1 + left ≡ at + suc left = omega arith in
    subst (λ n. Outcome n (drop left z) (lex_from (at + 1) left z)) place (outcome_from (at + 1) left z (omega (arith, h)))
outcome_from at zero (b ∷ z) h =
    let place : at ≡ at + 0 = omega arith in
    subst (λ n. Outcome n (b ∷ z) (lex_from at 0 (b ∷ z))) place
    (step at b z (front (b ∷ z)) refl (means-front (b ∷ z)) (λ len within. outcome_from (at + 1) (len - 1) z within))

pub outcome_of : (script : List ℕ) → Outcome 0 script (lexed script)
unfolding lexed
outcome_of script = outcome_from 0 0 script (omega arith)

-- ---- scripts

pub lexed-tokens : (script : List ℕ) (tokens : List Token) → IsLexed script tokens → lexed script ≡ Ok tokens
unfolding lexed
lexed-tokens script tokens h = lexed-reads h ∙ ap Ok (append-nil tokens)

pub lexed-fault : (script : List ℕ) (fault : LexRefusal) → IsFirstFault script fault → lexed script ≡ Err fault
unfolding lexed
lexed-fault script fault (tokens, at, z, reads, is) = lexed-reads reads ∙ ap (with_front tokens) (lexed-fault_at fault at z is)

pub tokens-lexed : (script : List ℕ) (tokens : List Token) → lexed script ≡ Ok tokens → IsLexed script tokens
tokens-lexed script tokens e =
    let o = subst (Outcome 0 script) e (outcome_of script) in
    let end : o.0 ≡ length script = omega (arith, o.2) in
    subst (λ n. Reads 0 script tokens n []) end o.1

pub fault-lexed : (script : List ℕ) (fault : LexRefusal) → lexed script ≡ Err fault → IsFirstFault script fault
fault-lexed script fault e = subst (Outcome 0 script) e (outcome_of script)

pub IsRefusal-lexed : (script : List ℕ) (refusal : LexRefusal) → IsErrorOf refusal (lexed script) → IsRefusal script refusal
IsRefusal-lexed script (refusals.BadByte offset) e = fault-lexed script (refusals.BadByte offset) e
IsRefusal-lexed script (refusals.OpenText offset) e = fault-lexed script (refusals.OpenText offset) e
IsRefusal-lexed script (refusals.NumberRange offset) e = fault-lexed script (refusals.NumberRange offset) e
IsRefusal-lexed script refusals.NoMemory e = tt

-- a script has tokens or a fault
abbrev Decided : List ℕ → Type 0
Decided script = ((tokens : List Token) × IsLexed script tokens) ⊎ ((fault : LexRefusal) × IsFirstFault script fault)

pub decided : (script : List ℕ) → Decided script
decided script = by (lexed script) refl
  where
    by : (r : Lexed) → lexed script ≡ r → Decided script
    by (Ok tokens) e = inl (tokens, tokens-lexed script tokens e)
    by (Err fault) e = inr (fault, fault-lexed script fault e)

pub one_list : (script : List ℕ) (tokens others : List Token) → IsLexed script tokens → IsLexed script others → tokens ≡ others
one_list script tokens others h k = let e = sym (lexed-tokens script tokens h) ∙ lexed-tokens script others k in cc e

pub one_fault : (script : List ℕ) (fault other : LexRefusal) → IsFirstFault script fault → IsFirstFault script other → fault ≡ other
one_fault script fault other h k = let e = sym (lexed-fault script fault h) ∙ lexed-fault script other k in cc e

pub apart : (script : List ℕ) (tokens : List Token) (fault : LexRefusal) → IsLexed script tokens → IsFirstFault script fault → ⊥
apart script tokens fault h k = let e = sym (lexed-tokens script tokens h) ∙ lexed-fault script fault k in cc e

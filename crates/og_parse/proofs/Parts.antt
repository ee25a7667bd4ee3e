-- Scripts whose tokens are taken part by part.
use Rattle.std.proofs.Common.{◌≡◌, ◌⊎◌, inl, inr, ◌++◌, ◌+◌, ◌≤◌, ◌<◌, ℕ, suc, Bool, true, false, if◌then◌else◌, List, [], ◌∷◌, drop, length, refl, sym, ap, ◌∙◌, subst, append_assoc, append-nil, arith, length-append}
use Rattle.std.proofs.Math.Seq.{drop-length}
use Rattle.std.proofs.lemmas.List.{length-map, map-append}
use Rattle.og_lex.specs.Grammar.{IsLexed, Reads}
use Rattle.og_lex.specs.Endings.{EndsStatement}
use Rattle.og_lex.specs.declared.symbol.Symbol.TheVariants.{Semicolon}
use Rattle.og_lex.specs.declared.token.Token.{Token}
use Rattle.og_lex.specs.declared.token.TokenKind.TheVariants.{Sym}
use Rattle.og_lex.proofs.Parts.{reads_len, reads_on, refused_on, refused_first}
use Rattle.og_syntax.specs.declared.lexeme.Sort.TheVariants as k
use Rattle.og_syntax.specs.declared.lexeme.Lexeme.{Lexeme}
use Rattle.og_syntax.specs.declared.tree.Stmt.{Stmt}
use Rattle.og_syntax.specs.Lexemes.{same_sort}
use Rattle.og_parse.specs.declared.refusal.ParseRefusal.{ParseRefusal}
use Rattle.og_parse.specs.declared.refusal.ParseRefusal.TheVariants as faults
use Rattle.og_parse.specs.declared.refusal.ScriptRefusal.{ScriptRefusal}
use Rattle.og_parse.specs.declared.refusal.ScriptRefusal.TheVariants as r
use Rattle.og_parse.specs.Bytes.{IsRefusedAs, IsScriptRefusal}
use Rattle.og_parse.specs.Script.{glued, pieces, AreGood, HasFirstFault, IsFirstFault, OrNoMemory}
use Rattle.og_parse.specs.Tokens.{lexeme_by, lexeme_of, lexemes_of}
use Rattle.og_parse.proofs.Scripts.{Leads, leads_all, leads_first}

-- ---- pieces one after the other

good-append : (script : List ℕ) (ps qs : List (List Lexeme)) (xs ys : List Stmt) → AreGood script ps xs → AreGood script qs ys → AreGood script (ps ++ qs) (xs ++ ys)
good-append script [] qs [] ys h g = g
good-append script [] qs (x ∷ xs) ys h g = absurd h
good-append script (p ∷ ps) qs [] ys h g = absurd h
good-append script (p ∷ ps) qs (x ∷ xs) ys h g = (h.0, good-append script ps qs xs ys h.1 g)

-- a fault of the first pieces is one of all
fault-front : (script : List ℕ) (n : ℕ) (ps qs : List (List Lexeme)) (fault : ParseRefusal) → HasFirstFault script n ps fault → HasFirstFault script n (ps ++ qs) fault
fault-front script n [] qs fault h = absurd h
fault-front script n (p ∷ ps) qs fault (inl h) = inl h
fault-front script n (p ∷ ps) qs fault (inr h) = inr (h.0, h.1, fault-front script (suc n) ps qs fault h.2)

-- and one of pieces behind good ones
fault-behind : (script : List ℕ) (n : ℕ) (ps qs : List (List Lexeme)) (xs : List Stmt) (fault : ParseRefusal) → AreGood script ps xs → HasFirstFault script (n + length xs) qs fault → HasFirstFault script n (ps ++ qs) fault
fault-behind script n [] qs [] fault h g = subst (λ m. HasFirstFault script m qs fault) (omega arith) g
fault-behind script n [] qs (x ∷ xs) fault h g = absurd h
fault-behind script n (p ∷ ps) qs [] fault h g = absurd h
fault-behind script n (p ∷ ps) qs (x ∷ xs) fault h g =
    inr (x, h.0, fault-behind script (suc n) ps qs xs fault h.1 (subst (λ m. HasFirstFault script m qs fault) (omega arith) g))

-- there are as many statements as pieces, and no more than lexemes
good-len : (script : List ℕ) (ps : List (List Lexeme)) (xs : List Stmt) → AreGood script ps xs → length xs ≡ length ps
good-len script [] [] h = refl
good-len script [] (x ∷ xs) h = absurd h
good-len script (p ∷ ps) [] h = absurd h
good-len script (p ∷ ps) (x ∷ xs) h = ap suc (good-len script ps xs h.1)

glued-len : (t : Lexeme) (ps : List (List Lexeme)) → length (glued t ps) ≤ suc (length ps)
glued-len t [] = omega arith
glued-len t (p ∷ ps) = omega arith

pieces-len : (ts : List Lexeme) → length (pieces ts) ≤ length ts
pieces-len [] = omega arith
pieces-len (t ∷ ts) = by (pieces-len ts) (same_sort t.sort k.Semicolon)
  where
    by : length (pieces ts) ≤ length ts → (b : Bool) → length (if b then (t ∷ []) ∷ pieces ts else glued t (pieces ts)) ≤ suc (length ts)
    by few true = omega (arith, few)
    by few false = omega (arith, few, glued-len t (pieces ts))

-- ---- a part ends with a piece

-- a lexeme before pieces that are cut is one of the first of them
glued-append : (t : Lexeme) (ps qs : List (List Lexeme)) → 0 < length ps → glued t (ps ++ qs) ≡ glued t ps ++ qs
glued-append t [] qs some = absurd (omega (arith, some))
glued-append t (p ∷ ps) qs some = refl

some-pieces : (t : Lexeme) (ts : List Lexeme) → 0 < length (pieces (t ∷ ts))
some-pieces t ts = by (same_sort t.sort k.Semicolon)
  where
    glue : (ps : List (List Lexeme)) → 0 < length (glued t ps)
    glue [] = omega arith
    glue (p ∷ ps) = omega arith

    by : (b : Bool) → 0 < length (if b then (t ∷ []) ∷ pieces ts else glued t (pieces ts))
    by true = omega arith
    by false = glue (pieces ts)

some-before : (ts : List Lexeme) (last : Lexeme) → 0 < length (pieces (ts ++ last ∷ []))
some-before [] last = some-pieces last []
some-before (t ∷ ts) last = some-pieces t (ts ++ last ∷ [])

-- lexemes are cut after one that is a semicolon
cut-after : (before after : List Lexeme) (last : Lexeme) → same_sort last.sort k.Semicolon ≡ true → pieces ((before ++ last ∷ []) ++ after) ≡ pieces (before ++ last ∷ []) ++ pieces after
cut-after [] after last is =
    ap (λ b. if b then (last ∷ []) ∷ pieces after else glued last (pieces after)) is
    ∙ sym (ap (λ b. (if b then (last ∷ []) ∷ [] else glued last []) ++ pieces after) is)
cut-after (t ∷ ts) after last is = by (cut-after ts after last is) (same_sort t.sort k.Semicolon)
  where
    by : pieces ((ts ++ last ∷ []) ++ after) ≡ pieces (ts ++ last ∷ []) ++ pieces after → (b : Bool) → (if b then (t ∷ []) ∷ pieces ((ts ++ last ∷ []) ++ after) else glued t (pieces ((ts ++ last ∷ []) ++ after)))
        ≡ (if b then (t ∷ []) ∷ pieces (ts ++ last ∷ []) else glued t (pieces (ts ++ last ∷ []))) ++ pieces after
    by rest true = ap (λ ps. (t ∷ []) ∷ ps) rest
    by rest false = ap (glued t) rest ∙ glued-append t (pieces (ts ++ last ∷ [])) (pieces after) (some-before ts last)

-- the lexeme of a semicolon
semicolon-sort : (script : List ℕ) (token : Token) → token.kind ≡ Sym Semicolon → same_sort (lexeme_of script token).sort k.Semicolon ≡ true
unfolding lexeme_of same_sort
semicolon-sort script token e = ap (λ kind. same_sort (lexeme_by script token kind).sort k.Semicolon) e

-- tokens are cut after a part of them that ends with a semicolon, and where no others follow
pub cut-semicolon : (script : List ℕ) (tokens rest : List Token) → EndsStatement tokens → pieces (lexemes_of script (tokens ++ rest)) ≡ pieces (lexemes_of script tokens) ++ pieces (lexemes_of script rest)
cut-semicolon script tokens rest (before, last, e, is) =
    let front : lexemes_of script tokens ≡ lexemes_of script before ++ lexeme_of script last ∷ [] = ap (lexemes_of script) e ∙ map-append (lexeme_of script) before (last ∷ []) in
    ap pieces (map-append (lexeme_of script) tokens rest)
    ∙ (ap (λ ts. pieces (ts ++ lexemes_of script rest)) front
    ∙ (cut-after (lexemes_of script before) (lexemes_of script rest) (lexeme_of script last) (semicolon-sort script last is)
    ∙ sym (ap (λ ts. pieces ts ++ pieces (lexemes_of script rest)) front)))

nil-len : (tokens : List Token) → length tokens ≡ 0 → tokens ≡ []
nil-len [] e = refl
nil-len (t ∷ ts) e = absurd (omega (arith, e))

-- no token is read at the end
none-left : (script : List ℕ) (at : ℕ) (z : List ℕ) (rest : List Token) → at ≡ length script → Reads at z rest (length script) [] → rest ≡ []
none-left script at z rest e read = nil-len rest (omega (arith, e, reads_len read))

pub cut-part : (script : List ℕ) (tokens rest : List Token) (end : ℕ) → (end ≡ length script) ⊎ EndsStatement tokens → Reads end (drop end script) rest (length script) []
    → pieces (lexemes_of script (tokens ++ rest)) ≡ pieces (lexemes_of script tokens) ++ pieces (lexemes_of script rest)
cut-part script tokens rest end (inl e) read =
    subst (λ ts. pieces (lexemes_of script (tokens ++ ts)) ≡ pieces (lexemes_of script tokens) ++ pieces (lexemes_of script ts)) (sym (none-left script end (drop end script) rest e read))
    (ap (λ ts. pieces (lexemes_of script ts)) (append-nil tokens) ∙ sym (append-nil (pieces (lexemes_of script tokens))))
cut-part script tokens rest end (inr ends) read = cut-semicolon script tokens rest ends

-- ---- the loop over parts

-- what the statements so far say of a script whose tokens are these and then any others that it has
pub record IsBegun (script : List ℕ) (at : ℕ) (xs : List Stmt) : Type 0 where
  pub done : List Token
  pub read : Reads 0 script done at (drop at script)
  pub leads : (rest : List Token) → Reads at (drop at script) rest (length script) [] → Leads script 1 (pieces (lexemes_of script (done ++ rest))) xs (length xs + 1) (pieces (lexemes_of script rest))
  pub few : length xs ≤ at

-- at first nothing is read
pub begun : (script : List ℕ) → IsBegun script 0 []
begun script = record {
  done = [];
  read = Reads.stops 0 script;
  leads = λ rest read. leads_first script 1 (pieces (lexemes_of script rest));
  few = omega arith;
}

-- good pieces lead on
leads_many : (script : List ℕ) (first : ℕ) (all rest ps qs : List (List Lexeme)) (xs ys : List Stmt) (number : ℕ)
    → rest ≡ ps ++ qs → AreGood script ps ys → Leads script first all xs number rest → Leads script first all (xs ++ ys) (number + length ys) qs
leads_many script first all rest ps qs xs ys number e g l = record {
  good = λ zs h. subst (AreGood script all) (sym (append_assoc xs ys zs)) (l.good (ys ++ zs) (subst (λ p. AreGood script p (ys ++ zs)) (sym e) (good-append script ps qs ys zs g h)));
  faulty = λ fault h. l.faulty fault (subst (λ p. HasFirstFault script number p fault) (sym e) (fault-behind script number ps qs ys fault g h));
}

-- what the tokens of one more part lead to
leads_part : (script : List ℕ) (at end : ℕ) (xs : List Stmt) (tokens : List Token) (b : IsBegun script at xs)
    → Reads at (drop at script) tokens end (drop end script) → (end ≡ length script) ⊎ EndsStatement tokens
    → (rest : List Token) → Reads end (drop end script) rest (length script) []
    → Leads script 1 (pieces (lexemes_of script ((b.done ++ tokens) ++ rest))) xs (length xs + 1) (pieces (lexemes_of script tokens) ++ pieces (lexemes_of script rest))
leads_part script at end xs tokens b read ends rest next =
    subst (λ ts. Leads script 1 (pieces (lexemes_of script ts)) xs (length xs + 1) (pieces (lexemes_of script tokens) ++ pieces (lexemes_of script rest))) (sym (append_assoc b.done tokens rest))
    (subst (λ ps. Leads script 1 (pieces (lexemes_of script (b.done ++ (tokens ++ rest)))) xs (length xs + 1) ps) (cut-part script tokens rest end ends next) (b.leads (tokens ++ rest) (reads_on read next)))

-- one more part is good
pub one_more_part : (script : List ℕ) (at end : ℕ) (xs ys now : List Stmt) (tokens : List Token) → IsBegun script at xs
    → Reads at (drop at script) tokens end (drop end script) → (end ≡ length script) ⊎ EndsStatement tokens → AreGood script (pieces (lexemes_of script tokens)) ys → now ≡ xs ++ ys
    → IsBegun script end now
one_more_part script at end xs ys now tokens b read ends good e = subst (IsBegun script end) (sym e) (record {
  done = b.done ++ tokens;
  read = reads_on b.read read;
  leads = λ rest next. subst (λ n. Leads script 1 (pieces (lexemes_of script ((b.done ++ tokens) ++ rest))) (xs ++ ys) n (pieces (lexemes_of script rest))) number
      (leads_many script 1 _ _ (pieces (lexemes_of script tokens)) (pieces (lexemes_of script rest)) xs ys (length xs + 1) refl good (leads_part script at end xs tokens b read ends rest next));
  few = omega (arith, b.few, reads_len read, length-append xs ys, good-len script (pieces (lexemes_of script tokens)) ys good, pieces-len (lexemes_of script tokens), lexemes-len);
})
  where
    number : length xs + 1 + length ys ≡ length (xs ++ ys) + 1
    number = omega (arith, length-append xs ys)

    lexemes-len : length (lexemes_of script tokens) ≡ length tokens
    lexemes-len = length-map tokens (lexeme_of script)

-- all parts are read
pub all_parts : (script : List ℕ) (at : ℕ) (xs : List Stmt) → at ≡ length script → IsBegun script at xs
    → (tokens : List Token) × IsLexed script tokens × AreGood script (pieces (lexemes_of script tokens)) xs
all_parts script at xs e b =
    let nothing : drop at script ≡ [] = ap (λ n. drop n script) e ∙ drop-length script in
    let end : Reads at (drop at script) [] (length script) [] = subst (λ n. Reads at (drop at script) [] n []) e (subst (λ z. Reads at (drop at script) [] at z) nothing (Reads.stops at (drop at script))) in
    (b.done ++ [], reads_on b.read end, leads_all script 1 _ (pieces []) xs (length xs + 1) refl (b.leads [] end))

-- a part has a fault
faulty_part : (script : List ℕ) (at end : ℕ) (xs : List Stmt) (tokens : List Token) (fault : ParseRefusal) (b : IsBegun script at xs)
    → Reads at (drop at script) tokens end (drop end script) → (end ≡ length script) ⊎ EndsStatement tokens
    → (rest : List Token) → Reads end (drop end script) rest (length script) []
    → OrNoMemory (HasFirstFault script (length xs + 1) (pieces (lexemes_of script tokens))) fault → OrNoMemory (IsFirstFault script ((b.done ++ tokens) ++ rest)) fault
faulty_part script at end xs tokens (faults.TooDeep n) b read ends rest next h =
    (leads_part script at end xs tokens b read ends rest next).faulty (faults.TooDeep n) (fault-front script (length xs + 1) (pieces (lexemes_of script tokens)) (pieces (lexemes_of script rest)) (faults.TooDeep n) h)
faulty_part script at end xs tokens (faults.Syntax n) b read ends rest next h =
    (leads_part script at end xs tokens b read ends rest next).faulty (faults.Syntax n) (fault-front script (length xs + 1) (pieces (lexemes_of script tokens)) (pieces (lexemes_of script rest)) (faults.Syntax n) h)
faulty_part script at end xs tokens (faults.Literal n) b read ends rest next h =
    (leads_part script at end xs tokens b read ends rest next).faulty (faults.Literal n) (fault-front script (length xs + 1) (pieces (lexemes_of script tokens)) (pieces (lexemes_of script rest)) (faults.Literal n) h)
faulty_part script at end xs tokens faults.NoMemory b read ends rest next h = tt

-- what is told where a statement of a part has a fault
pub refused_part : (script : List ℕ) (at end : ℕ) (xs : List Stmt) (tokens : List Token) (fault : ParseRefusal) (refusal : ScriptRefusal) → IsBegun script at xs
    → Reads at (drop at script) tokens end (drop end script) → (end ≡ length script) ⊎ EndsStatement tokens
    → OrNoMemory (HasFirstFault script (length xs + 1) (pieces (lexemes_of script tokens))) fault → IsRefusedAs script end fault refusal → IsScriptRefusal script refusal
refused_part script at end xs tokens fault (r.Tokens lexical) b read ends h is =
    refused_first script lexical (refused_on 0 end script (drop end script) (b.done ++ tokens) lexical (reads_on b.read read) is)
refused_part script at end xs tokens fault (r.Statement other) b read ends h (same, rest, next) = (
  (b.done ++ tokens) ++ rest,
  reads_on (reads_on b.read read) next,
  faulty_part script at end xs tokens other b read ends rest next (subst (OrNoMemory (HasFirstFault script (length xs + 1) (pieces (lexemes_of script tokens)))) (sym same) h),
)
refused_part script at end xs tokens fault r.NoMemory b read ends h is = tt

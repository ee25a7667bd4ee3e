-- What is printed for a script is a script of the same statements.
use Rattle.std.proofs.Common.{◌≡◌, ◌+◌, ◌≤◌, ◌||◌, inl, inr, ℕ, suc, Bool, true, false, not, if◌then◌else◌, nat_lt, List, [], ◌∷◌, ◌++◌, length, map, refl, sym, ap, ◌∙◌, subst, append_assoc, arith}
use Rattle.std.specs.Bool.{⊤}
use Rattle.std.specs.Prelude.{IfOk, Result, Ok, Err}
use Rattle.std.proofs.lemmas.Bool.{le-ltb, ltb-false}
use Rattle.std.proofs.lemmas.List.{map-append}
use Rattle.og_lex.specs.Grammar.{Reads, IsLexed}
use Rattle.og_syntax.specs.declared.lexeme.Sort.{Sort}
use Rattle.og_syntax.specs.declared.lexeme.Sort.TheVariants as k
use Rattle.og_syntax.specs.declared.lexeme.Lexeme.{Lexeme}
use Rattle.og_syntax.specs.declared.tree.Stmt.{Stmt}
use Rattle.og_syntax.specs.Lexemes.{is, same_sort}
use Rattle.og_syntax.proofs.EverySort.{every_sort}
use Rattle.og_syntax.proofs.Exact.{implies, so, not_true, same_self}
use Rattle.og_parse.specs.Depth.{opened_after, is_nested, count_of, is_set_word, is_too_deep}
use Rattle.og_parse.specs.Statements.{IsBody, IsStatement}
use Rattle.og_parse.specs.Script.{glued, pieces, IsGood, AreGood}
use Rattle.og_parse.specs.Tokens.{lexemes_of}
use Rattle.og_print.specs.Words.{Word, Plain, word_sort, each}
use Rattle.og_print.specs.Statements.{body_words, stmt_words, script_text}
use Rattle.og_print.specs.Printed.{IsTextOf, IsPrintable, IsPrinted}
use Rattle.og_print.proofs.Spelling.{is_inner, IsWell, AreWell, SpellAll, AreProper}
use Rattle.og_print.proofs.Depths.{sorts_of, nests, number_of, IsNoDeeper}
use Rattle.og_print.proofs.Nesting.{not_first, not_second, neither, no_deeper-same, no_deeper-append}
use Rattle.og_print.proofs.Reprints.{halves, one_spelled, spelled-sort, spelled-sorts}
use Rattle.og_print.proofs.StatementReprints.{again-body}
use Rattle.og_print.proofs.Forms.{laid_out}
use Rattle.og_print.proofs.PrintedTokens.{text_of, with_words-is, tokens_from, AllCome, words_read, words_spelled, proper-reads}

-- ---- depths

-- lexemes nest as their sorts do
nested_sorts : (n : ℕ) (ts : List Lexeme) → is_nested n ts ≡ nests n (sorts_of ts)
nested_sorts n [] = refl
nested_sorts n (t ∷ ts) = ap (λ b. nat_lt 100 (opened_after n t.sort) || b) (nested_sorts (opened_after n t.sort) ts)

-- lexemes are counted as their sorts are
counted_sorts : (h : Sort → Bool) (ts : List Lexeme) → count_of h ts ≡ number_of h (sorts_of ts)
counted_sorts h [] = refl
counted_sorts h (t ∷ ts) = ap (λ n. if h t.sort then suc n else n) (counted_sorts h ts)

-- no more than what is at most 100
no_more : (h : Sort → Bool) (ts us : List Lexeme) → number_of h (sorts_of us) ≤ number_of h (sorts_of ts) → nat_lt 100 (count_of h ts) ≡ false → nat_lt 100 (count_of h us) ≡ false
no_more h ts us le e = le-ltb 100 (count_of h us) (omega (arith, le, ltb-false 100 (count_of h ts) e, counted_sorts h ts, counted_sorts h us))

-- what nests no deeper is not too deep
not_deeper : (ts us : List Lexeme) → IsNoDeeper (sorts_of ts) (sorts_of us) → is_too_deep ts ≡ false → is_too_deep us ≡ false
unfolding is_too_deep
not_deeper ts us A e =
    let first = not_first (is_nested 0 ts || nat_lt 100 (count_of (is k.Not) ts)) (nat_lt 100 (count_of is_set_word ts)) e in
    let nested : nests 0 (sorts_of us) ≡ false = A.nested 0 0 (omega arith) (omega arith) (sym (nested_sorts 0 ts) ∙ not_first (is_nested 0 ts) (nat_lt 100 (count_of (is k.Not) ts)) first) in
    neither (is_nested 0 us || nat_lt 100 (count_of (is k.Not) us)) (nat_lt 100 (count_of is_set_word us))
    (neither (is_nested 0 us) (nat_lt 100 (count_of (is k.Not) us)) (nested_sorts 0 us ∙ nested)
    (no_more (is k.Not) ts us A.nots (not_second (is_nested 0 ts) (nat_lt 100 (count_of (is k.Not) ts)) first)))
    (no_more is_set_word ts us A.set_words (not_second (is_nested 0 ts || nat_lt 100 (count_of (is k.Not) ts)) (nat_lt 100 (count_of is_set_word ts)) e))

-- ---- pieces

-- no word of a statement is a semicolon
no_semicolon : (w : Word) → IsWell w → same_sort (word_sort w) k.Semicolon ≡ false
unfolding same_sort
no_semicolon (Word.Plain a) h = not_true (is k.Semicolon a) (so (is_inner a) (not (is k.Semicolon a)) (every_sort (λ a. implies (is_inner a) (not (is k.Semicolon a))) refl a) h)
no_semicolon (Word.Named name) h = refl
no_semicolon (Word.Whole n) h = refl
no_semicolon (Word.Quoted z) h = refl

-- a piece ends at its semicolon
piece_cut : (script : List ℕ) (seg : List Lexeme) (ws : List Word) (t : Lexeme) (more : List Lexeme) → SpellAll script seg ws → AreWell ws → t.sort ≡ k.Semicolon → pieces (seg ++ t ∷ more) ≡ (seg ++ t ∷ []) ∷ pieces more
piece_cut script [] ws t more sp well e = ap (λ b. if b then (t ∷ []) ∷ pieces more else glued t (pieces more)) (ap (λ a. same_sort a k.Semicolon) e ∙ same_self k.Semicolon)
piece_cut script (u ∷ us) [] t more sp well e = absurd sp
piece_cut script (u ∷ us) (w ∷ ws) t more sp well e =
    let other : same_sort u.sort k.Semicolon ≡ false = ap (λ a. same_sort a k.Semicolon) (spelled-sort script u w sp.0) ∙ no_semicolon w well.0 in
    ap (λ b. if b then (u ∷ []) ∷ pieces (us ++ t ∷ more) else glued u (pieces (us ++ t ∷ more))) other ∙ ap (glued u) (piece_cut script us ws t more sp.1 well.1 e)

-- the lexemes of each piece are proper
abbrev AllProper : List ℕ → List (List Lexeme) → Type 0
AllProper script [] = ⊤
AllProper script (p ∷ ps) = AreProper script p × AllProper script ps

-- pieces with one more lexeme
glued_proper : (script : List ℕ) (t : Lexeme) (ps : List (List Lexeme)) → AreProper script (t ∷ []) → AllProper script ps → AllProper script (glued t ps)
glued_proper script t [] h j = (h, tt)
glued_proper script t (p ∷ ps) h j = ((h.0, j.0), j.1)

-- the pieces of proper lexemes
pieces_proper : (script : List ℕ) (ts : List Lexeme) → AreProper script ts → AllProper script (pieces ts)
pieces_proper script [] h = tt
pieces_proper script (t ∷ ts) h = go (same_sort t.sort k.Semicolon) (pieces_proper script ts h.1)
  where
    go : (b : Bool) → AllProper script (pieces ts) → AllProper script (if b then (t ∷ []) ∷ pieces ts else glued t (pieces ts))
    go true j = ((h.0, tt), j)
    go false j = glued_proper script t (pieces ts) (h.0, tt) j

-- ---- statements

-- a printed statement: its words are well, and lexemes that spell them and then a semicolon are the statement, and not too deep
record IsAgain (printed : List ℕ) (x : Stmt) : Type 0 where
  pub well : AreWell (body_words x)
  pub good : (seg : List Lexeme) (t : Lexeme) → SpellAll printed seg (body_words x) → t.sort ≡ k.Semicolon → IsGood printed (seg ++ t ∷ []) x

-- a statement that was read is a statement again
stmt_again : (script printed : List ℕ) (p : List Lexeme) (x : Stmt) → AreProper script p → IsGood script p x → IsAgain printed x
unfolding IsStatement
stmt_again script printed p x proper h =
    let s = h.1 in
    let last = s.3 in
    let body = subst (λ y. IsBody script true p y s.1) (sym last.3.0) s.2 in
    let a = (again-body script printed).redo p x s.1 proper body in
    let end = last.2 in
    let whole : p ≡ a.front ++ end.0 ∷ [] = a.split ∙ ap (λ m. a.front ++ m) (end.1 ∙ ap (λ r. end.0 ∷ r) (sym last.3.1)) in
    let first : sorts_of p ≡ sorts_of a.front ++ k.Semicolon ∷ [] = ap sorts_of whole ∙ map-append (λ t. t.sort) a.front (end.0 ∷ []) ∙ ap (λ b. sorts_of a.front ++ b ∷ []) end.2 in
    record {
      well = subst AreWell (sym a.words) a.well;
      good = λ seg t sp e.
          let spelled : SpellAll printed seg a.vs = subst (SpellAll printed seg) a.words sp in
          let second : sorts_of (seg ++ t ∷ []) ≡ map word_sort a.vs ++ k.Semicolon ∷ [] =
          map-append (λ t. t.sort) seg (t ∷ []) ∙ ap (λ b. sorts_of seg ++ b ∷ []) e ∙ ap (λ z. z ++ k.Semicolon ∷ []) (spelled-sorts printed seg a.vs spelled) in
          let deeper : IsNoDeeper (sorts_of p) (sorts_of (seg ++ t ∷ [])) =
          subst (λ z. IsNoDeeper z (sorts_of (seg ++ t ∷ []))) (sym first) (subst (λ z. IsNoDeeper (sorts_of a.front ++ k.Semicolon ∷ []) z) (sym second) (no_deeper-append a.no_deeper (no_deeper-same k.Semicolon (λ n. refl)))) in (
            not_deeper p (seg ++ t ∷ []) deeper h.0,
            (x, t ∷ [], a.again (suc (length seg)) seg (t ∷ []) (omega arith) (omega arith) spelled, (tt, [], (t, refl, e), (refl, refl))),
          );
    }

-- ---- scripts

-- words of a statement are words of a script
come-append : (us vs : List Word) → AreWell us → AllCome vs → AllCome (us ++ vs)
come-append [] vs h j = j
come-append (w ∷ us) vs h j = (inl h.0, come-append us vs h.1 j)

-- the words of a statement and of those after it
stmt_first : (x : Stmt) (xs : List Stmt) → each stmt_words (x ∷ xs) ≡ body_words x ++ (Plain k.Semicolon ∷ each stmt_words xs)
stmt_first x xs = append_assoc (body_words x) (Plain k.Semicolon ∷ []) (each stmt_words xs)

-- printed statements: their words come, and lexemes that spell them are the statements
record AreAgain (printed : List ℕ) (xs : List Stmt) : Type 0 where
  pub come : AllCome (each stmt_words xs)
  pub good : (seg : List Lexeme) → SpellAll printed seg (each stmt_words xs) → AreGood printed (pieces seg) xs

-- no lexemes have no pieces
none_good : (printed : List ℕ) (seg : List Lexeme) → SpellAll printed seg [] → AreGood printed (pieces seg) []
none_good printed [] h = tt
none_good printed (t ∷ ts) h = absurd h

-- statements that were read are statements again
script_again : (script printed : List ℕ) (ps : List (List Lexeme)) (xs : List Stmt) → AllProper script ps → AreGood script ps xs → AreAgain printed xs
script_again script printed [] [] proper h = record { come = tt; good = none_good printed }
script_again script printed [] (x ∷ xs) proper h = absurd h
script_again script printed (p ∷ ps) [] proper h = absurd h
script_again script printed (p ∷ ps) (x ∷ xs) proper h =
    let one = stmt_again script printed p x proper.0 h.0 in
    let more = script_again script printed ps xs proper.1 h.1 in
    record {
      come = subst AllCome (sym (stmt_first x xs)) (come-append (body_words x) (Plain k.Semicolon ∷ each stmt_words xs) one.well (inr refl, more.come));
      good = λ seg sp.
          let cut = halves printed seg (body_words x) (Plain k.Semicolon ∷ each stmt_words xs) (subst (SpellAll printed seg) (stmt_first x xs) sp) in
          let end = halves printed cut.second (Plain k.Semicolon ∷ []) (each stmt_words xs) cut.right in
          let o = one_spelled printed end.first (Plain k.Semicolon) end.left in
          let whole : seg ≡ cut.first ++ o.lexeme ∷ end.second = cut.whole ∙ ap (λ z. cut.first ++ z) (end.whole ∙ ap (λ z. z ++ end.second) o.whole) in
          let parts : pieces seg ≡ (cut.first ++ o.lexeme ∷ []) ∷ pieces end.second = ap pieces whole ∙ piece_cut printed cut.first (body_words x) o.lexeme end.second cut.left one.well o.spells in
          subst (λ ps. AreGood printed ps (x ∷ xs)) (sym parts) (one.good cut.first o.lexeme cut.left o.spells, more.good end.second end.right);
    }

-- the bytes of words are lexed as these words
words_lexed : (ws : List Word) → AllCome ws → IsLexed (text_of ws) (tokens_from 0 ws)
words_lexed ws h = subst (λ end. Reads 0 (text_of ws) (tokens_from 0 ws) end []) (start (text_of ws)) (words_read 0 ws h)
  where
    start : (z : List ℕ) → 0 + length z ≡ length z
    start z = omega arith

-- the words of statements that were read are statements again
printed_again : (xs : List Stmt) → IsPrintable xs → AreAgain (text_of (each stmt_words xs)) xs
printed_again xs h =
    let script = h.0 in
    let lexemes = lexemes_of script h.1.0 in
    script_again script (text_of (each stmt_words xs)) (pieces lexemes) xs (pieces_proper script lexemes (proper-reads script [] refl refl h.1.1)) h.1.2

-- what is printed for a script is a script of the same statements
pub script_read : (xs : List Stmt) → IsPrintable xs → IsTextOf (script_text xs) xs
script_read xs h =
    let words = each stmt_words xs in
    let printed = text_of words in
    let a = printed_again xs h in
    subst (λ z. IsTextOf z xs) (sym (with_words-is [] words))
    (tokens_from 0 words, words_lexed words a.come, a.good (lexemes_of printed (tokens_from 0 words)) (words_spelled printed [] words refl a.come))

-- what is printed for a script has the one form
pub script_printed : (xs : List Stmt) → IsPrintable xs → IsPrinted (script_text xs)
script_printed xs h =
    let words = each stmt_words xs in
    let a = printed_again xs h in
    subst IsPrinted (sym (with_words-is [] words)) (tokens_from 0 words, words_lexed words a.come, laid_out (text_of words) [] words refl a.come)

-- the same of a result
pub if_ok_more : {T E : Type 0} (r : Result T E) (P Q : T → Type 0) → ((x : T) → P x → Q x) → IfOk r P → IfOk r Q
if_ok_more (Ok x) P Q more h = more x h
if_ok_more (Err e) P Q more h = h

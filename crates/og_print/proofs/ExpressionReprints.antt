-- Names, literals and expressions are by their rules again when they are printed.
use Rattle.std.proofs.Common.{◌≡◌, ◌<◌, inl, inr, ℕ, zero, suc, true, false, List, [], ◌∷◌, ◌++◌, length, nat_lt, Option, Some, None, refl, sym, ap, ◌∙◌, subst, append-nil, arith}
use Rattle.std.specs.Str.{IsUtf8}
use Rattle.og_value.specs.Words.{is_word, folded}
use Rattle.og_value.specs.declared.value.Value.{Value}
use Rattle.og_value.specs.declared.value.Value.TheVariants as v
use Rattle.og_value.specs.declared.term.Func.{Func}
use Rattle.og_value.specs.declared.term.Func.TheVariants as func
use Rattle.og_syntax.specs.declared.lexeme.Sort.{Sort}
use Rattle.og_syntax.specs.declared.lexeme.Sort.TheVariants as k
use Rattle.og_syntax.specs.declared.lexeme.Lexeme.{Lexeme}
use Rattle.og_syntax.specs.declared.tree.ExprText.{ExprText}
use Rattle.og_syntax.specs.declared.tree.ExprText.TheVariants as e
use Rattle.og_syntax.specs.Clauses.{column_of}
use Rattle.og_syntax.specs.Lexemes.{is, same_sort}
use Rattle.og_syntax.specs.Meanings.{func_of_two, func_of_one}
use Rattle.og_syntax.specs.Rules.{Rule, ◌or◌, Given, Never, Tok, One, Worded, Optional, Past, Pair, Single}
use Rattle.og_syntax.specs.Rules as rules_
use Rattle.og_syntax.specs.Spans.{spelling, IsDayValue, IsPointValue, IsPeriodValue}
use Rattle.og_syntax.specs.Grammar.{IsName, IsQuoted, IsText, IsDayLit, IsPointLit, IsPeriodLit, IsLit, IsColumn, IsExprIn, IsExpr}
use Rattle.og_parse.specs.Depth.{opened_after, is_set_word}
use Rattle.og_syntax.specs.Words.{sort_of_word}
use Rattle.og_print.specs.Words.{Word, Plain, Named, Whole, Quoted, enclosed}
use Rattle.og_print.specs.Expressions.{lit_words, func_sort, expr_words}
use Rattle.og_print.proofs.Spelling.{SpellAll, AreProper, IsProper, is_inner}
use Rattle.og_print.proofs.Depths.{number_of, IsNoDeeper}
use Rattle.og_value.proofs.WordLemmas.{folded-word, folded-folded}
use Rattle.og_print.proofs.Names.{folded-sort}
use Rattle.og_print.proofs.Nesting.{low, neither, no_deeper-same}
use Rattle.og_print.proofs.TextsAgain.{fixed_again, point_again, period_again}
use Rattle.og_print.proofs.TreeWords.{expr_words-Column, expr_words-Lit, expr_words-Call}
use Rattle.og_print.proofs.Reprints.{Part, Reprints, one_spelled, two_spelled, recast, again-pure, again-bind, again-under, again-map, again-or, again-counted, again-optional, again-past, again-tok, again-worded, again-single, again-pair, below}

-- ---- names, numbers and texts

-- a name
pub again-name : (script printed : List ℕ) → Reprints script printed (IsName script) (λ d. IsName printed) (λ n. Named n ∷ []) []
unfolding IsName
again-name script printed = record {
  redo = λ ts x rest p h.
      let t = h.0 in
      let word : is_word (spelling script t) ≡ true = h.3.0.0 in
      let is : x ≡ folded (spelling script t) = h.3.0.1 in
      let proper : IsProper script t = (subst (AreProper script) h.2.0 p).0 in
      record {
        front = t ∷ [];
        split = h.2.0 ∙ ap (λ m. t ∷ m) (sym h.3.1);
        vs = Named x ∷ [];
        words = refl;
        well = (
          (
            ap is_word is ∙ folded-word (spelling script t) word,
            ap folded is ∙ folded-folded (spelling script t) ∙ sym is,
            ap sort_of_word is ∙ folded-sort (spelling script t) ∙ proper.name h.2.1,
          ),
          tt,
        );
        no_deeper = subst (λ a. IsNoDeeper (a ∷ []) (k.Name ∷ [])) (sym h.2.1) (no_deeper-same k.Name (λ n. refl));
        again = λ d seg tail short some sp.
            let o = one_spelled printed seg (Named x) sp in (o.lexeme, tail, (ap (λ s. s ++ tail) o.whole, o.spells.0), (o.spells.1, refl));
      };
}

-- the rule of a number
abbrev IsInt : Rule Value
IsInt = rules_.Bind (One k.Number) (λ t. rules_.pure (v.Int t.number))

-- a number
again-number : (script printed : List ℕ) → Reprints script printed IsInt (λ d. IsInt) lit_words []
again-number script printed = record {
  redo = λ ts x rest p h.
      let t = h.0 in
      let proper : IsProper script t = (subst (AreProper script) h.2.0 p).0 in
      record {
        front = t ∷ [];
        split = h.2.0 ∙ ap (λ m. t ∷ m) (sym h.3.1);
        vs = Whole t.number ∷ [];
        words = ap lit_words h.3.0;
        well = (proper.number h.2.1, tt);
        no_deeper = subst (λ a. IsNoDeeper (a ∷ []) (k.Number ∷ [])) (sym h.2.1) (no_deeper-same k.Number (λ n. refl));
        again = λ d seg tail short some sp.
            let o = one_spelled printed seg (Whole t.number) sp in (o.lexeme, tail, (ap (λ s. s ++ tail) o.whole, o.spells.0), (h.3.0 ∙ ap v.Int (sym o.spells.1), refl));
      };
}

-- a text
pub again-text : (script printed : List ℕ) → Reprints script printed (IsText script) (λ d. IsText printed) (λ z. Quoted z ∷ []) []
unfolding IsText IsQuoted
again-text script printed = record {
  redo = λ ts x rest p h.
      let q = h.2 in
      let t = q.0 in
      record {
        front = t ∷ [];
        split = q.2.0 ∙ ap (λ m. t ∷ m) (sym (h.3.1 ∙ q.3.1));
        vs = Quoted x ∷ [];
        words = refl;
        well = (subst IsUtf8 (sym h.3.0.1) h.3.0.0, tt);
        no_deeper = subst (λ a. IsNoDeeper (a ∷ []) (k.Quoted ∷ [])) (sym q.2.1) (no_deeper-same k.Quoted (λ n. refl));
        again = λ d seg tail short some sp.
            let o = one_spelled printed seg (Quoted x) sp in
            (x, tail, (o.lexeme, tail, (ap (λ s. s ++ tail) o.whole, o.spells.0), (o.spells.1, refl)), ((subst IsUtf8 (sym h.3.0.1) h.3.0.0, refl), refl));
      };
}

-- a word and a text of this property
abbrev pub IsMarked : {A : Type 0} → List ℕ → Sort → (List ℕ → A → Type 0) → Rule A
IsMarked script sort R = rules_.Bind (Tok sort) (λ _. rules_.Bind (IsQuoted script) (λ z. Given (R z)))

-- a word and a text, which are printed as a word and the same text
pub again-marked : {A : Type 0} (script printed : List ℕ) (first second : Sort) (R R' : List ℕ → A → Type 0) (w : A → List Word) → is_inner second ≡ true
    → IsNoDeeper (first ∷ k.Quoted ∷ []) (second ∷ k.Quoted ∷ []) → ((z : List ℕ) (x : A) → R z x → (w x ≡ Plain second ∷ Quoted z ∷ []) × R' z x)
    → Reprints script printed (IsMarked script first R) (λ d. IsMarked printed second R') w []
unfolding IsQuoted
again-marked script printed first second R R' w inner flat same = record {
  redo = λ ts x rest p h.
      let o = h.2 in
      let z = h.3.0 in
      let q = h.3.2 in
      let t = q.0 in
      let behind : AreProper script h.1 = (subst (AreProper script) o.1 p).1 in
      let proper : IsProper script t = (subst (AreProper script) q.2.0 behind).0 in
      let both = same z x h.3.3.0 in
      record {
        front = o.0 ∷ t ∷ [];
        split = o.1 ∙ ap (λ m. o.0 ∷ m) (q.2.0 ∙ ap (λ m. t ∷ m) (sym (h.3.3.1 ∙ q.3.1)));
        vs = Plain second ∷ Quoted z ∷ [];
        words = both.0;
        well = (inner, (proper.text z q.2.1 q.3.0, tt));
        no_deeper = subst (λ a. IsNoDeeper (a ∷ t.sort ∷ []) (second ∷ k.Quoted ∷ [])) (sym o.2) (subst (λ a. IsNoDeeper (first ∷ a ∷ []) (second ∷ k.Quoted ∷ [])) (sym q.2.1) flat);
        again = λ d seg tail short some sp.
            let s = two_spelled printed seg (Plain second) (Quoted z) sp in
            (tt, s.second ∷ tail, (s.first, ap (λ s. s ++ tail) s.whole, s.left), (z, tail, (s.second, tail, (refl, s.right.0), (s.right.1, refl)), (both.1, refl)));
      };
}

-- two sorts that nest nothing, in place of two others
pub flat_pair : (first second : Sort) → ((n : ℕ) → opened_after n first ≡ n) → ((n : ℕ) → opened_after n second ≡ n)
    → number_of (is k.Not) (second ∷ k.Quoted ∷ []) ≡ 0 → number_of is_set_word (second ∷ k.Quoted ∷ []) ≡ 0 → IsNoDeeper (first ∷ k.Quoted ∷ []) (second ∷ k.Quoted ∷ [])
flat_pair first second a b nots words = record {
  first_closed = a;
  second_closed = b;
  nested = λ m n le most h.
      neither (nat_lt 100 (opened_after m second)) _ (ap (nat_lt 100) (b m) ∙ low m n le most)
      (neither (nat_lt 100 (opened_after m second)) false (ap (nat_lt 100) (b m) ∙ low m n le most) refl);
  nots = omega (arith, nots);
  set_words = omega (arith, words);
}

-- ---- literals

-- a literal
lit_part : (script printed : List ℕ) (ts : List Lexeme) (x : Value) (rest : List Lexeme) → AreProper script ts → IsLit script true ts x rest → Part printed (λ d. IsLit printed true) lit_words [] ts x rest
unfolding IsLit IsDayLit IsPointLit IsPeriodLit same_sort
lit_part script printed ts x rest p (inl h) = recast (λ d ts rest h. inl h) ((again-number script printed).redo ts x rest p h)
lit_part script printed ts x rest p (inr (inl h)) = recast (λ d ts rest h. inr (inl h)) ((again-map {w = lit_words} v.Text (λ z. refl) (again-text script printed)).redo ts x rest p h)
lit_part script printed ts x rest p (inr (inr (inl h))) =
    recast (λ d ts rest h. inr (inr (inr (inl h))))
    ((again-marked script printed k.Date k.Ongoing IsDayValue IsPointValue lit_words refl (flat_pair k.Date k.Ongoing (λ n. refl) (λ n. refl) refl refl)
    (λ z x r. (ap lit_words r.2 ∙ ap (λ y. Plain k.Ongoing ∷ Quoted y ∷ []) (sym (fixed_again z r.0 r.1)), (record { low = r.0; high = r.0 }, inl (r.1, refl), r.2)))).redo
    ts x rest p h)
lit_part script printed ts x rest p (inr (inr (inr (inl h)))) =
    recast (λ d ts rest h. inr (inr (inr (inl h))))
    ((again-marked script printed k.Ongoing k.Ongoing IsPointValue IsPointValue lit_words refl (flat_pair k.Ongoing k.Ongoing (λ n. refl) (λ n. refl) refl refl)
    (λ z x r. (ap lit_words r.2 ∙ ap (λ y. Plain k.Ongoing ∷ Quoted y ∷ []) (sym (point_again z r.0 r.1)), r))).redo
    ts x rest p h)
lit_part script printed ts x rest p (inr (inr (inr (inr h)))) =
    recast (λ d ts rest h. inr (inr (inr (inr h))))
    ((again-marked script printed k.Period k.Period IsPeriodValue IsPeriodValue lit_words refl (flat_pair k.Period k.Period (λ n. refl) (λ n. refl) refl refl)
    (λ z x r. (ap lit_words r.2 ∙ ap (λ y. Plain k.Period ∷ Quoted y ∷ []) (sym (period_again z r.0 r.1)), r))).redo
    ts x rest p h)

-- a literal
pub again-lit : (script printed : List ℕ) → Reprints script printed (IsLit script true) (λ d. IsLit printed true) lit_words []
again-lit script printed = record { redo = lit_part script printed }

-- ---- expressions

-- a dot and a name, or nothing
abbrev dotted : Option (List ℕ) → List Word
dotted (Some name) = Plain k.Dot ∷ Named name ∷ []
dotted None = []

-- the words of a column
column_of-words : (x : List ℕ) (y : Option (List ℕ)) → expr_words (column_of x y) ≡ Named x ∷ dotted y
column_of-words x (Some y) = expr_words-Column (Some x) y
column_of-words x None = expr_words-Column None x

-- a column
pub again-column : (script printed : List ℕ) → Reprints script printed (IsColumn script) (λ d. IsColumn printed) expr_words []
unfolding IsColumn
again-column script printed =
    again-bind (again-name script printed) (λ x. again-bind (again-optional {w = dotted} (λ z. refl) refl (again-past k.Dot refl (λ n. refl) (again-name script printed))) (λ y. again-pure (column_of-words x y)))

-- the word of a function is no parenthesis
flat-func : (f : Func) (n : ℕ) → opened_after n (func_sort f) ≡ n
flat-func func.Least n = refl
flat-func func.Greatest n = refl
flat-func func.Common n = refl
flat-func func.Start n = refl
flat-func func.End n = refl
flat-func func.Period n = refl

-- a call with two expressions
call_of_two : (f : Func) (x y : ExprText) → expr_words (e.Call f (x ∷ y ∷ [])) ≡ Plain (func_sort f) ∷ enclosed (expr_words x ++ Plain k.Comma ∷ expr_words y)
call_of_two f x y = expr_words-Call f (x ∷ y ∷ []) ∙ ap (λ z. Plain (func_sort f) ∷ enclosed (expr_words x ++ z)) (append-nil (Plain k.Comma ∷ expr_words y))

-- a call with one expression
call_of_one : (f : Func) (x : ExprText) → expr_words (e.Call f (x ∷ [])) ≡ Plain (func_sort f) ∷ enclosed (expr_words x)
call_of_one f x = expr_words-Call f (x ∷ []) ∙ ap (λ z. Plain (func_sort f) ∷ enclosed z) (append-nil (expr_words x))

-- what is by a rule one level deeper is by the rule at any level that has room
pub deeper : {A : Type 0} (printed : List ℕ) (P : ℕ → Rule A) (x : A) (vs : List Word)
    → ((d : ℕ) (seg tail : List Lexeme) → length seg < d → 0 < length tail → SpellAll printed seg vs → P (suc (below d)) (seg ++ tail) x tail)
    → (d : ℕ) (seg tail : List Lexeme) → length seg < d → 0 < length tail → SpellAll printed seg vs → P d (seg ++ tail) x tail
deeper printed P x vs again zero seg tail short some sp = absurd (omega (arith, short))
deeper printed P x vs again (suc d) seg tail short some sp = again (suc d) seg tail short some sp

-- a rule that goes one level deeper
pub again-deeper : {A : Type 0} {script printed : List ℕ} {P : Rule A} {P' : ℕ → Rule A} {w : A → List Word} {us : List Word}
    → Reprints script printed P (λ d. P' (suc (below d))) w us → Reprints script printed P P' w us
again-deeper {A} {script} {printed} {P} {P'} {w} {us} E = record {
  redo = λ ts x rest p h.
      let a = E.redo ts x rest p h in
      record { front = a.front; split = a.split; vs = a.vs; words = a.words; well = a.well; no_deeper = a.no_deeper; again = deeper printed P' x a.vs a.again };
}

-- no rule
pub again-never : {A : Type 0} {script printed : List ℕ} {P' : ℕ → Rule A} {w : A → List Word} {us : List Word} → Reprints script printed Never P' w us
again-never = record { redo = λ ts x rest p h. absurd h }

-- an expression, nested no deeper than the number
pub again-expr_in : (script printed : List ℕ) (d : ℕ) → Reprints script printed (IsExprIn script true d) (IsExprIn printed true) expr_words []
unfolding IsExprIn same_sort
again-expr_in script printed zero = again-never
again-expr_in script printed (suc d) =
    again-deeper
    (again-or (again-column script printed)
    (again-or (again-under (λ f. refl) (again-worded func_of_two func_sort refl flat-func) (λ f. again-map {w = expr_words} (λ xs. e.Call f (xs.0 ∷ xs.1 ∷ [])) (λ xs. call_of_two f xs.0 xs.1) (again-pair (again-expr_in script printed d))))
    (again-or (again-under (λ f. refl) (again-worded func_of_one func_sort refl flat-func) (λ f. again-map {w = expr_words} (λ x. e.Call f (x ∷ [])) (λ x. call_of_one f x) (again-single (again-expr_in script printed d))))
    (again-or (again-under (λ _. refl) (again-tok k.Period refl (λ n. refl)) (λ _. again-map {w = expr_words} (λ xs. e.Call func.Period (xs.0 ∷ xs.1 ∷ [])) (λ xs. call_of_two func.Period xs.0 xs.1) (again-pair (again-expr_in script printed d))))
    (again-map {w = expr_words} e.Lit expr_words-Lit (again-lit script printed))))))

-- an expression
pub again-expr : (script printed : List ℕ) → Reprints script printed (IsExpr script true) (λ d. IsExpr printed true) expr_words []
unfolding IsExpr
again-expr script printed = again-counted (again-expr_in script printed)

-- Conditions are by their rules again when they are printed.
use Rattle.std.proofs.Common.{◌≡◌, ◌⊎◌, ◌+◌, inl, inr, ℕ, zero, suc, true, List, [], ◌∷◌, ◌++◌, length, map, refl, sym, ap, ◌∙◌, subst, append_assoc, length-append, arith}
use Rattle.og_value.specs.declared.term.Cmp.{Cmp}
use Rattle.og_value.specs.declared.term.Cmp.TheVariants as cmp
use Rattle.og_value.specs.declared.term.Pred.{Pred}
use Rattle.og_value.specs.declared.term.Pred.TheVariants as pred
use Rattle.og_syntax.specs.declared.lexeme.Sort.TheVariants as k
use Rattle.og_syntax.specs.declared.lexeme.Lexeme.{Lexeme}
use Rattle.og_syntax.specs.declared.tree.ExprText.{ExprText}
use Rattle.og_syntax.specs.declared.tree.CondText.{CondText}
use Rattle.og_syntax.specs.declared.tree.CondText.TheVariants as c
use Rattle.og_syntax.specs.Clauses.{all_of, any_of}
use Rattle.og_syntax.specs.Lexemes.{same_sort}
use Rattle.og_syntax.specs.Meanings.{comparison_of, predicate_of}
use Rattle.og_syntax.specs.Rules.{Rule, ◌or◌, Tok, Many, Joined, Past, Single, Pair}
use Rattle.og_syntax.specs.Rules as rules_
use Rattle.og_syntax.specs.Grammar.{IsExpr, IsConjOf, IsCondOf, IsCompare, IsRelate, IsRelation, IsAtomOf, IsNegIn, IsCond}
use Rattle.og_parse.specs.Depth.{opened_after}
use Rattle.og_print.specs.declared.conditions.Place.TheVariants as place
use Rattle.og_print.specs.Words.{Word, Plain, word_sort, enclosed}
use Rattle.og_print.specs.Expressions.{expr_words}
use Rattle.og_print.specs.Conditions.{cmp_sort, pred_sort, cond_words, parts_words}
use Rattle.og_print.proofs.Spelling.{AreProper}
use Rattle.og_print.proofs.Depths.{sorts_of, IsNoDeeper}
use Rattle.og_print.proofs.Nesting.{round, no_deeper-round, no_deeper-bare}
use Rattle.og_print.proofs.TreeWords.{cond_words-And, cond_words-Or, cond_words-Not, cond_words-Compare, cond_words-Relate, cond_words-Empty, cond_words-Contains}
use Rattle.og_print.proofs.Reprints.{Part, Reprints, outer, below, again-pure, again-bind, again-under, again-map, again-or, again-counted, again-joined, again-after, again-past, again-tok, again-worded, again-single, again-pair, round_spelled, in_round, well-enclosed, enclosed_sorts, below_bound, recast}
use Rattle.og_print.proofs.ExpressionReprints.{again-expr, deeper}

-- ---- relations

-- the symbol of a comparison is no parenthesis
flat-cmp : (op : Cmp) (n : ℕ) → opened_after n (cmp_sort op) ≡ n
flat-cmp cmp.Eq n = refl
flat-cmp cmp.Ne n = refl
flat-cmp cmp.Lt n = refl
flat-cmp cmp.Le n = refl
flat-cmp cmp.Gt n = refl
flat-cmp cmp.Ge n = refl

-- the word of a predicate is no parenthesis
flat-pred : (p : Pred) (n : ℕ) → opened_after n (pred_sort p) ≡ n
flat-pred pred.Before n = refl
flat-pred pred.Meets n = refl
flat-pred pred.Overlaps n = refl
flat-pred pred.Starts n = refl
flat-pred pred.Finishes n = refl
flat-pred pred.During n = refl
flat-pred pred.Equals n = refl

-- the words of a condition beside AND
abbrev pub neg_words : CondText → List Word
neg_words x = cond_words x place.BesideAnd

-- the words of a condition beside OR
abbrev pub conj_words : CondText → List Word
conj_words x = cond_words x place.BesideOr

-- the words of a condition alone
abbrev pub alone_words : CondText → List Word
alone_words x = cond_words x place.Alone

-- a comparison or a predicate
pub again-relation : (script printed : List ℕ) → Reprints script printed (IsRelation script true) (λ d. IsRelation printed true) neg_words []
unfolding IsRelation IsCompare IsRelate same_sort
again-relation script printed =
    again-bind (again-expr script printed) (λ x.
    again-or
    (again-bind (again-worded comparison_of cmp_sort refl flat-cmp) (λ op. again-bind (again-expr script printed) (λ y. again-pure (cond_words-Compare op x y place.BesideAnd ∙ sym (append_assoc (expr_words x) (Plain (cmp_sort op) ∷ []) (expr_words y))))))
    (again-bind (again-worded predicate_of pred_sort refl flat-pred) (λ p. again-bind (again-expr script printed) (λ y. again-pure (cond_words-Relate p x y place.BesideAnd ∙ sym (append_assoc (expr_words x) (Plain (pred_sort p) ∷ []) (expr_words y)))))))

-- ---- the three places of a condition

-- a condition has the same words at all places
pub record IsSame (x : CondText) : Type 0 where
  pub conj : conj_words x ≡ neg_words x
  pub alone : alone_words x ≡ neg_words x

-- what was read is printed at each of the three places
pub record Places (printed : List ℕ) (Neg : ℕ → Rule CondText) (ts : List Lexeme) (x : CondText) (rest : List Lexeme) : Type 0 where
  pub neg : Part printed Neg neg_words [] ts x rest
  pub conj : Part printed (λ d. IsConjOf (Neg d)) conj_words [] ts x rest
  pub alone : Part printed (λ d. IsCondOf (Neg d)) alone_words [] ts x rest

-- what is by a rule is by a second one with other words that are the same
pub with_same : {A B : Type 0} {printed : List ℕ} {P : ℕ → Rule A} {R : ℕ → Rule B} {w : A → List Word} {v : B → List Word} {ts : List Lexeme} {x : A} {y : B} {rest : List Lexeme}
    → v y ≡ w x → ((d : ℕ) (ts rest : List Lexeme) → P d ts x rest → R d ts y rest) → Part printed P w [] ts x rest → Part printed R v [] ts y rest
with_same {A} {B} {printed} {P} {R} {w} {v} {ts} {x} {y} {rest} e from a =
    record { front = a.front; split = a.split; vs = a.vs; words = e ∙ a.words; well = a.well; no_deeper = a.no_deeper; again = λ d seg tail short some sp. from d (seg ++ tail) tail (a.again d seg tail short some sp) }

-- one condition is a conjunction
pub one_conj : (Neg : Rule CondText) (ts : List Lexeme) (x : CondText) (rest : List Lexeme) → Neg ts x rest → IsConjOf Neg ts x rest
unfolding IsConjOf
one_conj Neg ts x rest h = (x ∷ [], rest, (x, rest, h, ([], rest, refl, (refl, refl))), (refl, refl))

-- one conjunction is a condition
pub one_cond : (Neg : Rule CondText) (ts : List Lexeme) (x : CondText) (rest : List Lexeme) → IsConjOf Neg ts x rest → IsCondOf Neg ts x rest
unfolding IsCondOf
one_cond Neg ts x rest h = (x ∷ [], rest, (x, rest, h, ([], rest, refl, (refl, refl))), (refl, refl))

-- a condition that has the same words everywhere is printed everywhere
all_places : {printed : List ℕ} {Neg : ℕ → Rule CondText} {ts : List Lexeme} {x : CondText} {rest : List Lexeme} → IsSame x → Part printed Neg neg_words [] ts x rest → Places printed Neg ts x rest
all_places {printed} {Neg} {ts} {x} {rest} same a = record {
  neg = a;
  conj = with_same same.conj (λ d ts rest h. one_conj (Neg d) ts x rest h) a;
  alone = with_same same.alone (λ d ts rest h. one_cond (Neg d) ts x rest (one_conj (Neg d) ts x rest h)) a;
}

-- parts joined by AND
abbrev pub Both : Rule CondText → Rule (List CondText)
Both Neg = Joined Neg (rules_.Bind (Tok k.And) (λ _. Neg))

-- parts joined by OR
abbrev pub Either : Rule CondText → Rule (List CondText)
Either Neg = Joined (IsConjOf Neg) (rules_.Bind (Tok k.Or) (λ _. IsConjOf Neg))

-- a conjunction: printed at all places, or of several parts, and then in parentheses beside AND
abbrev pub Conj : List ℕ → (ℕ → Rule CondText) → List Lexeme → CondText → List Lexeme → Type 0
Conj printed Neg ts x rest =
    Places printed Neg ts x rest
    ⊎ ((neg_words x ≡ enclosed (alone_words x)) × Part printed (λ d. IsConjOf (Neg d)) conj_words [] ts x rest × Part printed (λ d. IsCondOf (Neg d)) alone_words [] ts x rest)

-- a condition: a conjunction, or of several parts, and then in parentheses beside OR
abbrev pub Cond : List ℕ → (ℕ → Rule CondText) → List Lexeme → CondText → List Lexeme → Type 0
Cond printed Neg ts x rest =
    Conj printed Neg ts x rest
    ⊎ ((neg_words x ≡ enclosed (alone_words x)) × (conj_words x ≡ enclosed (alone_words x)) × Part printed (λ d. IsCondOf (Neg d)) alone_words [] ts x rest)

-- the conjunction in each case
conj_part : {printed : List ℕ} {Neg : ℕ → Rule CondText} {ts : List Lexeme} {x : CondText} {rest : List Lexeme} → Conj printed Neg ts x rest → Part printed (λ d. IsConjOf (Neg d)) conj_words [] ts x rest
conj_part (inl a) = a.conj
conj_part (inr a) = a.1

-- the condition in each case
alone_part : {printed : List ℕ} {Neg : ℕ → Rule CondText} {ts : List Lexeme} {x : CondText} {rest : List Lexeme} → Cond printed Neg ts x rest → Part printed (λ d. IsCondOf (Neg d)) alone_words [] ts x rest
alone_part (inl (inl a)) = a.alone
alone_part (inl (inr a)) = a.2
alone_part (inr a) = a.2

-- each condition of a rule is printed at all places
abbrev pub AllPlaces : List ℕ → List ℕ → Rule CondText → (ℕ → Rule CondText) → Type 0
AllPlaces script printed Neg Neg' = (ts : List Lexeme) (x : CondText) (rest : List Lexeme) → AreProper script ts → Neg ts x rest → Places printed Neg' ts x rest

-- beside AND
again-neg : {script printed : List ℕ} {Neg : Rule CondText} {Neg' : ℕ → Rule CondText} → AllPlaces script printed Neg Neg' → Reprints script printed Neg Neg' neg_words []
again-neg E = record { redo = λ ts x rest p h. (E ts x rest p h).neg }

-- a conjunction
conj_case : (script printed : List ℕ) (Neg : Rule CondText) (Neg' : ℕ → Rule CondText) → AllPlaces script printed Neg Neg'
    → (ts : List Lexeme) (x : CondText) (rest : List Lexeme) → AreProper script ts → IsConjOf Neg ts x rest → Conj printed Neg' ts x rest
unfolding IsConjOf same_sort
conj_case script printed Neg Neg' E ts x rest p h = go h.0 h.2 h.3.0
  where
    parts : Reprints script printed (Both Neg) (λ d. Both (Neg' d)) (parts_words k.And place.BesideAnd) []
    parts = again-joined (again-neg E) (again-past k.And refl (λ n. refl) (again-neg E))

    single : (y : CondText) (m : List Lexeme) (n : List Lexeme) → Neg ts y m → n ≡ m → h.1 ≡ n → x ≡ y → Conj printed Neg' ts x rest
    single y m n g e f same =
        inl (E ts x rest p (subst (λ y. Neg ts y rest) (sym same) (subst (λ r. Neg ts y r) (sym (h.3.1 ∙ f ∙ e)) g)))

    several : (y z : CondText) (ys : List CondText) → Both Neg ts (y ∷ z ∷ ys) h.1 → x ≡ c.And (y ∷ z ∷ ys) → Conj printed Neg' ts x rest
    several y z ys g same =
        let a = parts.redo ts (y ∷ z ∷ ys) rest p (subst (λ r. Both Neg ts (y ∷ z ∷ ys) r) (sym h.3.1) g) in
        let words : (at : place.the_data) → cond_words x at ≡ cond_words (c.And (y ∷ z ∷ ys)) at = λ at. ap (λ x. cond_words x at) same in
        let conj = with_same {v = conj_words} (words place.BesideOr ∙ cond_words-And (y ∷ z ∷ ys) place.BesideOr) (λ d ts rest b. (y ∷ z ∷ ys, rest, b, (same, refl))) a in
        inr (
          words place.BesideAnd ∙ cond_words-And (y ∷ z ∷ ys) place.BesideAnd ∙ ap enclosed (sym (words place.Alone ∙ cond_words-And (y ∷ z ∷ ys) place.Alone)),
          conj,
          with_same {v = alone_words} (words place.Alone ∙ cond_words-And (y ∷ z ∷ ys) place.Alone ∙ sym (words place.BesideOr ∙ cond_words-And (y ∷ z ∷ ys) place.BesideOr)) (λ d ts rest b. one_cond (Neg' d) ts x rest b) conj,
        )

    by : (y : CondText) (m : List Lexeme) (ys : List CondText) (n : List Lexeme) → Neg ts y m → Many (rules_.Bind (Tok k.And) (λ _. Neg)) m ys n → h.1 ≡ n → x ≡ all_of (y ∷ ys) → Conj printed Neg' ts x rest
    by y m [] n g many f same = single y m n g many f same
    by y m (z ∷ ys) n g many f same = several y z ys (y, m, g, (z ∷ ys, n, many, (refl, f))) same

    go : (xs : List CondText) → Both Neg ts xs h.1 → x ≡ all_of xs → Conj printed Neg' ts x rest
    go xs g same = let m = g.3 in by g.0 g.1 m.0 m.1 g.2 m.2 m.3.1 (same ∙ ap all_of m.3.0)

-- a condition
cond_case : (script printed : List ℕ) (Neg : Rule CondText) (Neg' : ℕ → Rule CondText) → AllPlaces script printed Neg Neg'
    → (ts : List Lexeme) (x : CondText) (rest : List Lexeme) → AreProper script ts → IsCondOf Neg ts x rest → Cond printed Neg' ts x rest
unfolding IsCondOf same_sort
cond_case script printed Neg Neg' E ts x rest p h = go h.0 h.2 h.3.0
  where
    conj : Reprints script printed (IsConjOf Neg) (λ d. IsConjOf (Neg' d)) conj_words []
    conj = record { redo = λ ts x rest p h. conj_part (conj_case script printed Neg Neg' E ts x rest p h) }

    parts : Reprints script printed (Either Neg) (λ d. Either (Neg' d)) (parts_words k.Or place.BesideOr) []
    parts = again-joined conj (again-past k.Or refl (λ n. refl) conj)

    single : (y : CondText) (m : List Lexeme) (n : List Lexeme) → IsConjOf Neg ts y m → n ≡ m → h.1 ≡ n → x ≡ y → Cond printed Neg' ts x rest
    single y m n g e f same =
        inl (conj_case script printed Neg Neg' E ts x rest p (subst (λ y. IsConjOf Neg ts y rest) (sym same) (subst (λ r. IsConjOf Neg ts y r) (sym (h.3.1 ∙ f ∙ e)) g)))

    several : (y z : CondText) (ys : List CondText) → Either Neg ts (y ∷ z ∷ ys) h.1 → x ≡ c.Or (y ∷ z ∷ ys) → Cond printed Neg' ts x rest
    several y z ys g same =
        let a = parts.redo ts (y ∷ z ∷ ys) rest p (subst (λ r. Either Neg ts (y ∷ z ∷ ys) r) (sym h.3.1) g) in
        let words : (at : place.the_data) → cond_words x at ≡ cond_words (c.Or (y ∷ z ∷ ys)) at = λ at. ap (λ x. cond_words x at) same in
        let alone = words place.Alone ∙ cond_words-Or (y ∷ z ∷ ys) place.Alone in
        inr (
          words place.BesideAnd ∙ cond_words-Or (y ∷ z ∷ ys) place.BesideAnd ∙ ap enclosed (sym alone),
          words place.BesideOr ∙ cond_words-Or (y ∷ z ∷ ys) place.BesideOr ∙ ap enclosed (sym alone),
          with_same {v = alone_words} alone (λ d ts rest b. (y ∷ z ∷ ys, rest, b, (same, refl))) a,
        )

    by : (y : CondText) (m : List Lexeme) (ys : List CondText) (n : List Lexeme) → IsConjOf Neg ts y m → Many (rules_.Bind (Tok k.Or) (λ _. IsConjOf Neg)) m ys n → h.1 ≡ n → x ≡ any_of (y ∷ ys) → Cond printed Neg' ts x rest
    by y m [] n g many f same = single y m n g many f same
    by y m (z ∷ ys) n g many f same = several y z ys (y, m, g, (z ∷ ys, n, many, (refl, f))) same

    go : (xs : List CondText) → Either Neg ts xs h.1 → x ≡ any_of xs → Cond printed Neg' ts x rest
    go xs g same = let m = g.3 in by g.0 g.1 m.0 m.1 g.2 m.2 m.3.1 (same ∙ ap any_of m.3.0)

-- ---- parentheses

-- parentheses that are left out
bare : {printed : List ℕ} {R : ℕ → Rule CondText} {w : CondText → List Word} {ts inside mid : List Lexeme} {x : CondText} {rest : List Lexeme}
    → Tok k.LeftParen ts tt inside → Tok k.RightParen mid tt rest → Part printed R w [] inside x mid → Part printed R w [] ts x rest
bare {printed} {R} {w} {ts} {inside} {mid} {x} {rest} open_ close a =
    let o = outer ts inside a.front mid rest open_ a.split close in record {
      front = o.open_ ∷ a.front ++ o.close ∷ [];
      split = o.split;
      vs = a.vs;
      words = a.words;
      well = a.well;
      no_deeper = subst (λ s. IsNoDeeper s (map word_sort a.vs)) (sym o.sorts) (no_deeper-bare a.no_deeper);
      again = a.again;
    }

-- a part by a rule at any level that has room
raised : {A : Type 0} {printed : List ℕ} {P' : ℕ → Rule A} {w : A → List Word} {ts : List Lexeme} {x : A} {rest : List Lexeme} → Part printed (λ d. P' (suc (below d))) w [] ts x rest → Part printed P' w [] ts x rest
raised {A} {printed} {P'} {w} {ts} {x} {rest} a =
    record { front = a.front; split = a.split; vs = a.vs; words = a.words; well = a.well; no_deeper = a.no_deeper; again = deeper printed P' x a.vs a.again }

-- parentheses that are kept
kept : (printed : List ℕ) (ts inside mid : List Lexeme) (x : CondText) (rest : List Lexeme) → Tok k.LeftParen ts tt inside → Tok k.RightParen mid tt rest → neg_words x ≡ enclosed (alone_words x)
    → Part printed (λ d. IsCondOf (IsNegIn printed true d)) alone_words [] inside x mid → Part printed (IsNegIn printed true) neg_words [] ts x rest
unfolding IsNegIn IsAtomOf
kept printed ts inside mid x rest open_ close e a =
    let o = outer ts inside a.front mid rest open_ a.split close in record {
      front = o.open_ ∷ a.front ++ o.close ∷ [];
      split = o.split;
      vs = enclosed a.vs;
      words = e ∙ ap enclosed a.words;
      well = well-enclosed a.vs a.well;
      no_deeper = subst (λ s. IsNoDeeper s (map word_sort (enclosed a.vs))) (sym o.sorts) (subst (λ s. IsNoDeeper (round (sorts_of a.front)) s) (sym (enclosed_sorts a.vs)) (no_deeper-round a.no_deeper));
      again = deeper printed (IsNegIn printed true) x (enclosed a.vs) (λ d seg tail short some sp.
          let r = round_spelled printed seg a.vs sp in
          let sum : length seg ≡ suc (length r.inside + 1) = ap length r.whole ∙ ap suc (length-append r.inside (r.close ∷ [])) in
          inr (inl (in_round (IsCondOf (IsNegIn printed true (below d))) printed seg a.vs tail x r
          (a.again (below d) r.inside (r.close ∷ tail) (below_bound d (length r.inside) (omega (arith, sum, short))) (omega arith) r.spelled))));
    }

-- a condition in parentheses at the three places
round_places : (printed : List ℕ) (ts inside mid : List Lexeme) (x : CondText) (rest : List Lexeme) → Tok k.LeftParen ts tt inside → Tok k.RightParen mid tt rest
    → Cond printed (IsNegIn printed true) inside x mid → Places printed (IsNegIn printed true) ts x rest
round_places printed ts inside mid x rest open_ close (inl (inl a)) = record { neg = bare open_ close a.neg; conj = bare open_ close a.conj; alone = bare open_ close a.alone }
round_places printed ts inside mid x rest open_ close (inl (inr a)) = record { neg = kept printed ts inside mid x rest open_ close a.0 a.2; conj = bare open_ close a.1; alone = bare open_ close a.2 }
round_places printed ts inside mid x rest open_ close (inr a) =
    let neg = kept printed ts inside mid x rest open_ close a.0 a.2 in
    record { neg = neg; conj = with_same {v = conj_words} (a.1 ∙ sym a.0) (λ d ts rest h. one_conj (IsNegIn printed true d) ts x rest h) neg; alone = bare open_ close a.2 }

-- ---- negations and atoms

-- NOT has the same words everywhere
same-Not : (x y : CondText) → x ≡ c.Not y → IsSame x
same-Not x y e = record {
  conj = ap conj_words e ∙ cond_words-Not y place.BesideOr ∙ sym (cond_words-Not y place.BesideAnd) ∙ ap neg_words (sym e);
  alone = ap alone_words e ∙ cond_words-Not y place.Alone ∙ sym (cond_words-Not y place.BesideAnd) ∙ ap neg_words (sym e);
}

-- EMPTY has the same words everywhere
same-Empty : (x : CondText) (y : ExprText) → x ≡ c.Empty y → IsSame x
same-Empty x y e = record {
  conj = ap conj_words e ∙ cond_words-Empty y place.BesideOr ∙ sym (cond_words-Empty y place.BesideAnd) ∙ ap neg_words (sym e);
  alone = ap alone_words e ∙ cond_words-Empty y place.Alone ∙ sym (cond_words-Empty y place.BesideAnd) ∙ ap neg_words (sym e);
}

-- CONTAINS has the same words everywhere
same-Contains : (x : CondText) (y z : ExprText) → x ≡ c.Contains y z → IsSame x
same-Contains x y z e = record {
  conj = ap conj_words e ∙ cond_words-Contains y z place.BesideOr ∙ sym (cond_words-Contains y z place.BesideAnd) ∙ ap neg_words (sym e);
  alone = ap alone_words e ∙ cond_words-Contains y z place.Alone ∙ sym (cond_words-Contains y z place.BesideAnd) ∙ ap neg_words (sym e);
}

-- a comparison has the same words everywhere
same-Compare : (x : CondText) (op : Cmp) (y z : ExprText) → x ≡ c.Compare op y z → IsSame x
same-Compare x op y z e = record {
  conj = ap conj_words e ∙ cond_words-Compare op y z place.BesideOr ∙ sym (cond_words-Compare op y z place.BesideAnd) ∙ ap neg_words (sym e);
  alone = ap alone_words e ∙ cond_words-Compare op y z place.Alone ∙ sym (cond_words-Compare op y z place.BesideAnd) ∙ ap neg_words (sym e);
}

-- a predicate has the same words everywhere
same-Relate : (x : CondText) (p : Pred) (y z : ExprText) → x ≡ c.Relate p y z → IsSame x
same-Relate x p y z e = record {
  conj = ap conj_words e ∙ cond_words-Relate p y z place.BesideOr ∙ sym (cond_words-Relate p y z place.BesideAnd) ∙ ap neg_words (sym e);
  alone = ap alone_words e ∙ cond_words-Relate p y z place.Alone ∙ sym (cond_words-Relate p y z place.BesideAnd) ∙ ap neg_words (sym e);
}

-- a comparison or a predicate has the same words everywhere
same-relation : (script : List ℕ) (ts : List Lexeme) (x : CondText) (rest : List Lexeme) → IsRelation script true ts x rest → IsSame x
unfolding IsRelation IsCompare IsRelate
same-relation script ts x rest (y, m, h, inl b) = let s = b.3 in same-Compare x b.0 y s.0 s.3.0
same-relation script ts x rest (y, m, h, inr b) = let s = b.3 in same-Relate x b.0 y s.0 s.3.0

-- the rule of NOT
abbrev NotOf : Rule CondText → Rule CondText
NotOf Neg = rules_.Bind (Tok k.Not) (λ _. rules_.Bind Neg (λ x. rules_.pure (c.Not x)))

-- the rule of EMPTY
abbrev EmptyOf : List ℕ → Rule CondText
EmptyOf script = rules_.Bind (Tok k.Empty) (λ _. rules_.Bind (Single (IsExpr script true)) (λ x. rules_.pure (c.Empty x)))

-- the rule of CONTAINS
abbrev ContainsOf : List ℕ → Rule CondText
ContainsOf script = rules_.Bind (Tok k.Contains) (λ _. rules_.Bind (Pair (IsExpr script true)) (λ xs. rules_.pure (c.Contains xs.0 xs.1)))

-- NOT
again-not : (script printed : List ℕ) (Neg : Rule CondText) (Neg' : ℕ → Rule CondText) → AllPlaces script printed Neg Neg' → Reprints script printed (NotOf Neg) (λ d. NotOf (Neg' (below d))) neg_words []
again-not script printed Neg Neg' E = again-under (λ _. refl) (again-tok k.Not refl (λ n. refl)) (λ _. again-map {w = neg_words} c.Not (λ x. cond_words-Not x place.BesideAnd) (again-neg E))

-- EMPTY
again-empty : (script printed : List ℕ) → Reprints script printed (EmptyOf script) (λ d. EmptyOf printed) neg_words []
again-empty script printed = again-after k.Empty refl (λ n. refl) (again-map {w = neg_words} c.Empty (λ x. cond_words-Empty x place.BesideAnd) (again-single (again-expr script printed)))

-- CONTAINS
again-contains : (script printed : List ℕ) → Reprints script printed (ContainsOf script) (λ d. ContainsOf printed) neg_words []
again-contains script printed =
    again-after k.Contains refl (λ n. refl) (again-map {w = neg_words} (λ xs. c.Contains xs.0 xs.1) (λ xs. cond_words-Contains xs.0 xs.1 place.BesideAnd) (again-pair (again-expr script printed)))

-- a negation, nested no deeper than the number, at the three places
pub neg_places : (script printed : List ℕ) (d : ℕ) → AllPlaces script printed (IsNegIn script true d) (IsNegIn printed true)
unfolding IsNegIn IsAtomOf
neg_places script printed zero ts x rest p h = absurd h
neg_places script printed (suc d) ts x rest p (inl h) =
    all_places (same-Not x h.3.0 h.3.3.0) (raised (recast (λ d ts rest h. inl h) ((again-not script printed (IsNegIn script true d) (IsNegIn printed true) (neg_places script printed d)).redo ts x rest p h)))
neg_places script printed (suc d) ts x rest p (inr (inl h)) =
    let last = h.3.3 in
    let close : Tok k.RightParen h.3.1 tt rest = subst (λ r. Tok k.RightParen h.3.1 tt r) (sym last.3.1) last.2 in
    round_places printed ts h.1 h.3.1 x rest h.2 close
    (cond_case script printed (IsNegIn script true d) (IsNegIn printed true) (neg_places script printed d) h.1 x h.3.1 (subst (AreProper script) h.2.1 p).1
    (subst (λ y. IsCondOf (IsNegIn script true d) h.1 y h.3.1) (sym last.3.0) h.3.2))
neg_places script printed (suc d) ts x rest p (inr (inr (inl h))) =
    all_places (same-Empty x h.3.0 h.3.3.0) (raised (recast (λ d ts rest h. inr (inr (inl h))) ((again-empty script printed).redo ts x rest p h)))
neg_places script printed (suc d) ts x rest p (inr (inr (inr (inl h)))) =
    all_places (same-Contains x h.3.0.0 h.3.0.1 h.3.3.0) (raised (recast (λ d ts rest h. inr (inr (inr (inl h)))) ((again-contains script printed).redo ts x rest p h)))
neg_places script printed (suc d) ts x rest p (inr (inr (inr (inr h)))) =
    all_places (same-relation script ts x rest h) (raised (recast (λ d ts rest h. inr (inr (inr (inr h)))) ((again-relation script printed).redo ts x rest p h)))

-- ---- conditions

-- a conjunction, beside OR
pub again-conj : (script printed : List ℕ) (d : ℕ) → Reprints script printed (IsConjOf (IsNegIn script true d)) (λ d. IsConjOf (IsNegIn printed true d)) conj_words []
again-conj script printed d = record { redo = λ ts x rest p h. conj_part (conj_case script printed (IsNegIn script true d) (IsNegIn printed true) (neg_places script printed d) ts x rest p h) }

-- a condition, alone
pub again-cond_of : (script printed : List ℕ) (d : ℕ) → Reprints script printed (IsCondOf (IsNegIn script true d)) (λ d. IsCondOf (IsNegIn printed true d)) alone_words []
again-cond_of script printed d = record { redo = λ ts x rest p h. alone_part (cond_case script printed (IsNegIn script true d) (IsNegIn printed true) (neg_places script printed d) ts x rest p h) }

-- a condition, by its own lexemes
pub again-cond : (script printed : List ℕ) → Reprints script printed (IsCond script true) (λ d. IsCond printed true) alone_words []
unfolding IsCond
again-cond script printed = again-counted (again-cond_of script printed)

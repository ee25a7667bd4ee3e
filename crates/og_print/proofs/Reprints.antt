-- What is by a rule is by the rule again when it is printed: the steps of rules.
use Rattle.std.proofs.Common.{◌≡◌, ◌⊎◌, ◌<◌, ◌+◌, inl, inr, ℕ, zero, suc, Bool, true, ◌&&◌, List, [], ◌∷◌, ◌++◌, length, map, Option, Some, None, refl, sym, ap, ◌∙◌, subst, append_assoc, append-nil, length-append, arith}
use Rattle.std.proofs.lemmas.List.{map-append}
use Rattle.og_syntax.specs.declared.lexeme.Sort.{Sort}
use Rattle.og_syntax.specs.declared.lexeme.Sort.TheVariants as k
use Rattle.og_syntax.specs.declared.lexeme.Lexeme.{Lexeme}
use Rattle.og_syntax.specs.Lexemes.{same_sort}
use Rattle.og_syntax.specs.Rules.{Rule, ◌or◌, Tok, Worded, Many, Joined, Optional, Past, Single, Pair}
use Rattle.og_syntax.specs.Rules as rules_
use Rattle.og_syntax.proofs.Exact.{left_of, right_of, is_sort}
use Rattle.og_syntax.proofs.EverySort.{everywhere, every_sort}
use Rattle.og_parse.specs.Depth.{opened_after}
use Rattle.og_print.specs.Words.{Word, Plain, word_sort, each, joined, behind, enclosed}
use Rattle.og_print.proofs.Spelling.{is_inner, AreWell, Spells, SpellAll, AreProper}
use Rattle.og_print.proofs.Depths.{sorts_of, IsNoDeeper}
use Rattle.og_print.proofs.Nesting.{round, no_deeper-nil, no_deeper-same, no_deeper-append, no_deeper-round}

-- ---- words and the lexemes that spell them

-- the lexemes of the one words, and those of the words after them
pub record Halves (script : List ℕ) (seg : List Lexeme) (us vs : List Word) : Type 0 where
  pub first : List Lexeme
  pub second : List Lexeme
  pub whole : seg ≡ first ++ second
  pub left : SpellAll script first us
  pub right : SpellAll script second vs

-- lexemes are cut where their words are
pub halves : (script : List ℕ) (seg : List Lexeme) (us vs : List Word) → SpellAll script seg (us ++ vs) → Halves script seg us vs
halves script seg [] vs h = record { first = []; second = seg; whole = refl; left = tt; right = h }
halves script [] (w ∷ us) vs h = absurd h
halves script (t ∷ ts) (w ∷ us) vs h =
    let k = halves script ts us vs h.1 in
    record { first = t ∷ k.first; second = k.second; whole = ap (λ ts. t ∷ ts) k.whole; left = (h.0, k.left); right = k.right }

-- as many lexemes as words
pub spelled-length : (script : List ℕ) (seg : List Lexeme) (ws : List Word) → SpellAll script seg ws → length seg ≡ length ws
spelled-length script [] [] h = refl
spelled-length script [] (w ∷ ws) h = absurd h
spelled-length script (t ∷ ts) [] h = absurd h
spelled-length script (t ∷ ts) (w ∷ ws) h = ap suc (spelled-length script ts ws h.1)

-- a lexeme has the sort of its word
pub spelled-sort : (script : List ℕ) (t : Lexeme) (w : Word) → Spells script t w → t.sort ≡ word_sort w
spelled-sort script t (Word.Plain sort) h = h
spelled-sort script t (Word.Named name) h = h.0
spelled-sort script t (Word.Whole n) h = h.0
spelled-sort script t (Word.Quoted z) h = h.0

-- lexemes have the sorts of their words
pub spelled-sorts : (script : List ℕ) (seg : List Lexeme) (ws : List Word) → SpellAll script seg ws → sorts_of seg ≡ map word_sort ws
spelled-sorts script [] [] h = refl
spelled-sorts script [] (w ∷ ws) h = absurd h
spelled-sorts script (t ∷ ts) [] h = absurd h
spelled-sorts script (t ∷ ts) (w ∷ ws) h = ap (λ a. a ∷ sorts_of ts) (spelled-sort script t w h.0) ∙ ap (λ rest. word_sort w ∷ rest) (spelled-sorts script ts ws h.1)

-- no words have no lexemes
pub none_spelled : (script : List ℕ) (seg tail : List Lexeme) → SpellAll script seg [] → tail ≡ seg ++ tail
none_spelled script [] tail h = refl
none_spelled script (t ∷ ts) tail h = absurd h

-- one lexeme, which spells the word
pub record OneSpelled (script : List ℕ) (seg : List Lexeme) (w : Word) : Type 0 where
  pub lexeme : Lexeme
  pub whole : seg ≡ lexeme ∷ []
  pub spells : Spells script lexeme w

-- one word has one lexeme
pub one_spelled : (script : List ℕ) (seg : List Lexeme) (w : Word) → SpellAll script seg (w ∷ []) → OneSpelled script seg w
one_spelled script [] w h = absurd h
one_spelled script (t ∷ []) w h = record { lexeme = t; whole = refl; spells = h.0 }
one_spelled script (t ∷ u ∷ ts) w h = absurd h.1

-- two lexemes, which spell the words
pub record TwoSpelled (script : List ℕ) (seg : List Lexeme) (v w : Word) : Type 0 where
  pub first : Lexeme
  pub second : Lexeme
  pub whole : seg ≡ first ∷ second ∷ []
  pub left : Spells script first v
  pub right : Spells script second w

-- two words have two lexemes
pub two_spelled : (script : List ℕ) (seg : List Lexeme) (v w : Word) → SpellAll script seg (v ∷ w ∷ []) → TwoSpelled script seg v w
two_spelled script [] v w h = absurd h
two_spelled script (t ∷ ts) v w h =
    let o = one_spelled script ts w h.1 in
    record { first = t; second = o.lexeme; whole = ap (λ s. t ∷ s) o.whole; left = h.0; right = o.spells }

-- the one words, and the words after them
pub well-append : (us vs : List Word) → AreWell us → AreWell vs → AreWell (us ++ vs)
well-append [] vs h j = j
well-append (w ∷ us) vs h j = (h.0, well-append us vs h.1 j)

-- lexemes behind others
pub proper-after : (script : List ℕ) (xs ys : List Lexeme) → AreProper script (xs ++ ys) → AreProper script ys
proper-after script [] ys h = h
proper-after script (x ∷ xs) ys h = proper-after script xs ys h.1

-- ---- reprints

-- a value that was read from a front of lexemes is printed with these words behind the given ones: they are well, nest no deeper than the front, and lexemes that spell them are the value again, by a rule that may know how many they are at most
pub record Part {A : Type 0} (script : List ℕ) (P : ℕ → Rule A) (w : A → List Word) (us : List Word) (ts : List Lexeme) (x : A) (rest : List Lexeme) : Type 0 where
  pub front : List Lexeme
  pub split : ts ≡ front ++ rest
  pub vs : List Word
  pub words : w x ≡ us ++ vs
  pub well : AreWell vs
  pub no_deeper : IsNoDeeper (sorts_of front) (map word_sort vs)
  pub again : (d : ℕ) (seg tail : List Lexeme) → length seg < d → 0 < length tail → SpellAll script seg vs → P d (seg ++ tail) x tail

-- whatever is by the one rule of the one script is printed so, and is by the other rule of the other script
pub record Reprints {A : Type 0} (script printed : List ℕ) (P : Rule A) (P' : ℕ → Rule A) (w : A → List Word) (us : List Word) : Type 0 where
  pub redo : (ts : List Lexeme) (x : A) (rest : List Lexeme) → AreProper script ts → P ts x rest → Part printed P' w us ts x rest

-- the lexemes behind a part
pub proper-rest : {A : Type 0} (script : List ℕ) {printed : List ℕ} {P : ℕ → Rule A} {w : A → List Word} {us : List Word} {ts : List Lexeme} {x : A} {rest : List Lexeme}
    → Part printed P w us ts x rest → AreProper script ts → AreProper script rest
proper-rest {A} script {printed} {P} {w} {us} {ts} {x} {rest} a p = proper-after script a.front rest (subst (AreProper script) a.split p)

-- a value without a lexeme
pub again-pure : {A : Type 0} {script printed : List ℕ} {a : A} {w : A → List Word} {us : List Word} → w a ≡ us → Reprints script printed (rules_.pure a) (λ d. rules_.pure a) w us
again-pure {A} {script} {printed} {a} {w} {us} e = record {
  redo = λ ts x rest p h.
      record {
        front = [];
        split = sym h.1;
        vs = [];
        words = ap w h.0 ∙ e ∙ sym (append-nil us);
        well = tt;
        no_deeper = no_deeper-nil;
        again = λ d seg tail short some sp. (h.0, none_spelled printed seg tail sp);
      };
}

-- two lists with a third behind them
two_parts : (front first second rest : List Lexeme) → (ts mid : List Lexeme) → ts ≡ first ++ mid → mid ≡ second ++ rest → ts ≡ (first ++ second) ++ rest
two_parts front first second rest ts mid e f = e ∙ ap (λ m. first ++ m) f ∙ sym (append_assoc first second rest)

-- the sorts of two parts
two_sorts : (a b : List Lexeme) (us vs : List Word) → IsNoDeeper (sorts_of a) (map word_sort us) → IsNoDeeper (sorts_of b) (map word_sort vs) → IsNoDeeper (sorts_of (a ++ b)) (map word_sort (us ++ vs))
two_sorts a b us vs A B =
    subst (λ s. IsNoDeeper s (map word_sort (us ++ vs))) (sym (map-append (λ t. t.sort) a b))
    (subst (λ s. IsNoDeeper (sorts_of a ++ sorts_of b) s) (sym (map-append word_sort us vs)) (no_deeper-append A B))

-- the one, and then the other, where something is known of the first value
pub again-bind_where : {A B : Type 0} {script printed : List ℕ} {P : Rule A} {P' : ℕ → Rule A} {Q : A → Rule B} {Q' : ℕ → A → Rule B} {u : A → List Word} {w : B → List Word} {us : List Word}
    → (Known : A → Type 0) → ((ts : List Lexeme) (x : A) (rest : List Lexeme) → P ts x rest → Known x)
    → Reprints script printed P P' u [] → ((x : A) → Known x → Reprints script printed (Q x) (λ d. Q' d x) w (us ++ u x))
    → Reprints script printed (rules_.Bind P Q) (λ d. rules_.Bind (P' d) (Q' d)) w us
again-bind_where {A} {B} {script} {printed} {P} {P'} {Q} {Q'} {u} {w} {us} Known known E D = record {
  redo = λ ts y rest p h.
      let x = h.0 in
      let mid = h.1 in
      let a = E.redo ts x mid p h.2 in
      let b = (D x (known ts x mid h.2)).redo mid y rest (proper-rest script a p) h.3 in
      record {
        front = a.front ++ b.front;
        split = two_parts a.front a.front b.front rest ts mid a.split b.split;
        vs = a.vs ++ b.vs;
        words = b.words ∙ ap (λ z. (us ++ z) ++ b.vs) a.words ∙ append_assoc us a.vs b.vs;
        well = well-append a.vs b.vs a.well b.well;
        no_deeper = two_sorts a.front b.front a.vs b.vs a.no_deeper b.no_deeper;
        again = λ d seg tail short some sp.
            let k = halves printed seg a.vs b.vs sp in
            let sum : length seg ≡ length k.first + length k.second = ap length k.whole ∙ length-append k.first k.second in
            let both : 0 < length (k.second ++ tail) = omega (arith, length-append k.second tail, some) in
            subst (λ s. rules_.Bind (P' d) (Q' d) (s ++ tail) y tail) (sym k.whole)
            (subst (λ s. rules_.Bind (P' d) (Q' d) s y tail) (sym (append_assoc k.first k.second tail))
            (x, k.second ++ tail, a.again d k.first (k.second ++ tail) (omega (arith, sum, short)) both k.left, b.again d k.second tail (omega (arith, sum, short)) some k.right));
      };
}

-- the one, and then the other
pub again-bind : {A B : Type 0} {script printed : List ℕ} {P : Rule A} {P' : ℕ → Rule A} {Q : A → Rule B} {Q' : ℕ → A → Rule B} {u : A → List Word} {w : B → List Word} {us : List Word}
    → Reprints script printed P P' u [] → ((x : A) → Reprints script printed (Q x) (λ d. Q' d x) w (us ++ u x))
    → Reprints script printed (rules_.Bind P Q) (λ d. rules_.Bind (P' d) (Q' d)) w us
again-bind E D = again-bind_where (λ x. Unit {0}) (λ ts x rest h. tt) E (λ x _. D x)

-- one level less
abbrev pub below : ℕ → ℕ
below zero = zero
below (suc d) = d

-- what one more is less than
pub below_bound : (d m : ℕ) → m + 1 < d → m < below d
below_bound zero m h = absurd (omega (arith, h))
below_bound (suc d) m h = omega (arith, h)

-- a first lexeme, and then the other one level deeper
pub again-under : {A B : Type 0} {script printed : List ℕ} {P : Rule A} {P' : ℕ → Rule A} {Q : A → Rule B} {Q' : ℕ → A → Rule B} {u : A → List Word} {w : B → List Word} {us : List Word}
    → ((x : A) → length (u x) ≡ 1)
    → Reprints script printed P P' u [] → ((x : A) → Reprints script printed (Q x) (λ d. Q' d x) w (us ++ u x))
    → Reprints script printed (rules_.Bind P Q) (λ d. rules_.Bind (P' d) (Q' (below d))) w us
again-under {A} {B} {script} {printed} {P} {P'} {Q} {Q'} {u} {w} {us} one E D = record {
  redo = λ ts y rest p h.
      let x = h.0 in
      let mid = h.1 in
      let a = E.redo ts x mid p h.2 in
      let b = (D x).redo mid y rest (proper-rest script a p) h.3 in
      record {
        front = a.front ++ b.front;
        split = two_parts a.front a.front b.front rest ts mid a.split b.split;
        vs = a.vs ++ b.vs;
        words = b.words ∙ ap (λ z. (us ++ z) ++ b.vs) a.words ∙ append_assoc us a.vs b.vs;
        well = well-append a.vs b.vs a.well b.well;
        no_deeper = two_sorts a.front b.front a.vs b.vs a.no_deeper b.no_deeper;
        again = λ d seg tail short some sp.
            let k = halves printed seg a.vs b.vs sp in
            let sum : length seg ≡ length k.first + length k.second = ap length k.whole ∙ length-append k.first k.second in
            let single : length k.first ≡ 1 = spelled-length printed k.first a.vs k.left ∙ ap length (sym a.words) ∙ one x in
            let both : 0 < length (k.second ++ tail) = omega (arith, length-append k.second tail, some) in
            subst (λ s. rules_.Bind (P' d) (Q' (below d)) (s ++ tail) y tail) (sym k.whole)
            (subst (λ s. rules_.Bind (P' d) (Q' (below d)) s y tail) (sym (append_assoc k.first k.second tail))
            (x, k.second ++ tail, a.again d k.first (k.second ++ tail) (omega (arith, sum, short)) both k.left, b.again (below d) k.second tail (below_bound d (length k.second) (omega (arith, sum, single, short))) some k.right));
      };
}

-- the same words behind others
pub again-behind : {A : Type 0} {script printed : List ℕ} {P : Rule A} {P' : ℕ → Rule A} {f w : A → List Word} {us : List Word}
    → ((x : A) → w x ≡ us ++ f x) → Reprints script printed P P' f [] → Reprints script printed P P' w us
again-behind {A} {script} {printed} {P} {P'} {f} {w} {us} e E = record {
  redo = λ ts x rest p h.
      let a = E.redo ts x rest p h in
      record { front = a.front; split = a.split; vs = a.vs; words = e x ∙ ap (λ z. us ++ z) a.words; well = a.well; no_deeper = a.no_deeper; again = a.again };
}

-- the value by a function
pub again-map : {A B : Type 0} {script printed : List ℕ} {P : Rule A} {P' : ℕ → Rule A} {u : A → List Word} {w : B → List Word} {us : List Word} (g : A → B)
    → ((x : A) → w (g x) ≡ us ++ u x) → Reprints script printed P P' u []
    → Reprints script printed (rules_.Bind P (λ x. rules_.pure (g x))) (λ d. rules_.Bind (P' d) (λ x. rules_.pure (g x))) w us
again-map g e E = again-bind E (λ x. again-pure (e x))

-- the one, or the other
pub again-or : {A : Type 0} {script printed : List ℕ} {P Q : Rule A} {P' Q' : ℕ → Rule A} {w : A → List Word} {us : List Word}
    → Reprints script printed P P' w us → Reprints script printed Q Q' w us → Reprints script printed (P or Q) (λ d. P' d or Q' d) w us
again-or {A} {script} {printed} {P} {Q} {P'} {Q'} {w} {us} E D = record { redo = go }
  where
    go : (ts : List Lexeme) (x : A) (rest : List Lexeme) → AreProper script ts → P ts x rest ⊎ Q ts x rest → Part printed (λ d. P' d or Q' d) w us ts x rest
    go ts x rest p (inl h) =
        let a = E.redo ts x rest p h in
        record { front = a.front; split = a.split; vs = a.vs; words = a.words; well = a.well; no_deeper = a.no_deeper; again = λ d seg tail short some sp. inl (a.again d seg tail short some sp) }
    go ts x rest p (inr h) =
        let a = D.redo ts x rest p h in
        record { front = a.front; split = a.split; vs = a.vs; words = a.words; well = a.well; no_deeper = a.no_deeper; again = λ d seg tail short some sp. inr (a.again d seg tail short some sp) }

-- a rule that says the same as another
pub again-like : {A : Type 0} {script printed : List ℕ} {P R : Rule A} {P' R' : ℕ → Rule A} {w : A → List Word} {us : List Word}
    → ((ts : List Lexeme) (x : A) (rest : List Lexeme) → R ts x rest → P ts x rest) → ((d : ℕ) (ts : List Lexeme) (x : A) (rest : List Lexeme) → P' d ts x rest → R' d ts x rest)
    → Reprints script printed P P' w us → Reprints script printed R R' w us
again-like to from E = record {
  redo = λ ts x rest p h.
      let a = E.redo ts x rest p (to ts x rest h) in
      record { front = a.front; split = a.split; vs = a.vs; words = a.words; well = a.well; no_deeper = a.no_deeper; again = λ d seg tail short some sp. from d (seg ++ tail) x tail (a.again d seg tail short some sp) };
}

-- a rule for lexemes of any count, by their own count
pub again-counted : {A : Type 0} {script printed : List ℕ} {P : ℕ → Rule A} {P' : ℕ → Rule A} {w : A → List Word} {us : List Word}
    → ((d : ℕ) → Reprints script printed (P d) P' w us) → Reprints script printed (λ ts. P (length ts) ts) (λ d ts. P' (length ts) ts) w us
again-counted E = record {
  redo = λ ts x rest p h.
      let a = (E (length ts)).redo ts x rest p h in
      record {
        front = a.front;
        split = a.split;
        vs = a.vs;
        words = a.words;
        well = a.well;
        no_deeper = a.no_deeper;
        again = λ d seg tail short some sp. a.again (length (seg ++ tail)) seg tail (omega (arith, length-append seg tail, some)) some sp;
      };
}

-- a part by a rule that says more
pub recast : {A : Type 0} {printed : List ℕ} {P' R' : ℕ → Rule A} {w : A → List Word} {us : List Word} {ts : List Lexeme} {x : A} {rest : List Lexeme}
    → ((d : ℕ) (ts : List Lexeme) (rest : List Lexeme) → P' d ts x rest → R' d ts x rest) → Part printed P' w us ts x rest → Part printed R' w us ts x rest
recast {A} {printed} {P'} {R'} {w} {us} {ts} {x} {rest} from a =
    record { front = a.front; split = a.split; vs = a.vs; words = a.words; well = a.well; no_deeper = a.no_deeper; again = λ d seg tail short some sp. from d (seg ++ tail) tail (a.again d seg tail short some sp) }

-- any number of parts
many_part : {A : Type 0} {script printed : List ℕ} {P : Rule A} {P' : ℕ → Rule A} {f : A → List Word} → Reprints script printed P P' f []
    → (ts : List Lexeme) (xs : List A) (rest : List Lexeme) → AreProper script ts → Many P ts xs rest → Part printed (λ d. Many (P' d)) (each f) [] ts xs rest
many_part {A} {script} {printed} {P} {P'} {f} E ts [] rest p h = record {
  front = [];
  split = sym h;
  vs = [];
  words = refl;
  well = tt;
  no_deeper = no_deeper-nil;
  again = λ d seg tail short some sp. none_spelled printed seg tail sp;
}
many_part {A} {script} {printed} {P} {P'} {f} E ts (x ∷ xs) rest p h =
    let mid = h.0 in
    let a = E.redo ts x mid p h.1 in
    let b = many_part E mid xs rest (proper-rest script a p) h.2 in
    record {
      front = a.front ++ b.front;
      split = two_parts a.front a.front b.front rest ts mid a.split b.split;
      vs = a.vs ++ b.vs;
      words = ap (λ z. z ++ each f xs) a.words ∙ ap (λ z. a.vs ++ z) b.words;
      well = well-append a.vs b.vs a.well b.well;
      no_deeper = two_sorts a.front b.front a.vs b.vs a.no_deeper b.no_deeper;
      again = λ d seg tail short some sp.
          let k = halves printed seg a.vs b.vs sp in
          let sum : length seg ≡ length k.first + length k.second = ap length k.whole ∙ length-append k.first k.second in
          let both : 0 < length (k.second ++ tail) = omega (arith, length-append k.second tail, some) in
          subst (λ s. Many (P' d) (s ++ tail) (x ∷ xs) tail) (sym k.whole)
          (subst (λ s. Many (P' d) s (x ∷ xs) tail) (sym (append_assoc k.first k.second tail))
          (k.second ++ tail, a.again d k.first (k.second ++ tail) (omega (arith, sum, short)) both k.left, b.again d k.second tail (omega (arith, sum, short)) some k.right));
    }

-- any number of parts
pub again-many : {A : Type 0} {script printed : List ℕ} {P : Rule A} {P' : ℕ → Rule A} {f : A → List Word} → Reprints script printed P P' f [] → Reprints script printed (Many P) (λ d. Many (P' d)) (each f) []
again-many E = record { redo = many_part E }

-- a part, and then any number of further ones
pub again-joined : {A : Type 0} {script printed : List ℕ} {P Q : Rule A} {P' Q' : ℕ → Rule A} {f g : A → List Word}
    → Reprints script printed P P' f [] → Reprints script printed Q Q' g [] → Reprints script printed (Joined P Q) (λ d. Joined (P' d) (Q' d)) (joined f g) []
again-joined E D = again-bind E (λ x. again-map (λ xs. x ∷ xs) (λ xs. refl) (again-many D))

-- a part, or nothing
pub again-optional : {A : Type 0} {script printed : List ℕ} {P : Rule A} {P' : ℕ → Rule A} {f : A → List Word} {w : Option A → List Word} {us : List Word}
    → ((x : A) → w (Some x) ≡ us ++ f x) → w None ≡ us → Reprints script printed P P' f [] → Reprints script printed (Optional P) (λ d. Optional (P' d)) w us
again-optional e o E = again-or (again-map Some e E) (again-pure o)

-- a lexeme of the sort
pub again-tok : {script printed : List ℕ} (sort : Sort) → is_inner sort ≡ true → ((n : ℕ) → opened_after n sort ≡ n) → Reprints script printed (Tok sort) (λ d. Tok sort) (λ _. Plain sort ∷ []) []
again-tok {script} {printed} sort inner flat = record {
  redo = λ ts x rest p h.
      record {
        front = h.0 ∷ [];
        split = h.1;
        vs = Plain sort ∷ [];
        words = refl;
        well = (inner, tt);
        no_deeper = subst (λ a. IsNoDeeper (a ∷ []) (sort ∷ [])) (sym h.2) (no_deeper-same sort flat);
        again = λ d seg tail short some sp. let o = one_spelled printed seg (Plain sort) sp in (o.lexeme, ap (λ s. s ++ tail) o.whole, o.spells);
      };
}

-- what comes after a lexeme
pub again-after : {B : Type 0} {script printed : List ℕ} {Q : Rule B} {Q' : ℕ → Rule B} {w : B → List Word} {us : List Word} (sort : Sort)
    → is_inner sort ≡ true → ((n : ℕ) → opened_after n sort ≡ n) → Reprints script printed Q Q' w (us ++ Plain sort ∷ [])
    → Reprints script printed (rules_.Bind (Tok sort) (λ _. Q)) (λ d. rules_.Bind (Tok sort) (λ _. Q' d)) w us
again-after sort inner flat E = again-bind (again-tok sort inner flat) (λ _. E)

-- what comes after a lexeme, with the word before its words
pub again-past : {B : Type 0} {script printed : List ℕ} {Q : Rule B} {Q' : ℕ → Rule B} {f : B → List Word} (sort : Sort)
    → is_inner sort ≡ true → ((n : ℕ) → opened_after n sort ≡ n) → Reprints script printed Q Q' f []
    → Reprints script printed (Past sort Q) (λ d. Past sort (Q' d)) (behind sort f) []
again-past sort inner flat E = again-after sort inner flat (again-behind (λ x. refl) E)

-- whether a table and its words agree at a sort
abbrev pub agrees : {A : Type 0} → (A → Sort) → Option A → Sort → Bool
agrees g (Some x) a = same_sort (g x) a && is_inner (g x)
agrees g None a = true

-- a word of a table is the lexeme's own
agreed : {A : Type 0} (g : A → Sort) (o : Option A) (a : Sort) (x : A) → agrees g o a ≡ true → o ≡ Some x → (g x ≡ a) × (is_inner (g x) ≡ true)
agreed g (Some y) a x e f =
    let same = subst (λ o. agrees g o a ≡ true) f e in
    (is_sort (g x) a (left_of (same_sort (g x) a) (is_inner (g x)) same), right_of (same_sort (g x) a) (is_inner (g x)) same)
agreed g None a x e f = cc

-- a lexeme with a meaning
pub again-worded : {A : Type 0} {script printed : List ℕ} (table : Sort → Option A) (g : A → Sort) → everywhere (λ a. agrees g (table a) a) ≡ true → ((x : A) (n : ℕ) → opened_after n (g x) ≡ n)
    → Reprints script printed (Worded table) (λ d. Worded table) (λ x. Plain (g x) ∷ []) []
again-worded {A} {script} {printed} table g all flat = record {
  redo = λ ts x rest p h.
      let t = h.0 in
      let same = agreed g (table t.sort) t.sort x (every_sort (λ a. agrees g (table a) a) all t.sort) h.2 in
      record {
        front = t ∷ [];
        split = h.1;
        vs = Plain (g x) ∷ [];
        words = refl;
        well = (same.1, tt);
        no_deeper = subst (λ a. IsNoDeeper (a ∷ []) (g x ∷ [])) same.0 (no_deeper-same (g x) (flat x));
        again = λ d seg tail short some sp.
            let o = one_spelled printed seg (Plain (g x)) sp in
            (o.lexeme, ap (λ s. s ++ tail) o.whole, ap table (o.spells ∙ same.0) ∙ h.2);
      };
}

-- ---- parentheses

-- lexemes in parentheses
pub record Round (script : List ℕ) (seg : List Lexeme) (ws : List Word) : Type 0 where
  pub open_ : Lexeme
  pub inside : List Lexeme
  pub close : Lexeme
  pub whole : seg ≡ open_ ∷ inside ++ close ∷ []
  pub opens : open_.sort ≡ k.LeftParen
  pub spelled : SpellAll script inside ws
  pub closes : close.sort ≡ k.RightParen

-- words in parentheses are spelled in parentheses
pub round_spelled : (script : List ℕ) (seg : List Lexeme) (ws : List Word) → SpellAll script seg (enclosed ws) → Round script seg ws
round_spelled script [] ws h = absurd h
round_spelled script (t ∷ ts) ws h =
    let cut = halves script ts ws (Plain k.RightParen ∷ []) h.1 in
    let o = one_spelled script cut.second (Plain k.RightParen) cut.right in
    record { open_ = t; inside = cut.first; close = o.lexeme; whole = ap (λ s. t ∷ s) (cut.whole ∙ ap (λ s. cut.first ++ s) o.whole); opens = h.0; spelled = cut.left; closes = o.spells }

-- words in parentheses are well
pub well-enclosed : (ws : List Word) → AreWell ws → AreWell (enclosed ws)
well-enclosed ws h = (refl, well-append ws (Plain k.RightParen ∷ []) h (refl, tt))

-- the sorts of lexemes in parentheses
pub round_sorts : (t u : Lexeme) (ts : List Lexeme) → t.sort ≡ k.LeftParen → u.sort ≡ k.RightParen → sorts_of (t ∷ ts ++ u ∷ []) ≡ round (sorts_of ts)
round_sorts t u ts e f = ap (λ a. a ∷ sorts_of (ts ++ u ∷ [])) e ∙ ap (λ rest. k.LeftParen ∷ rest) (map-append (λ t. t.sort) ts (u ∷ []) ∙ ap (λ a. sorts_of ts ++ a ∷ []) f)

-- the sorts of words in parentheses
pub enclosed_sorts : (ws : List Word) → map word_sort (enclosed ws) ≡ round (map word_sort ws)
enclosed_sorts ws = ap (λ rest. k.LeftParen ∷ rest) (map-append word_sort ws (Plain k.RightParen ∷ []))

-- what is in parentheses is by the rule in parentheses
pub in_round : {A : Type 0} (P : Rule A) (script : List ℕ) (seg : List Lexeme) (ws : List Word) (tail : List Lexeme) (x : A) (r : Round script seg ws)
    → P (r.inside ++ (r.close ∷ tail)) x (r.close ∷ tail) → Single P (seg ++ tail) x tail
in_round P script seg ws tail x r h = (
  tt,
  r.inside ++ (r.close ∷ tail),
  (r.open_, ap (λ s. s ++ tail) r.whole ∙ ap (λ s. r.open_ ∷ s) (append_assoc r.inside (r.close ∷ []) tail), r.opens),
  (x, r.close ∷ tail, h, (tt, tail, (r.close, refl, r.closes), (refl, refl))),
)

-- the front of what is in parentheses
pub record Outer (ts : List Lexeme) (front mid rest : List Lexeme) : Type 0 where
  pub open_ : Lexeme
  pub close : Lexeme
  pub split : ts ≡ (open_ ∷ front ++ close ∷ []) ++ rest
  pub sorts : sorts_of (open_ ∷ front ++ close ∷ []) ≡ round (sorts_of front)

-- the lexemes in parentheses, with these round them
pub outer : (ts inside front mid rest : List Lexeme) → Tok k.LeftParen ts tt inside → inside ≡ front ++ mid → Tok k.RightParen mid tt rest → Outer ts front mid rest
outer ts inside front mid rest o e c = record {
  open_ = o.0;
  close = c.0;
  split = o.1 ∙ ap (λ s. o.0 ∷ s) (e ∙ ap (λ m. front ++ m) c.1 ∙ sym (append_assoc front (c.0 ∷ []) rest));
  sorts = round_sorts o.0 c.0 front o.2 c.2;
}

-- in parentheses, by a rule at another depth
pub again-single_by : {A : Type 0} {script printed : List ℕ} {P : Rule A} {P' : ℕ → Rule A} {f : A → List Word} (lower : ℕ → ℕ) → ((d m : ℕ) → m + 1 < d → m < lower d)
    → Reprints script printed P P' f [] → Reprints script printed (Single P) (λ d. Single (P' (lower d))) (λ x. enclosed (f x)) []
again-single_by {A} {script} {printed} {P} {P'} {f} lower bound E = record {
  redo = λ ts y rest p h.
      let inside = h.1 in
      let x = h.3.0 in
      let mid = h.3.1 in
      let last = h.3.3 in
      let proper : AreProper script inside = (subst (AreProper script) h.2.1 p).1 in
      let a = E.redo inside x mid proper h.3.2 in
      let same : y ≡ x = last.3.0 in
      let close : Tok k.RightParen mid tt rest = subst (λ r. Tok k.RightParen mid tt r) (sym last.3.1) last.2 in
      let o = outer ts inside a.front mid rest h.2 a.split close in
      record {
        front = o.open_ ∷ a.front ++ o.close ∷ [];
        split = o.split;
        vs = enclosed a.vs;
        words = ap (λ x. enclosed (f x)) same ∙ ap enclosed a.words;
        well = well-enclosed a.vs a.well;
        no_deeper = subst (λ s. IsNoDeeper s (map word_sort (enclosed a.vs))) (sym o.sorts) (subst (λ s. IsNoDeeper (round (sorts_of a.front)) s) (sym (enclosed_sorts a.vs)) (no_deeper-round a.no_deeper));
        again = λ d seg tail short some sp.
            let r = round_spelled printed seg a.vs sp in
            let sum : length seg ≡ suc (length r.inside + 1) = ap length r.whole ∙ ap suc (length-append r.inside (r.close ∷ [])) in
            subst (λ y. Single (P' (lower d)) (seg ++ tail) y tail) (sym same)
            (in_round (P' (lower d)) printed seg a.vs tail x r (a.again (lower d) r.inside (r.close ∷ tail) (bound d (length r.inside) (omega (arith, sum, short))) (omega arith) r.spelled));
      };
}

-- in parentheses
pub again-single : {A : Type 0} {script printed : List ℕ} {P : Rule A} {P' : ℕ → Rule A} {f : A → List Word}
    → Reprints script printed P P' f [] → Reprints script printed (Single P) (λ d. Single (P' d)) (λ x. enclosed (f x)) []
again-single E = again-single_by (λ d. d) (λ d m h. omega (arith, h)) E

-- two with a comma between them
abbrev pub TwoOf : {A : Type 0} → Rule A → Rule (A × A)
TwoOf P = rules_.Bind P (λ x. rules_.Bind (Tok k.Comma) (λ _. rules_.Bind P (λ y. rules_.pure (x, y))))

-- two in parentheses are one thing in parentheses
pair-single : {A : Type 0} (P : Rule A) (ts : List Lexeme) (x : A × A) (rest : List Lexeme) → Pair P ts x rest → Single (TwoOf P) ts x rest
pair-single P ts xy rest h =
    let b = h.3 in
    let c = b.3 in
    let e = c.3 in
    let f = e.3 in
    (h.0, h.1, h.2, ((b.0, e.0), e.1, (b.0, b.1, b.2, (c.0, c.1, c.2, (e.0, e.1, e.2, (refl, refl)))), (f.0, f.1, f.2, f.3)))

-- one thing in parentheses that is two
single-pair : {A : Type 0} (P : Rule A) (ts : List Lexeme) (x : A × A) (rest : List Lexeme) → Single (TwoOf P) ts x rest → Pair P ts x rest
single-pair P ts xy rest h =
    let two = h.3.2 in
    let last = h.3.3 in
    let c = two.3 in
    let e = c.3 in
    let i = e.3 in
    (h.0, h.1, h.2, (two.0, two.1, two.2, (c.0, c.1, c.2, (e.0, e.1, e.2, (last.0, last.1, subst (λ m. Tok k.RightParen m last.0 last.1) i.1 last.2, (last.3.0 ∙ i.0, last.3.1))))))

-- two in parentheses
pub again-pair : {A : Type 0} {script printed : List ℕ} {P : Rule A} {P' : ℕ → Rule A} {f : A → List Word}
    → Reprints script printed P P' f [] → Reprints script printed (Pair P) (λ d. Pair (P' d)) (λ x. enclosed (f x.0 ++ Plain k.Comma ∷ f x.1)) []
again-pair {A} {script} {printed} {P} {P'} {f} E =
    again-like (pair-single P) (λ d. single-pair (P' d))
    (again-single (again-bind E (λ x. again-after k.Comma refl (λ n. refl) (again-bind E (λ y. again-pure (sym (append_assoc (f x) (Plain k.Comma ∷ []) (f y))))))))

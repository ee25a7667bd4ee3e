-- Queries are by their rules again when they are printed.
use Rattle.std.proofs.Common.{◌≡◌, ◌==◌, inl, inr, ℕ, suc, Bool, true, false, if◌then◌else◌, List, [], ◌∷◌, ◌++◌, length, Option, Some, None, refl, sym, ap, ◌∙◌, subst, append_assoc, arith}
use Rattle.og_value.specs.declared.term.SetOp.{SetOp}
use Rattle.og_value.specs.declared.term.SetOp.TheVariants as op
use Rattle.og_syntax.specs.declared.lexeme.Sort.{Sort}
use Rattle.og_syntax.specs.declared.lexeme.Sort.TheVariants as k
use Rattle.og_syntax.specs.declared.lexeme.Lexeme.{Lexeme}
use Rattle.og_syntax.specs.declared.tree.CondText.{CondText}
use Rattle.og_syntax.specs.declared.tree.ItemsText.{ItemsText}
use Rattle.og_syntax.specs.declared.tree.ItemsText.TheVariants as i
use Rattle.og_syntax.specs.declared.tree.FromText.{FromText}
use Rattle.og_syntax.specs.declared.tree.SemiText.{SemiText}
use Rattle.og_syntax.specs.Clauses.{all_of, Aliased, table_of, semi_of, Where, before_semis, core_of, rest_of, query_of}
use Rattle.og_syntax.specs.Lexemes.{same_sort}
use Rattle.og_syntax.specs.Meanings.{set_op_of}
use Rattle.og_syntax.specs.Rules.{Rule, ◌or◌, Tok, Many, Joined, Optional, Past, Single}
use Rattle.og_syntax.specs.Rules as rules_
use Rattle.og_syntax.specs.Grammar.{IsConjOf, IsNegIn, IsCond, IsAlias, IsFitem, IsItem, IsItemList, IsItems, IsFirstTable, IsJoinedTable, IsFurtherTable, IsTables, IsSub, IsSemi, IsSemis, IsWcondOf, IsWcond, IsCore, IsFurtherCore, IsQuery}
use Rattle.std.proofs.lemmas.Bool.{ne_eqb}
use Rattle.og_syntax.proofs.EverySort.{everywhere}
use Rattle.og_syntax.proofs.WhereRules.{Between, after_each, between}
use Rattle.og_parse.specs.Depth.{opened_after}
use Rattle.og_print.specs.Words.{Word, Plain}
use Rattle.og_print.specs.Queries.{op_sort, alias_words, cond_clause_words, item_words, item_list_words, items_words, name_words, table_words, further_table_words, tables_words, semi_words, semis_words, front_words, where_words, core_words, rest_words, query_words}
use Rattle.og_print.proofs.Spelling.{AreProper}
use Rattle.og_print.proofs.Depths.{nests, IsNoDeeper}
use Rattle.og_print.proofs.Nesting.{low, neither, no_deeper-nil}
use Rattle.og_print.proofs.Reprints.{Part, Reprints, halves, one_spelled, none_spelled, agrees, recast, again-pure, again-bind, again-bind_where, again-map, again-or, again-like, again-counted, again-many, again-joined, again-optional, again-after, again-past, again-worded, again-single}
use Rattle.og_print.proofs.ExpressionReprints.{again-name, again-expr}
use Rattle.og_print.proofs.ConditionReprints.{alone_words, again-conj, again-cond_of, again-cond}

-- ---- names and items

-- a word AS before others nests nothing
as_before : {a b : List Sort} → IsNoDeeper a b → IsNoDeeper a (k.As ∷ b)
unfolding same_sort
as_before {a} {b} A = record {
  first_closed = A.first_closed;
  second_closed = A.second_closed;
  nested = λ m n le most h. neither _ (nests m b) (low m n le most) (A.nested m n le most h);
  nots = A.nots;
  set_words = A.set_words;
}

-- an alias
alias_part : (script printed : List ℕ) (ts : List Lexeme) (y : Option (List ℕ)) (rest : List Lexeme) → AreProper script ts → IsAlias script ts y rest → Part printed (λ d. IsAlias printed) alias_words [] ts y rest
unfolding IsAlias
alias_part script printed ts y rest p (inl h) =
    let x = h.0 in
    let a = (again-name script printed).redo ts x h.1 p h.2 in
    record {
      front = a.front;
      split = a.split ∙ ap (λ m. a.front ++ m) (sym h.3.1);
      vs = Plain k.As ∷ a.vs;
      words = ap alias_words h.3.0 ∙ ap (λ z. Plain k.As ∷ z) a.words;
      well = (refl, a.well);
      no_deeper = as_before a.no_deeper;
      again = λ d seg tail short some sp.
          let cut = halves printed seg (Plain k.As ∷ []) a.vs sp in
          let o = one_spelled printed cut.first (Plain k.As) cut.left in
          let whole : seg ≡ o.lexeme ∷ cut.second = cut.whole ∙ ap (λ f. f ++ cut.second) o.whole in
          let count : length seg ≡ suc (length cut.second) = ap length whole in
          inr (inl (tt, cut.second ++ tail, (o.lexeme, ap (λ s. s ++ tail) whole, o.spells), (x, tail, a.again d cut.second tail (omega (arith, count, short)) some cut.right, (h.3.0, refl))));
    }
alias_part script printed ts y rest p (inr (inl h)) =
    recast (λ d ts rest h. inr (inl h)) ((again-after k.As refl (λ n. refl) (again-map {w = alias_words} Some (λ z. refl) (again-name script printed))).redo ts y rest p h)
alias_part script printed ts y rest p (inr (inr h)) = recast (λ d ts rest h. inr (inr h)) ((again-pure {script = script} {printed = printed} {a = None} {w = alias_words} {us = []} refl).redo ts y rest p h)

-- an alias
pub again-alias : (script printed : List ℕ) → Reprints script printed (IsAlias script) (λ d. IsAlias printed) alias_words []
again-alias script printed = record { redo = alias_part script printed }

-- the words of a name and its alias
abbrev fitem_words : Aliased → List Word
fitem_words x = name_words x.0 x.1

-- a name and its alias
again-fitem : (script printed : List ℕ) → Reprints script printed (IsFitem script) (λ d. IsFitem printed) fitem_words []
unfolding IsFitem
again-fitem script printed = again-bind (again-name script printed) (λ x. again-map {w = fitem_words} (λ y. (x, y)) (λ y. refl) (again-alias script printed))

-- an item
again-item : (script printed : List ℕ) → Reprints script printed (IsItem script true) (λ d. IsItem printed true) item_words []
unfolding IsItem
again-item script printed =
    again-bind (again-expr script printed) (λ x. again-bind (again-optional {w = alias_words} (λ z. refl) refl (again-past k.As refl (λ n. refl) (again-name script printed))) (λ y. again-pure refl))

-- items
again-item_list : (script printed : List ℕ) → Reprints script printed (IsItemList script true) (λ d. IsItemList printed true) item_list_words []
unfolding IsItemList
again-item_list script printed = again-joined (again-item script printed) (again-past k.Comma refl (λ n. refl) (again-item script printed))

-- a star, or items
again-items : (script printed : List ℕ) → Reprints script printed (IsItems script true) (λ d. IsItems printed true) items_words []
unfolding IsItems
again-items script printed = again-or (again-after k.Star refl (λ n. refl) (again-pure refl)) (again-map i.List (λ xs. refl) (again-item_list script printed))

-- ---- tables

-- the first table
again-first_table : (script printed : List ℕ) → Reprints script printed (IsFirstTable script) (λ d. IsFirstTable printed) table_words []
unfolding IsFirstTable
again-first_table script printed = again-map (λ x. table_of x None) (λ x. refl) (again-fitem script printed)

-- a further table
again-further_table : (script printed : List ℕ) → Reprints script printed (IsFurtherTable script true) (λ d. IsFurtherTable printed true) further_table_words []
unfolding IsFurtherTable IsFirstTable IsJoinedTable
again-further_table script printed =
    again-or (again-after k.Comma refl (λ n. refl) (again-map {w = further_table_words} (λ x. table_of x None) (λ x. refl) (again-fitem script printed)))
    (again-after k.Join refl (λ n. refl) (again-bind (again-fitem script printed) (λ x.
    again-after k.On refl (λ n. refl) (again-map {w = further_table_words} (λ y. table_of x (Some y)) (λ y. sym (append_assoc (Plain k.Join ∷ fitem_words x) (Plain k.On ∷ []) (alone_words y))) (again-cond script printed)))))

-- the tables of FROM
again-tables : (script printed : List ℕ) → Reprints script printed (IsTables script true) (λ d. IsTables printed true) tables_words []
unfolding IsTables
again-tables script printed = again-joined (again-first_table script printed) (again-further_table script printed)

-- ---- EXISTS

-- the words of what stands in the parentheses of EXISTS
abbrev inner_words : Aliased × Option CondText → List Word
inner_words z = Plain k.Select ∷ Plain k.Star ∷ Plain k.From ∷ fitem_words z.0 ++ cond_clause_words z.1

-- a condition after WHERE, or none
pub again-cond_clause : (script printed : List ℕ) → Reprints script printed (Optional (Past k.Where (IsCond script true))) (λ d. Optional (Past k.Where (IsCond printed true))) cond_clause_words []
again-cond_clause script printed = again-optional (λ z. refl) refl (again-past k.Where refl (λ n. refl) (again-cond script printed))

-- what stands in the parentheses of EXISTS
again-sub : (script printed : List ℕ) → Reprints script printed (IsSub script true) (λ d. IsSub printed true) inner_words []
unfolding IsSub
again-sub script printed =
    again-after k.Select refl (λ n. refl) (again-after k.Star refl (λ n. refl) (again-after k.From refl (λ n. refl)
    (again-bind (again-fitem script printed) (λ x. again-map {w = inner_words} (λ y. (x, y)) (λ y. refl) (again-cond_clause script printed)))))

-- EXISTS or NOT EXISTS
again-semi : (script printed : List ℕ) → Reprints script printed (IsSemi script true) (λ d. IsSemi printed true) semi_words []
unfolding IsSemi
again-semi script printed =
    again-or (again-after k.Exists refl (λ n. refl) (again-map {w = semi_words} (semi_of true) (λ z. refl) (again-single (again-sub script printed))))
    (again-after k.Not refl (λ n. refl) (again-after k.Exists refl (λ n. refl) (again-map {w = semi_words} (semi_of false) (λ z. refl) (again-single (again-sub script printed)))))

-- such conditions
again-semis : (script printed : List ℕ) → Reprints script printed (IsSemis script true) (λ d. IsSemis printed true) semis_words []
unfolding IsSemis
again-semis script printed = again-joined (again-semi script printed) (again-past k.And refl (λ n. refl) (again-semi script printed))

-- there is one at least
some_semis : (script : List ℕ) (ts : List Lexeme) (xs : List SemiText) (rest : List Lexeme) → IsSemis script true ts xs rest → (length xs == 0) ≡ false
unfolding IsSemis
some_semis script ts xs rest h =
    let m = h.3 in
    ap (λ xs. length xs == 0) m.3.0 ∙ ne_eqb (suc (length m.0)) 0 (λ e. omega (arith, e))

-- ---- WHERE

-- a condition and the AND after it
abbrev With : Rule CondText → Rule CondText
With Neg = rules_.Bind Neg (λ x. rules_.Bind (Tok k.And) (λ _. rules_.pure x))

-- conditions with AND after each, as one
abbrev FrontOf : Rule CondText → Rule (Option CondText)
FrontOf Neg = rules_.Bind (Many (With Neg)) (λ xs. rules_.pure (before_semis xs))

-- a conjunction and the AND after it
abbrev OneFront : Rule CondText → Rule (Option CondText)
OneFront Neg = rules_.Bind (IsConjOf Neg) (λ x. rules_.Bind (Tok k.And) (λ _. rules_.pure (Some x)))

-- several with AND after each are a conjunction and the AND after it
front_to : (Neg : Rule CondText) (ts : List Lexeme) (x : CondText) (xs : List CondText) (rest : List Lexeme) → Many (With Neg) ts (x ∷ xs) rest → OneFront Neg ts (Some (all_of (x ∷ xs))) rest
unfolding IsConjOf
front_to Neg ts x xs rest m =
    let b = between Neg ts x xs rest m in
    (all_of (x ∷ xs), b.last_end, (x ∷ xs, b.last_end, (x, b.first_end, b.first, (xs, b.last_end, b.others, (refl, refl))), (refl, refl)), (tt, rest, b.then_and, (refl, refl)))

-- a conjunction and the AND after it are several with AND after each
front_from : (Neg : Rule CondText) (ts : List Lexeme) (y : Option CondText) (rest : List Lexeme) → OneFront Neg ts y rest → FrontOf Neg ts y rest
unfolding IsConjOf
front_from Neg ts y rest h =
    let j = h.2 in
    let g = j.2 in
    let m = g.3 in
    let t = h.3 in
    let end : h.1 ≡ m.1 = j.3.1 ∙ m.3.1 in
    (g.0 ∷ m.0, t.1, after_each Neg ts g.0 g.1 m.0 m.1 t.1 g.2 m.2 (subst (λ b. Tok k.And b tt t.1) end t.2), (t.3.0 ∙ ap Some (j.3.0 ∙ ap all_of m.3.0), t.3.1))

-- a conjunction and the AND after it
again-one_front : (script printed : List ℕ) (d : ℕ) → Reprints script printed (OneFront (IsNegIn script true d)) (λ d. OneFront (IsNegIn printed true d)) front_words []
again-one_front script printed d = again-bind (again-conj script printed d) (λ x. again-after k.And refl (λ n. refl) (again-pure refl))

-- conditions with AND after each
front_part : (script printed : List ℕ) (d : ℕ) (ts : List Lexeme) (y : Option CondText) (rest : List Lexeme) (xs : List CondText) (m : List Lexeme) → AreProper script ts
    → Many (With (IsNegIn script true d)) ts xs m → y ≡ before_semis xs → rest ≡ m → Part printed (λ d. FrontOf (IsNegIn printed true d)) front_words [] ts y rest
front_part script printed d ts y rest [] m p h e f = record {
  front = [];
  split = sym h ∙ sym f;
  vs = [];
  words = ap front_words e;
  well = tt;
  no_deeper = no_deeper-nil;
  again = λ d seg tail short some sp. ([], tail, none_spelled printed seg tail sp, (e, refl));
}
front_part script printed d ts y rest (x ∷ xs) m p h e f =
    let one : OneFront (IsNegIn script true d) ts y rest = subst (λ y. OneFront (IsNegIn script true d) ts y rest) (sym e) (subst (λ r. OneFront (IsNegIn script true d) ts (Some (all_of (x ∷ xs))) r) (sym f) (front_to (IsNegIn script true d) ts x xs m h)) in
    recast (λ d ts rest b. front_from (IsNegIn printed true d) ts y rest b) ((again-one_front script printed d).redo ts y rest p one)

-- conditions with AND after each
again-front : (script printed : List ℕ) (d : ℕ) → Reprints script printed (FrontOf (IsNegIn script true d)) (λ d. FrontOf (IsNegIn printed true d)) front_words []
again-front script printed d = record { redo = λ ts y rest p h. front_part script printed d ts y rest h.0 h.1 p h.2 h.3.0 h.3.1 }

-- the words of what stands after WHERE
abbrev clause_words : Where → List Word
clause_words w = where_words w.0 w.1

-- conditions, and then EXISTS
abbrev WithSemis : List ℕ → Rule CondText → Rule Where
WithSemis script Neg = rules_.Bind (Many (With Neg)) (λ xs. rules_.Bind (IsSemis script true) (λ ss. rules_.pure (before_semis xs, ss)))

-- the same, with the conditions as one
abbrev FrontAndSemis : List ℕ → Rule CondText → Rule Where
FrontAndSemis script Neg = rules_.Bind (FrontOf Neg) (λ x. rules_.Bind (IsSemis script true) (λ ss. rules_.pure (x, ss)))

-- the two say the same
to_front : (script : List ℕ) (Neg : Rule CondText) (ts : List Lexeme) (w : Where) (rest : List Lexeme) → WithSemis script Neg ts w rest → FrontAndSemis script Neg ts w rest
to_front script Neg ts w rest h = (before_semis h.0, h.1, (h.0, h.1, h.2, (refl, refl)), h.3)

-- the two say the same
from_front : (script : List ℕ) (Neg : Rule CondText) (ts : List Lexeme) (w : Where) (rest : List Lexeme) → FrontAndSemis script Neg ts w rest → WithSemis script Neg ts w rest
from_front script Neg ts w rest h =
    let f = h.2 in
    let s = h.3 in
    (f.0, f.1, f.2, (s.0, s.1, subst (λ m. IsSemis script true m s.0 s.1) f.3.1 s.2, (s.3.0 ∙ ap (λ x. (x, s.0)) f.3.0, s.3.1)))

-- the words of conditions and EXISTS
both_words : (x : Option CondText) (ss : List SemiText) → (length ss == 0) ≡ false → where_words x ss ≡ Plain k.Where ∷ front_words x ++ semis_words ss
both_words x ss e = ap (λ b. if b then cond_clause_words x else Plain k.Where ∷ front_words x ++ semis_words ss) e

-- what stands after WHERE
again-wcond_of : (script printed : List ℕ) (d : ℕ) → Reprints script printed (IsWcondOf script true (IsNegIn script true d)) (λ d. IsWcondOf printed true (IsNegIn printed true d)) clause_words (Plain k.Where ∷ [])
unfolding IsWcondOf
again-wcond_of script printed d =
    again-or (again-map {w = clause_words} (λ x. (Some x, [])) (λ x. refl) (again-cond_of script printed d))
    (again-like (to_front script (IsNegIn script true d)) (λ d. from_front printed (IsNegIn printed true d))
    (again-bind (again-front script printed d) (λ x. again-bind_where (λ ss. (length ss == 0) ≡ false) (some_semis script) (again-semis script printed) (λ ss some. again-pure (both_words x ss some)))))

-- what stands after WHERE, of a live query or not
again-wcond : (script printed : List ℕ) (live : Bool) → Reprints script printed (IsWcond script true live) (λ d. IsWcond printed true live) clause_words (Plain k.Where ∷ [])
unfolding IsWcond
again-wcond script printed true = again-map {w = clause_words} (λ x. (Some x, [])) (λ x. refl) (again-cond script printed)
again-wcond script printed false = again-counted (again-wcond_of script printed)

-- ---- queries

-- WHERE and what stands after it, or nothing
abbrev optional_words : Option Where → List Word
optional_words (Some w) = clause_words w
optional_words None = []

-- the parts of a SELECT, one after the other
parts_of_core : (I T O : List Word) → Plain k.Select ∷ I ++ Plain k.From ∷ T ++ O ≡ (((Plain k.Select ∷ I) ++ Plain k.From ∷ []) ++ T) ++ O
parts_of_core I T O = ap (λ z. z ++ O) (sym (append_assoc (Plain k.Select ∷ I) (Plain k.From ∷ []) T))

-- the words of a SELECT
core_of-words : (items : ItemsText) (tables : List FromText) (w : Option Where) → core_words (core_of items tables w) ≡ (((Plain k.Select ∷ items_words items) ++ Plain k.From ∷ []) ++ tables_words tables) ++ optional_words w
core_of-words items tables (Some w) = parts_of_core (items_words items) (tables_words tables) (clause_words w)
core_of-words items tables None = parts_of_core (items_words items) (tables_words tables) []

-- a SELECT
again-core : (script printed : List ℕ) (live : Bool) → Reprints script printed (IsCore script true live) (λ d. IsCore printed true live) core_words []
unfolding IsCore
again-core script printed live =
    again-after k.Select refl (λ n. refl) (again-bind (again-items script printed) (λ xs. again-after k.From refl (λ n. refl) (again-bind (again-tables script printed) (λ ts.
    again-bind (again-optional {w = optional_words} (λ w. refl) refl (again-after k.Where refl (λ n. refl) (again-wcond script printed live))) (λ w. again-pure (core_of-words xs ts w))))))

-- the word of an operator is no parenthesis
flat-op : (o : SetOp) (n : ℕ) → opened_after n (op_sort o) ≡ n
flat-op op.Union n = refl
flat-op op.Except n = refl
flat-op op.Intersect n = refl

-- the word of an operator is that of its meaning
op_agrees : (live : Bool) → everywhere (λ a. agrees op_sort (set_op_of live a) a) ≡ true
unfolding same_sort
op_agrees true = refl
op_agrees false = refl

-- a further core
again-further_core : (script printed : List ℕ) (live : Bool) → Reprints script printed (IsFurtherCore script true live) (λ d. IsFurtherCore printed true live) rest_words []
unfolding IsFurtherCore
again-further_core script printed live =
    again-bind (again-worded (set_op_of live) op_sort (op_agrees live) flat-op) (λ o. again-map {w = rest_words} (rest_of o) (λ x. refl) (again-core script printed live))

-- a query
pub again-query : (script printed : List ℕ) (live : Bool) → Reprints script printed (IsQuery script true live) (λ d. IsQuery printed true live) query_words []
unfolding IsQuery
again-query script printed live = again-bind (again-core script printed live) (λ x. again-map {w = query_words} (query_of x) (λ xs. refl) (again-many (again-further_core script printed live)))

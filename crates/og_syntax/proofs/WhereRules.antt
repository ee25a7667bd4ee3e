-- The reader of what stands after WHERE is its rule.
use Rattle.std.proofs.Common.{◌≡◌, ◌⊎◌, inl, inr, ℕ, zero, suc, ◌<◌, Bool, true, false, not, ◌&&◌, ◌||◌, if◌then◌else◌, List, [], ◌∷◌, Some, None, length, drop, refl, sym, ap, ◌∙◌, subst, le_refl}
use Rattle.og_syntax.specs.declared.lexeme.Sort.{Sort}
use Rattle.og_syntax.specs.declared.lexeme.Sort.TheVariants as k
use Rattle.og_syntax.specs.declared.lexeme.Lexeme.{Lexeme}
use Rattle.og_syntax.specs.declared.tree.CondText.{CondText}
use Rattle.og_syntax.specs.declared.tree.CondText.TheVariants as c
use Rattle.og_syntax.specs.Lexemes.{is, same_sort, sort_at, sees}
use Rattle.og_syntax.specs.Reading as reading
use Rattle.og_syntax.specs.Reading.{Reads, got, and_then, past, more_if, more_if_from, joined_if}
use Rattle.og_syntax.specs.Rules as rules_
use Rattle.og_syntax.specs.Rules.{Rule, Tok, Past, Many, Joined, ◌or◌}
use Rattle.og_syntax.specs.Clauses.{all_of, any_of, Where, before_semis}
use Rattle.og_syntax.specs.Reader.{semis, begins_semi, and_neg, where_end, wcond_of, wcond}
use Rattle.og_syntax.specs.Grammar.{IsConjOf, IsCondOf, IsNegIn, IsSemis, IsWcondOf, IsWcond}
use Rattle.og_syntax.specs.Follow.{after_expr, after_conj, after_cond, ahead, anything}
use Rattle.og_syntax.proofs.Exact.{Exact, not_true, not_false, both_of, left_of, right_of, or_left, same_self, got_same, shrinks, bind_sound, bind_lead, if_sound, more_sound, more_complete, many_ahead, exact-pure, exact-tok, exact-bind, exact-after, exact-map, exact-loose, exact-ends, exact-choose, exact-more}
use Rattle.og_syntax.proofs.ExpressionRules.{apart_from, other_first, other_second}
use Rattle.og_syntax.proofs.ConditionRules.{atom_begins, neg_begins, exact-conj_of, exact-cond_of, exact-atom_of, exact-neg_in, exact-cond}
use Rattle.og_syntax.proofs.QueryRules.{semi_begins, exact-semis, semis_come}

-- ---- AND between conditions and AND after each of them

-- a condition and the AND after it
abbrev With : Rule CondText → Rule CondText
With Neg = rules_.Bind Neg (λ x. rules_.Bind (Tok k.And) (λ _. rules_.pure x))

-- no lexeme of these begins EXISTS or NOT EXISTS
abbrev pub NoSemi : Rule CondText → Type 0
NoSemi Neg = (ts : List Lexeme) (x : CondText) (rest : List Lexeme) → Neg ts x rest → begins_semi ts ≡ false

-- AND after each is AND between them, and AND after the last
pub after_each : (Neg : Rule CondText) (ts : List Lexeme) (x : CondText) (a : List Lexeme) (xs : List CondText) (b rest : List Lexeme)
    → Neg ts x a → Many (Past k.And Neg) a xs b → Tok k.And b tt rest → Many (With Neg) ts (x ∷ xs) rest
after_each Neg ts x a [] b rest h m t = (rest, (x, a, h, (tt, rest, subst (λ b. Tok k.And b tt rest) m t, (refl, refl))), refl)
after_each Neg ts x a (y ∷ ys) b rest h m t =
    let n = m.1 in (n.1, (x, a, h, (tt, n.1, n.2, (refl, refl))), after_each Neg n.1 y m.0 ys b rest n.3 m.2 t)

-- AND between several, and AND after the last
pub record Between (Neg : Rule CondText) (ts : List Lexeme) (x : CondText) (xs : List CondText) (rest : List Lexeme) : Type 0 where
  pub first_end : List Lexeme
  pub last_end : List Lexeme
  pub first : Neg ts x first_end
  pub others : Many (Past k.And Neg) first_end xs last_end
  pub then_and : Tok k.And last_end tt rest

-- AND after each is AND between them, and AND after the last
pub between : (Neg : Rule CondText) (ts : List Lexeme) (x : CondText) (xs : List CondText) (rest : List Lexeme) → Many (With Neg) ts (x ∷ xs) rest → Between Neg ts x xs rest
between Neg ts x [] rest m =
    let n = m.1 in let s = n.3 in record {
      first_end = n.1;
      last_end = n.1;
      first = subst (λ y. Neg ts y n.1) (sym s.3.0) n.2;
      others = refl;
      then_and = subst (λ r. Tok k.And n.1 tt r) (sym (m.2 ∙ s.3.1)) s.2;
    }
between Neg ts x (y ∷ ys) rest m =
    let n = m.1 in let s = n.3 in let later = between Neg m.0 y ys rest m.2 in record {
      first_end = n.1;
      last_end = later.last_end;
      first = subst (λ y. Neg ts y n.1) (sym s.3.0) n.2;
      others = (later.first_end, (tt, m.0, subst (λ r. Tok k.And n.1 tt r) (sym s.3.1) s.2, later.first), later.others);
      then_and = later.then_and;
    }

-- ---- the end of WHERE

-- what stands behind conditions with AND between them
WhereEnd : List ℕ → Bool → Rule CondText → List CondText → Rule Where
WhereEnd script strict Neg xs =
    rules_.Bind (Past k.And (IsSemis script strict)) (λ ss. rules_.pure (Some (all_of xs), ss))
    or rules_.Bind (Many (Past k.Or (IsConjOf Neg))) (λ ys. rules_.pure (Some (any_of (all_of xs ∷ ys)), []))

-- the end of WHERE
exact-where_end : (script : List ℕ) (strict : Bool) {neg : Reads CondText} {Neg : Rule CondText} → Exact false neg_begins after_expr neg Neg → (xs : List CondText)
    → Exact true (λ a. is k.And a || is k.Or a) after_cond (where_end script strict neg xs) (WhereEnd script strict Neg xs)
unfolding where_end WhereEnd same_sort
exact-where_end script strict E xs =
    exact-loose
    (exact-choose (is k.And)
    (exact-ends after_cond (exact-map (exact-after k.And refl (exact-semis script strict)) (λ ss. (Some (all_of xs), ss))) refl)
    (exact-ends after_cond (exact-map (exact-more (exact-after k.Or refl (exact-conj_of E)) refl) (λ ys. (Some (any_of (all_of xs ∷ ys)), []))) refl)
    refl refl)
    refl refl

-- ---- what comes after AND

-- AND does not go on with an expression
and_ahead : (ts rest : List Lexeme) → Tok k.And ts tt rest → ahead after_expr ts ≡ true
unfolding same_sort
and_ahead ts rest t = ap (λ ts. ahead after_expr ts) t.1 ∙ ap (λ s. not (is k.Dot s)) t.2

-- no AND comes
no_and : (ts : List Lexeme) → same_sort (sort_at ts) k.And ≡ false → and_neg ts ≡ false
unfolding and_neg sees
no_and ts e = ap (λ b. b && not (begins_semi (drop 1 ts))) e

-- EXISTS or NOT EXISTS comes after AND
semi_after : (ts rest : List Lexeme) → Tok k.And ts tt rest → begins_semi rest ≡ true → and_neg ts ≡ false
unfolding and_neg
semi_after ts rest t e = stop (sees k.And ts) (begins_semi (drop 1 ts)) (ap (λ ts. begins_semi (drop 1 ts)) t.1 ∙ e)
  where
    stop : (a b : Bool) → b ≡ true → (a && not b) ≡ false
    stop true true e = refl
    stop true false e = cc
    stop false b e = refl

-- a condition comes after AND
goes_on_here : {Neg : Rule CondText} → NoSemi Neg → (ts : List Lexeme) (x : CondText) (rest : List Lexeme) → Past k.And Neg ts x rest → and_neg ts ≡ true
unfolding and_neg sees
goes_on_here N ts x rest h =
    both_of _ _ (ap (λ ts. same_sort (sort_at ts) k.And) h.2.1 ∙ ap (λ s. same_sort s k.And) h.2.2 ∙ same_self k.And)
    (not_false _ (ap (λ ts. begins_semi (drop 1 ts)) h.2.1 ∙ N h.1 x rest h.3))

-- ---- the rule and the reader

-- conditions with AND between them, where none begins a condition of EXISTS
fronts_complete : {neg : Reads CondText} {Neg : Rule CondText} → Exact false neg_begins after_expr neg Neg → NoSemi Neg
    → (ts : List Lexeme) (xs : List CondText) (rest : List Lexeme) → Joined Neg (Past k.And Neg) ts xs rest → ahead after_expr rest ≡ true → and_neg rest ≡ false
    → joined_if neg and_neg (past k.And neg) ts ≡ got xs rest
unfolding more_if same_sort
fronts_complete {neg} {Neg} E N ts xs rest h after stop =
    let m = h.3 in
    let e = exact-after k.And refl E in
    let later : ahead after_expr m.1 ≡ true = subst (λ r. ahead after_expr r ≡ true) m.3.1 after in
    ap (λ r. and_then r (λ x. reading.bind (more_if and_neg (past k.And neg)) (λ xs. reading.pure (x ∷ xs)))) (E.complete ts h.0 h.1 h.2 (many_ahead e refl h.1 m.0 m.1 m.2 later))
    ∙ ap (λ r. and_then r (λ xs. reading.pure (h.0 ∷ xs)))
    (more_complete and_neg e refl (goes_on_here N) (length h.1) h.1 m.0 m.1 m.2 later (subst (λ r. and_neg r ≡ false) m.3.1 stop) (le_refl _))
    ∙ got_same (h.0 ∷ m.0) xs m.1 rest (sym m.3.0) (sym m.3.1)

-- what is read is by one of the two lines
wcond_sound : (script : List ℕ) (strict : Bool) {neg : Reads CondText} {Neg : Rule CondText} → Exact false neg_begins after_expr neg Neg
    → (ts : List Lexeme) (w : Where) (rest : List Lexeme) → wcond_of script strict neg ts ≡ got w rest → IsWcondOf script strict Neg ts w rest
unfolding wcond_of IsWcondOf IsCondOf IsConjOf more_if WhereEnd same_sort
wcond_sound script strict {neg} {Neg} E ts w rest e =
    go (if_sound (begins_semi ts) _ _ w rest _ _
    ((exact-map (exact-semis script strict) (λ ss. (None, ss))).sound ts w rest)
    (bind_sound (joined_if neg and_neg (past k.And neg)) (Joined Neg (Past k.And Neg)) (where_end script strict neg) (WhereEnd script strict Neg)
    (bind_sound neg Neg (λ x. reading.bind (more_if and_neg (past k.And neg)) (λ xs. reading.pure (x ∷ xs))) (λ x. rules_.Bind (Many (Past k.And Neg)) (λ xs. rules_.pure (x ∷ xs))) E.sound
    (λ x. bind_sound (more_if and_neg (past k.And neg)) (Many (Past k.And Neg)) (λ xs. reading.pure (x ∷ xs)) (λ xs. rules_.pure (x ∷ xs))
    (λ ts. more_sound and_neg (past k.And neg) (Past k.And Neg) (exact-after k.And refl E).sound (length ts) ts) (λ xs. (exact-pure (x ∷ xs)).sound)))
    (λ xs. (exact-where_end script strict E xs).sound) ts w rest)
    e)
  where
    plain : (ts : List Lexeme) (xs : List CondText) (b : List Lexeme) (w : Where) (rest : List Lexeme) → Joined Neg (Past k.And Neg) ts xs b → WhereEnd script strict Neg xs b w rest
        → IsWcondOf script strict Neg ts w rest
    plain ts xs b w rest h (inl s) =
        let m = h.3 in
        let p = s.2 in
        inr (
          h.0 ∷ m.0,
          p.1,
          after_each Neg ts h.0 h.1 m.0 b p.1 h.2 (subst (λ r. Many (Past k.And Neg) h.1 m.0 r) (sym m.3.1) m.2) p.2,
          (s.0, s.1, p.3, (s.3.0 ∙ ap (λ xs. (Some (all_of xs), s.0)) m.3.0, s.3.1)),
        )
    plain ts xs b w rest h (inr s) =
        inl (any_of (all_of xs ∷ s.0), s.1, (all_of xs ∷ s.0, s.1, (all_of xs, b, (xs, b, h, (refl, refl)), (s.0, s.1, s.2, (refl, refl))), (refl, refl)), s.3)

    go : rules_.Bind (IsSemis script strict) (λ ss. rules_.pure (None, ss)) ts w rest ⊎ rules_.Bind (Joined Neg (Past k.And Neg)) (WhereEnd script strict Neg) ts w rest
        → IsWcondOf script strict Neg ts w rest
    go (inl s) = inr ([], ts, refl, s)
    go (inr h) = plain ts h.0 h.1 w rest h.2 h.3

-- what is by one of the two lines is read
wcond_complete : (script : List ℕ) (strict : Bool) {neg : Reads CondText} {Neg : Rule CondText} → Exact false neg_begins after_expr neg Neg → NoSemi Neg
    → (ts : List Lexeme) (w : Where) (rest : List Lexeme) → IsWcondOf script strict Neg ts w rest → ahead after_cond rest ≡ true → wcond_of script strict neg ts ≡ got w rest
unfolding wcond_of IsWcondOf IsCondOf IsConjOf WhereEnd same_sort
wcond_complete script strict {neg} {Neg} E N ts w rest (inl h) after =
    let p = h.2 in
    let q = p.2 in
    let conj = q.2 in
    let ors = q.3 in
    let at_end : ahead after_cond ors.1 ≡ true = subst (λ r. ahead after_cond r ≡ true) (h.3.1 ∙ p.3.1 ∙ ors.3.1) after in
    let at_or : ahead after_conj q.1 ≡ true = many_ahead (exact-after k.Or refl (exact-conj_of E)) refl q.1 ors.0 ors.1 ors.2 (left_of (ahead after_conj ors.1) _ at_end) in
    ap (λ b. if b then reading.bind (semis script strict) (λ ss. reading.pure (None, ss)) ts else reading.bind (joined_if neg and_neg (past k.And neg)) (where_end script strict neg) ts)
    (N ts conj.2.0 conj.2.1 conj.2.2)
    ∙ ap (λ r. and_then r (where_end script strict neg))
    (fronts_complete E N ts conj.0 q.1 (subst (λ r. Joined Neg (Past k.And Neg) ts conj.0 r) (sym conj.3.1) conj.2) (left_of (ahead after_expr q.1) _ at_or)
    (no_and q.1 (not_true _ (right_of (ahead after_expr q.1) _ at_or))))
    ∙ (exact-where_end script strict E conj.0).complete q.1 w rest
    (inr (ors.0, ors.1, ors.2, (h.3.0 ∙ ap (λ x. (Some x, [])) (p.3.0 ∙ ap any_of (ors.3.0 ∙ ap (λ c. c ∷ ors.0) conj.3.0)), h.3.1 ∙ p.3.1 ∙ ors.3.1))) after
wcond_complete script strict {neg} {Neg} E N ts w rest (inr h) after = go h.0 h.2 h.3
  where
    go : (xs : List CondText) → Many (With Neg) ts xs h.1 → rules_.Bind (IsSemis script strict) (λ ss. rules_.pure (before_semis xs, ss)) h.1 w rest → wcond_of script strict neg ts ≡ got w rest
    go [] m s =
        let here : IsSemis script strict ts s.0 s.1 = subst (λ r. IsSemis script strict r s.0 s.1) m s.2 in
        ap (λ b. if b then reading.bind (semis script strict) (λ ss. reading.pure (None, ss)) ts else reading.bind (joined_if neg and_neg (past k.And neg)) (where_end script strict neg) ts)
        (semis_come script strict ts s.0 s.1 here)
        ∙ (exact-ends after_cond (exact-map (exact-semis script strict) (λ ss. (None, ss))) refl).complete ts w rest (s.0, s.1, here, s.3) after
    go (x ∷ xs) m s =
        let b = between Neg ts x xs h.1 m in
        ap (λ b. if b then reading.bind (semis script strict) (λ ss. reading.pure (None, ss)) ts else reading.bind (joined_if neg and_neg (past k.And neg)) (where_end script strict neg) ts)
        (N ts x b.first_end b.first)
        ∙ ap (λ r. and_then r (where_end script strict neg))
        (fronts_complete E N ts (x ∷ xs) b.last_end (x, b.first_end, b.first, (xs, b.last_end, b.others, (refl, refl)))
        (and_ahead b.last_end h.1 b.then_and) (semi_after b.last_end h.1 b.then_and (semis_come script strict h.1 s.0 s.1 s.2)))
        ∙ (exact-where_end script strict E (x ∷ xs)).complete b.last_end w rest (inl (s.0, s.1, (tt, h.1, b.then_and, s.2), s.3)) after

-- what stands after WHERE begins so
abbrev pub where_begins : Sort → Bool
where_begins a = neg_begins a || semi_begins a

-- what stands after WHERE takes a lexeme
wcond_lead : (script : List ℕ) (strict : Bool) {neg : Reads CondText} {Neg : Rule CondText} → Exact false neg_begins after_expr neg Neg
    → (ts : List Lexeme) (w : Where) (rest : List Lexeme) → IsWcondOf script strict Neg ts w rest
    → ((where_begins (sort_at ts) ≡ true) × (length rest < length ts)) ⊎ ((false ≡ true) × (rest ≡ ts))
unfolding IsWcondOf same_sort
wcond_lead script strict {neg} {Neg} E ts w rest (inl h) =
    let a = shrinks (exact-map (exact-cond_of E) (λ x. (Some x, []))) ts w rest h in inl (or_left _ _ a.0, a.1)
wcond_lead script strict {neg} {Neg} E ts w rest (inr h) = go (bind_lead some (λ xs. exact-map (exact-semis script strict) (λ ss. (before_semis xs, ss))) ts w rest h)
  where
    one : Exact false (λ a. neg_begins a || (false && is k.And a)) anything (reading.bind neg (λ x. reading.bind (reading.tok k.And) (λ _. reading.pure x))) (With Neg)
    one = exact-bind E (λ x. exact-map (exact-tok k.And refl) (λ _. x)) refl

    some : Exact true (λ a. neg_begins a || (false && is k.And a)) (λ a named. true && not (neg_begins a || (false && is k.And a)))
        (reading.more (λ a. neg_begins a || (false && is k.And a)) (reading.bind neg (λ x. reading.bind (reading.tok k.And) (λ _. reading.pure x)))) (Many (With Neg))
    some = exact-more one refl

    begins : (a b c : Bool) → ((a || (false && b)) || (true && c)) ≡ true → (a || c) ≡ true
    begins true b c e = refl
    begins false b c e = e

    go : ((((neg_begins (sort_at ts) || (false && is k.And (sort_at ts))) || (true && semi_begins (sort_at ts))) ≡ true) × (length rest < length ts)) ⊎ (((true && false) ≡ true) × (rest ≡ ts))
        → ((where_begins (sort_at ts) ≡ true) × (length rest < length ts)) ⊎ ((false ≡ true) × (rest ≡ ts))
    go (inl a) = inl (begins (neg_begins (sort_at ts)) (is k.And (sort_at ts)) (semi_begins (sort_at ts)) a.0, a.1)
    go (inr a) = inr a

-- wcond, of such negations
pub exact-wcond_of : (script : List ℕ) (strict : Bool) {neg : Reads CondText} {Neg : Rule CondText} → Exact false neg_begins after_expr neg Neg → NoSemi Neg
    → Exact false where_begins after_cond (wcond_of script strict neg) (IsWcondOf script strict Neg)
exact-wcond_of script strict E N = record {
  sound = wcond_sound script strict E;
  complete = wcond_complete script strict E N;
  lead = wcond_lead script strict E;
}

-- ---- no negation begins with EXISTS or with NOT EXISTS

-- neither EXISTS nor NOT EXISTS comes
no_semi_by : (ts : List Lexeme) → same_sort (sort_at ts) k.Exists ≡ false → (sees k.Not ts && sees k.Exists (drop 1 ts)) ≡ false → begins_semi ts ≡ false
unfolding begins_semi sees
no_semi_by ts e f = neither _ _ e f
  where
    neither : (a b : Bool) → a ≡ false → b ≡ false → (a || b) ≡ false
    neither true b e f = cc
    neither false b e f = f

-- a negation begins with neither
pub neg_no_semi : (script : List ℕ) (strict : Bool) (d : ℕ) → NoSemi (IsNegIn script strict d)
unfolding IsNegIn same_sort
neg_no_semi script strict zero ts x rest h = absurd h
neg_no_semi script strict (suc d) ts x rest (inl h) =
    no_semi_by ts (apart_from (is k.Not) k.Exists refl ts (shrinks (exact-after k.Not refl (exact-map (exact-neg_in script strict d) c.Not)) ts x rest h).0)
    (other_second k.Not k.Exists ts h.1 h.0 h.2 (apart_from neg_begins k.Exists refl h.1 (shrinks (exact-neg_in script strict d) h.1 h.3.0 h.3.1 h.3.2).0))
neg_no_semi script strict (suc d) ts x rest (inr h) =
    no_semi_by ts (apart_from atom_begins k.Exists refl ts (shrinks (exact-atom_of script strict (exact-neg_in script strict d)) ts x rest h).0)
    (other_first k.Not k.Exists (exact-atom_of script strict (exact-neg_in script strict d)) refl ts x rest h)

-- wcond
pub exact-wcond : (script : List ℕ) (strict live : Bool) → Exact false where_begins after_cond (wcond script strict live) (IsWcond script strict live)
unfolding wcond IsWcond same_sort
exact-wcond script strict true = exact-loose (exact-map (exact-cond script strict) (λ x. (Some x, []))) refl refl
exact-wcond script strict false = record {
  sound = λ ts. (exact-wcond_of script strict (exact-neg_in script strict (length ts)) (neg_no_semi script strict (length ts))).sound ts;
  complete = λ ts. (exact-wcond_of script strict (exact-neg_in script strict (length ts)) (neg_no_semi script strict (length ts))).complete ts;
  lead = λ ts. (exact-wcond_of script strict (exact-neg_in script strict (length ts)) (neg_no_semi script strict (length ts))).lead ts;
}

-- Reader and rule are one: what is read is by the rule, and what is by the rule is read where such lexemes follow.
use Rattle.std.proofs.Common.{rules, ◌≡◌, ◌⊎◌, inl, inr, ℕ, zero, suc, ◌≤◌, ◌<◌, Bool, true, false, not, ◌&&◌, ◌||◌, if◌then◌else◌, List, [], ◌∷◌, length, drop, Option, Some, None, refl, sym, ap, ◌∙◌, subst, le_refl, lt_trans, arith}
use Rattle.std.proofs.lemmas.Option.{same_Some}
use denote.Enum.Bare.{same_true}
use Rattle.og_syntax.specs.contracts.lexeme.Sort.{the_type}
use Rattle.og_syntax.specs.declared.lexeme.Sort.{Sort}
use Rattle.og_syntax.specs.declared.lexeme.Sort.TheVariants as k
use Rattle.og_syntax.specs.declared.lexeme.Lexeme.{Lexeme}
use Rattle.og_syntax.specs.Lexemes.{same_sort, sort_at, sees}
use Rattle.og_syntax.specs.Follow.{ahead, anything, IsReaderOf}
use Rattle.og_syntax.specs.Reading as reading
use Rattle.og_syntax.specs.Reading.{Reads, Outcome, got, and_then, refuse, given, choose, choose_if, tok, one, is_there, has, word_from, worded, single, pair, more_if_from, more_if, more, joined, optional}
use Rattle.og_syntax.specs.Rules.{Rule, Given, ◌or◌, Never, Tok, One, Worded, Many, Joined, Optional, Single, Pair}
use Rattle.og_syntax.specs.Rules as rules_
use Rattle.og_syntax.proofs.EverySort.{sorts, everywhere_in, everywhere, every_sort}

-- ---- tests

-- the second holds where the first does
abbrev pub implies : Bool → Bool → Bool
implies a b = not a || b

-- from the one to the other
pub so : (a b : Bool) → implies a b ≡ true → a ≡ true → b ≡ true
so true b e h = e
so false b e h = cc

-- what is true of each sort, whether a name comes after it or not
abbrev pub everywhere_twice : (Sort → Bool → Bool) → Bool
everywhere_twice h = everywhere (λ a. h a true && h a false)

-- the first of two that hold
pub left_of : (a b : Bool) → (a && b) ≡ true → a ≡ true
left_of true b e = refl
left_of false b e = cc

-- the second of two that hold
pub right_of : (a b : Bool) → (a && b) ≡ true → b ≡ true
right_of true b e = e
right_of false b e = cc

-- two that hold, hold together
pub both_of : (a b : Bool) → a ≡ true → b ≡ true → (a && b) ≡ true
both_of true b e f = f
both_of false b e f = cc

-- one of two holds
pub or_left : (a b : Bool) → a ≡ true → (a || b) ≡ true
or_left true b e = refl
or_left false b e = cc

-- the other of two holds
pub or_right : (a b : Bool) → b ≡ true → (a || b) ≡ true
or_right true b e = refl
or_right false b e = e

-- what is not so is false
pub not_true : (a : Bool) → not a ≡ true → a ≡ false
not_true true e = cc
not_true false e = refl

-- what is false is not so
pub not_false : (a : Bool) → a ≡ false → not a ≡ true
not_false true e = cc
not_false false e = refl

-- what holds at each sort holds of every sort, whether a name comes after it or not
pub every_twice : (h : Sort → Bool → Bool) → everywhere_twice h ≡ true → (a : Sort) (named : Bool) → h a named ≡ true
every_twice h e a true = left_of (h a true) (h a false) (every_sort (λ a. h a true && h a false) e a)
every_twice h e a false = right_of (h a true) (h a false) (every_sort (λ a. h a true && h a false) e a)

-- what holds, holds
self : (a : Bool) → implies a a ≡ true
self true = refl
self false = refl

-- what holds of every sort holds at each sort of a list
in_all : (h : Sort → Bool) (listed : List Sort) → ((a : Sort) → h a ≡ true) → everywhere_in h listed ≡ true
in_all h [] e = refl
in_all h (a ∷ listed) e = both_of (h a) _ (e a) (in_all h listed e)

-- what holds of every sort holds at each of them
pub all_so : (f g : Sort → Bool) → ((a : Sort) → implies (f a) (g a) ≡ true) → everywhere (λ a. implies (f a) (g a)) ≡ true
all_so f g e = in_all (λ a. implies (f a) (g a)) sorts e

-- a test holds where it holds
pub all_so_twice : (F : Sort → Bool → Bool) → everywhere_twice (λ a named. implies (F a named) (F a named)) ≡ true
all_so_twice F = in_all (λ a. implies (F a true) (F a true) && implies (F a false) (F a false)) sorts (λ a. both_of _ _ (self (F a true)) (self (F a false)))

-- what is false adds nothing
pub or_none : (a b : Bool) → implies (a || (false && b)) a ≡ true
or_none true b = refl
or_none false b = refl

-- no sort
abbrev pub nothing : Sort → Bool
nothing a = false

-- two sorts that are the same are equal
pub is_sort : (a b : Sort) → same_sort a b ≡ true → a ≡ b
unfolding same_sort
is_sort a b e = same_true the_type (search rules) a b e

-- a sort is the same as itself
pub same_self : (a : Sort) → same_sort a a ≡ true
unfolding same_sort
same_self a = every_sort (λ a. same_sort a a) refl a

-- ---- exactness

-- Empty: no lexeme may be taken. First: with which sorts a part begins that takes one. Follow: what may come after it.
pub record Exact {A : Type 0} (empty : Bool) (first : Sort → Bool) (follow : Sort → Bool → Bool) (p : Reads A) (P : Rule A) : Type 0 where
  pub sound : (ts : List Lexeme) (x : A) (rest : List Lexeme) → p ts ≡ got x rest → P ts x rest
  pub complete : (ts : List Lexeme) (x : A) (rest : List Lexeme) → P ts x rest → ahead follow rest ≡ true → p ts ≡ got x rest
  pub lead : (ts : List Lexeme) (x : A) (rest : List Lexeme) → P ts x rest
      → ((first (sort_at ts) ≡ true) × (length rest < length ts)) ⊎ ((empty ≡ true) × (rest ≡ ts))

-- what is read is one value with one list of lexemes after it
pub same_got : {A : Type 0} (x y : A) (r s : List Lexeme) → got x r ≡ got y s → (x ≡ y) × (r ≡ s)
same_got x y r s e = let pair = same_Some (x, r) (y, s) e in (ap (λ z. z.0) pair, ap (λ z. z.1) pair)

-- equal values with equal lexemes after them are read alike
pub got_same : {A : Type 0} (x y : A) (r s : List Lexeme) → x ≡ y → r ≡ s → got x r ≡ got y s
got_same x y r s e f = ap (λ z. got z r) e ∙ ap (got y) f

-- a value without a lexeme
pub exact-pure : {A : Type 0} (a : A) → Exact true nothing anything (reading.pure a) (rules_.pure a)
exact-pure a = record {
  sound = λ ts x rest e. let s = same_got a x ts rest e in (sym s.0, sym s.1);
  complete = λ ts x rest h f. got_same a x ts rest (sym h.0) (sym h.1);
  lead = λ ts x rest h. inr (refl, h.1);
}

-- nothing
pub exact-never : {A : Type 0} → Exact {A = A} false nothing anything refuse Never
exact-never = record {
  sound = λ ts x rest e. cc;
  complete = λ ts x rest h f. absurd h;
  lead = λ ts x rest h. absurd h;
}

-- a value that is found exactly where it has the property
pub exact-given : {A : Type 0} (o : Option A) (R : A → Type 0) → ((x : A) → o ≡ Some x → R x) → ((x : A) → R x → o ≡ Some x) → Exact true nothing anything (given o) (Given R)
exact-given {A} o R right left = record {
  sound = λ ts x rest e. (right x (value o ts x rest e), left_over o ts x rest e);
  complete = λ ts x rest h f. ap (λ o. given o ts) (left x h.0) ∙ got_same x x ts rest refl (sym h.1);
  lead = λ ts x rest h. inr (refl, h.1);
}
  where
    value : (o : Option A) (ts : List Lexeme) (x : A) (rest : List Lexeme) → given o ts ≡ got x rest → o ≡ Some x
    value (Some y) ts x rest e = ap Some (same_got y x ts rest e).0
    value None ts x rest e = cc

    left_over : (o : Option A) (ts : List Lexeme) (x : A) (rest : List Lexeme) → given o ts ≡ got x rest → rest ≡ ts
    left_over (Some y) ts x rest e = sym (same_got y x ts rest e).1
    left_over None ts x rest e = cc

-- a lexeme with a meaning
word_sound : {A : Type 0} (table : Sort → Option A) (t : Lexeme) (ts : List Lexeme) (o : Option A) (x : A) (rest : List Lexeme) → table t.sort ≡ o → word_from o (t ∷ ts) ≡ got x rest → Worded table (t ∷ ts) x rest
word_sound table t ts (Some y) x rest e h = let s = same_got y x ts rest h in (t, ap (λ r. t ∷ r) s.1, e ∙ ap Some s.0)
word_sound table t ts None x rest e h = cc

-- a lexeme with a meaning
pub exact-worded : {A : Type 0} (table : Sort → Option A) → is_there (table k.Nothing) ≡ false → Exact false (has table) anything (worded table) (Worded table)
unfolding worded
exact-worded {A} table none = record {
  sound = sound-worded;
  complete = λ ts x rest h f.
      ap (worded table) h.1 ∙ ap (λ o. word_from o (h.0 ∷ rest)) h.2;
  lead = λ ts x rest h. inl (
    ap (λ ts. has table (sort_at ts)) h.1 ∙ ap is_there h.2,
    subst (λ ts. length rest < length ts) (sym h.1) (le_refl _),
  );
}
  where
    past : (o : Option A) (x : A) (rest : List Lexeme) → is_there o ≡ false → word_from o [] ≡ got x rest → Worded table [] x rest
    past (Some y) x rest e h = cc
    past None x rest e h = cc

    sound-worded : (ts : List Lexeme) (x : A) (rest : List Lexeme) → worded table ts ≡ got x rest → Worded table ts x rest
    sound-worded [] x rest h = past (table k.Nothing) x rest none h
    sound-worded (t ∷ ts) x rest h = word_sound table t ts (table t.sort) x rest refl h

-- a lexeme of the sort
tok_sound : (sort : Sort) (t : Lexeme) (ts : List Lexeme) (b : Bool) (x : Unit {0}) (rest : List Lexeme) → same_sort t.sort sort ≡ b → (if b then got tt ts else None) ≡ got x rest → Tok sort (t ∷ ts) x rest
tok_sound sort t ts true x rest e h = (t, ap (λ r. t ∷ r) (same_got tt x ts rest h).1, is_sort t.sort sort e)
tok_sound sort t ts false x rest e h = cc

-- a lexeme of the sort
pub exact-tok : (sort : Sort) → same_sort k.Nothing sort ≡ false → Exact false (λ a. same_sort a sort) anything (tok sort) (Tok sort)
unfolding tok sees
exact-tok sort none = record {
  sound = sound-tok;
  complete = λ ts x rest h f.
      ap (tok sort) h.1
      ∙ ap (λ b. if b then got x (drop 1 (h.0 ∷ rest)) else None) (ap (λ a. same_sort a sort) h.2 ∙ same_self sort);
  lead = λ ts x rest h. inl (
    ap (λ ts. same_sort (sort_at ts) sort) h.1 ∙ ap (λ a. same_sort a sort) h.2 ∙ same_self sort,
    subst (λ ts. length rest < length ts) (sym h.1) (le_refl _),
  );
}
  where
    sound-tok : (ts : List Lexeme) (x : Unit {0}) (rest : List Lexeme) → tok sort ts ≡ got x rest → Tok sort ts x rest
    sound-tok [] x rest h = let e : None ≡ got x rest = sym (ap (λ b. if b then got tt [] else None) none) ∙ h in cc
    sound-tok (t ∷ ts) x rest h = tok_sound sort t ts (same_sort t.sort sort) x rest refl h

-- the lexeme itself
one_sound : (sort : Sort) (t : Lexeme) (ts : List Lexeme) (b : Bool) (x : Lexeme) (rest : List Lexeme) → same_sort t.sort sort ≡ b → (if b then got t ts else None) ≡ got x rest → One sort (t ∷ ts) x rest
one_sound sort t ts true x rest e h =
    let s = same_got t x ts rest h in
    (ap (λ y. y ∷ ts) s.0 ∙ ap (λ r. x ∷ r) s.1, ap (λ y. y.sort) (sym s.0) ∙ is_sort t.sort sort e)
one_sound sort t ts false x rest e h = cc

-- the lexeme itself
pub exact-one : (sort : Sort) → Exact false (λ a. same_sort a sort) anything (one sort) (One sort)
unfolding one
exact-one sort = record {
  sound = sound-one;
  complete = λ ts x rest h f.
      ap (one sort) h.0 ∙ ap (λ b. if b then got x rest else None) (ap (λ a. same_sort a sort) h.1 ∙ same_self sort);
  lead = λ ts x rest h. inl (
    ap (λ ts. same_sort (sort_at ts) sort) h.0 ∙ ap (λ a. same_sort a sort) h.1 ∙ same_self sort,
    subst (λ ts. length rest < length ts) (sym h.0) (le_refl _),
  );
}
  where
    sound-one : (ts : List Lexeme) (x : Lexeme) (rest : List Lexeme) → one sort ts ≡ got x rest → One sort ts x rest
    sound-one [] x rest h = cc
    sound-one (t ∷ ts) x rest h = one_sound sort t ts (same_sort t.sort sort) x rest refl h

-- ---- the one, and then the other

-- what is read one after the other is by one rule after the other
pub bind_sound : {A B : Type 0} (p : Reads A) (P : Rule A) (q : A → Reads B) (Q : A → Rule B)
    → ((ts : List Lexeme) (x : A) (rest : List Lexeme) → p ts ≡ got x rest → P ts x rest)
    → ((x : A) (ts : List Lexeme) (y : B) (rest : List Lexeme) → q x ts ≡ got y rest → Q x ts y rest)
    → (ts : List Lexeme) (y : B) (rest : List Lexeme) → reading.bind p q ts ≡ got y rest → rules_.Bind P Q ts y rest
bind_sound {A} {B} p P q Q ps qs ts y rest e = go (p ts) refl e
  where
    go : (r : Outcome A) → p ts ≡ r → and_then r q ≡ got y rest → rules_.Bind P Q ts y rest
    go (Some x) e h = (x.0, x.1, ps ts x.0 x.1 e, qs x.0 x.1 y rest h)
    go None e h = cc

-- what may come after the first: what the second begins with, and where it may be empty what comes after it
abbrev pub may : Bool → (Sort → Bool) → (Sort → Bool → Bool) → (Sort → Bool → Bool) → Bool
may empty g G F = everywhere_twice (λ a named. implies (g a || (empty && G a named)) (F a named))

-- what comes is what may follow the first
pub may_follow : {B : Type 0} {e : Bool} {g : Sort → Bool} {G : Sort → Bool → Bool} {q : Reads B} {Q : Rule B} (F : Sort → Bool → Bool)
    → Exact e g G q Q → may e g G F ≡ true → (ts : List Lexeme) (y : B) (rest : List Lexeme) → Q ts y rest → ahead G rest ≡ true → ahead F ts ≡ true
may_follow {B} {e} {g} {G} {q} {Q} F D can ts y rest h f = go (D.lead ts y rest h)
  where
    at_front : (g (sort_at ts) || (e && ahead G ts)) ≡ true → ahead F ts ≡ true
    at_front a = so _ _ (every_twice (λ a named. implies (g a || (e && G a named)) (F a named)) can (sort_at ts) (sees k.Name (drop 1 ts))) a

    go : ((g (sort_at ts) ≡ true) × (length rest < length ts)) ⊎ ((e ≡ true) × (rest ≡ ts)) → ahead F ts ≡ true
    go (inl a) = at_front (or_left _ _ a.0)
    go (inr a) = at_front (or_right (g (sort_at ts)) _ (both_of e _ a.0 (subst (λ ts. ahead G ts ≡ true) a.1 f)))

-- what two parts in a row begin with
pub bind_lead : {A B : Type 0} {e d : Bool} {f g : Sort → Bool} {F G : Sort → Bool → Bool} {p : Reads A} {P : Rule A} {q : A → Reads B} {Q : A → Rule B}
    → Exact e f F p P → ((x : A) → Exact d g G (q x) (Q x)) → (ts : List Lexeme) (y : B) (rest : List Lexeme) → rules_.Bind P Q ts y rest
    → (((f (sort_at ts) || (e && g (sort_at ts))) ≡ true) × (length rest < length ts)) ⊎ (((e && d) ≡ true) × (rest ≡ ts))
bind_lead {A} {B} {e} {d} {f} {g} {F} {G} {p} {P} {q} {Q} E D ts y rest h = go (E.lead ts h.0 h.1 h.2) ((D h.0).lead h.1 y rest h.3)
  where
    mid : List Lexeme
    mid = h.1

    go : ((f (sort_at ts) ≡ true) × (length h.1 < length ts)) ⊎ ((e ≡ true) × (h.1 ≡ ts))
        → ((g (sort_at h.1) ≡ true) × (length rest < length h.1)) ⊎ ((d ≡ true) × (rest ≡ h.1))
        → (((f (sort_at ts) || (e && g (sort_at ts))) ≡ true) × (length rest < length ts)) ⊎ (((e && d) ≡ true) × (rest ≡ ts))
    go (inl a) (inl b) = inl (or_left _ _ a.0, lt_trans b.1 a.1)
    go (inl a) (inr b) = inl (or_left _ _ a.0, subst (λ r. length r < length ts) (sym b.1) a.1)
    go (inr a) (inl b) = inl (
      or_right (f (sort_at ts)) _ (both_of e _ a.0 (subst (λ m. g (sort_at m) ≡ true) a.1 b.0)),
      subst (λ m. length rest < length m) a.1 b.1,
    )
    go (inr a) (inr b) = inr (both_of e d a.0 b.0, b.1 ∙ a.1)

-- the one, and then the other
pub exact-bind : {A B : Type 0} {e d : Bool} {f g : Sort → Bool} {F G : Sort → Bool → Bool} {p : Reads A} {P : Rule A} {q : A → Reads B} {Q : A → Rule B}
    → Exact e f F p P → ((x : A) → Exact d g G (q x) (Q x)) → may d g G F ≡ true
    → Exact (e && d) (λ a. f a || (e && g a)) G (reading.bind p q) (rules_.Bind P Q)
exact-bind {A} {B} {e} {d} {f} {g} {F} {G} {p} {P} {q} {Q} E D can = record {
  sound = bind_sound p P q Q E.sound (λ x. (D x).sound);
  complete = λ ts y rest h after.
      ap (λ r. and_then r q) (E.complete ts h.0 h.1 h.2 (may_follow F (D h.0) can h.1 y rest h.3 after))
      ∙ (D h.0).complete h.1 y rest h.3 after;
  lead = bind_lead E D;
}

-- fewer lexemes may follow, and it may begin with more
pub exact-loose : {A : Type 0} {e : Bool} {f g : Sort → Bool} {F G : Sort → Bool → Bool} {p : Reads A} {P : Rule A}
    → Exact e f F p P → everywhere (λ a. implies (f a) (g a)) ≡ true → everywhere_twice (λ a named. implies (G a named) (F a named)) ≡ true → Exact e g G p P
exact-loose {A} {e} {f} {g} {F} {G} {p} {P} E within fewer = record {
  sound = E.sound;
  complete = λ ts x rest h after.
      E.complete ts x rest h (so _ _ (every_twice (λ a named. implies (G a named) (F a named)) fewer (sort_at rest) (sees k.Name (drop 1 rest))) after);
  lead = λ ts x rest h. go ts rest (E.lead ts x rest h);
}
  where
    go : (ts rest : List Lexeme) → ((f (sort_at ts) ≡ true) × (length rest < length ts)) ⊎ ((e ≡ true) × (rest ≡ ts))
        → ((g (sort_at ts) ≡ true) × (length rest < length ts)) ⊎ ((e ≡ true) × (rest ≡ ts))
    go ts rest (inl a) = inl (so _ _ (every_sort (λ a. implies (f a) (g a)) within (sort_at ts)) a.0, a.1)
    go ts rest (inr a) = inr a

-- fewer lexemes may follow
pub exact-ends : {A : Type 0} {e : Bool} {f : Sort → Bool} {F : Sort → Bool → Bool} {p : Reads A} {P : Rule A} (G : Sort → Bool → Bool)
    → Exact e f F p P → everywhere_twice (λ a named. implies (G a named) (F a named)) ≡ true → Exact e f G p P
exact-ends {A} {e} {f} {F} G E fewer = record {
  sound = E.sound;
  complete = λ ts x rest h after. E.complete ts x rest h (so _ _ (every_twice (λ a named. implies (G a named) (F a named)) fewer (sort_at rest) (sees k.Name (drop 1 rest))) after);
  lead = E.lead;
}

-- where anything may follow, fewer lexemes may
pub exact-any : {A : Type 0} {e : Bool} {f : Sort → Bool} {G : Sort → Bool → Bool} {p : Reads A} {P : Rule A} → Exact e f anything p P → Exact e f G p P
exact-any E = record { sound = E.sound; complete = λ ts x rest h after. E.complete ts x rest h refl; lead = E.lead }

-- the value by a function
pub exact-map : {A B : Type 0} {e : Bool} {f : Sort → Bool} {F : Sort → Bool → Bool} {p : Reads A} {P : Rule A}
    → Exact e f F p P → (g : A → B) → Exact e f F (reading.bind p (λ x. reading.pure (g x))) (rules_.Bind P (λ x. rules_.pure (g x)))
exact-map {A} {B} {e} {f} {F} {p} {P} E g = record {
  sound = bind_sound p P (λ x. reading.pure (g x)) (λ x. rules_.pure (g x)) E.sound (λ x. (exact-pure (g x)).sound);
  complete = λ ts y rest h after.
      ap (λ r. and_then r (λ x. reading.pure (g x))) (E.complete ts h.0 h.1 h.2 (subst (λ r. ahead F r ≡ true) h.3.1 after))
      ∙ got_same (g h.0) y h.1 rest (sym h.3.0) (sym h.3.1);
  lead = λ ts y rest h. subst (λ r. ((f (sort_at ts) ≡ true) × (length r < length ts)) ⊎ ((e ≡ true) × (r ≡ ts))) (sym h.3.1) (E.lead ts h.0 h.1 h.2);
}

-- ---- the one, or the other

-- what is read by one of two is by one of two rules
pub if_sound : {A : Type 0} (b : Bool) (p q : Outcome A) (x : A) (rest : List Lexeme) (P Q : Type 0)
    → (p ≡ got x rest → P) → (q ≡ got x rest → Q) → (if b then p else q) ≡ got x rest → P ⊎ Q
if_sound true p q x rest P Q l r e = inl (l e)
if_sound false p q x rest P Q l r e = inr (r e)

-- by a test of the lexemes that come, which is true by the one and false by the other
pub exact-choose_if : {A : Type 0} {e d : Bool} {f g : Sort → Bool} {F : Sort → Bool → Bool} {p q : Reads A} {P Q : Rule A} (h : List Lexeme → Bool)
    → Exact e f F p P → Exact d g F q Q
    → ((ts : List Lexeme) (x : A) (rest : List Lexeme) → P ts x rest → ahead F rest ≡ true → h ts ≡ true)
    → ((ts : List Lexeme) (x : A) (rest : List Lexeme) → Q ts x rest → ahead F rest ≡ true → h ts ≡ false)
    → Exact (e || d) (λ a. f a || g a) F (choose_if h p q) (P or Q)
exact-choose_if {A} {e} {d} {f} {g} {F} {p} {q} {P} {Q} h E D is isnt = record {
  sound = λ ts x rest c. if_sound (h ts) (p ts) (q ts) x rest (P ts x rest) (Q ts x rest) (E.sound ts x rest) (D.sound ts x rest) c;
  complete = go;
  lead = leads;
}
  where
    go : (ts : List Lexeme) (x : A) (rest : List Lexeme) → P ts x rest ⊎ Q ts x rest → ahead F rest ≡ true → choose_if h p q ts ≡ got x rest
    go ts x rest (inl a) after = ap (λ b. if b then p ts else q ts) (is ts x rest a after) ∙ E.complete ts x rest a after
    go ts x rest (inr a) after = ap (λ b. if b then p ts else q ts) (isnt ts x rest a after) ∙ D.complete ts x rest a after

    leftly : (ts rest : List Lexeme) → ((f (sort_at ts) ≡ true) × (length rest < length ts)) ⊎ ((e ≡ true) × (rest ≡ ts))
        → (((f (sort_at ts) || g (sort_at ts)) ≡ true) × (length rest < length ts)) ⊎ (((e || d) ≡ true) × (rest ≡ ts))
    leftly ts rest (inl a) = inl (or_left _ _ a.0, a.1)
    leftly ts rest (inr a) = inr (or_left _ _ a.0, a.1)

    rightly : (ts rest : List Lexeme) → ((g (sort_at ts) ≡ true) × (length rest < length ts)) ⊎ ((d ≡ true) × (rest ≡ ts))
        → (((f (sort_at ts) || g (sort_at ts)) ≡ true) × (length rest < length ts)) ⊎ (((e || d) ≡ true) × (rest ≡ ts))
    rightly ts rest (inl a) = inl (or_right (f (sort_at ts)) _ a.0, a.1)
    rightly ts rest (inr a) = inr (or_right e _ a.0, a.1)

    leads : (ts : List Lexeme) (x : A) (rest : List Lexeme) → P ts x rest ⊎ Q ts x rest
        → (((f (sort_at ts) || g (sort_at ts)) ≡ true) × (length rest < length ts)) ⊎ (((e || d) ≡ true) × (rest ≡ ts))
    leads ts x rest (inl a) = leftly ts rest (E.lead ts x rest a)
    leads ts x rest (inr a) = rightly ts rest (D.lead ts x rest a)

-- by the first lexeme's sort
pub exact-choose : {A : Type 0} {e d : Bool} {f g : Sort → Bool} {F : Sort → Bool → Bool} {p q : Reads A} {P Q : Rule A} (h : Sort → Bool)
    → Exact e f F p P → Exact d g F q Q → may e f F (λ a named. h a) ≡ true → may d g F (λ a named. not (h a)) ≡ true
    → Exact (e || d) (λ a. f a || g a) F (choose h p q) (P or Q)
exact-choose h E D is isnt =
    exact-choose_if (λ ts. h (sort_at ts)) E D
    (λ ts x rest a after. may_follow (λ a named. h a) E is ts x rest a after)
    (λ ts x rest a after. not_true _ (may_follow (λ a named. not (h a)) D isnt ts x rest a after))

-- a part, or nothing
pub exact-optional : {A : Type 0} {f : Sort → Bool} {F : Sort → Bool → Bool} {p : Reads A} {P : Rule A} (h : Sort → Bool)
    → Exact false f F p P → everywhere (λ a. implies (f a) (h a)) ≡ true → Exact true f (λ a named. F a named && not (h a)) (optional h p) (Optional P)
exact-optional {A} {f} {F} {p} {P} h E within = record {
  sound = λ ts x rest c. if_sound (h (sort_at ts)) _ _ x rest _ _ ((exact-map E Some).sound ts x rest) ((exact-pure None).sound ts x rest) c;
  complete = go;
  lead = leads;
}
  where
    none : (ts rest : List Lexeme) → rest ≡ ts → (ahead F rest && not (h (sort_at rest))) ≡ true → h (sort_at ts) ≡ false
    none ts rest e after = not_true _ (subst (λ r. not (h (sort_at r)) ≡ true) e (right_of (ahead F rest) _ after))

    some : (ts : List Lexeme) (x : A) (rest : List Lexeme) → P ts x rest → h (sort_at ts) ≡ true
    some ts x rest a = front (E.lead ts x rest a)
      where
        front : ((f (sort_at ts) ≡ true) × (length rest < length ts)) ⊎ ((false ≡ true) × (rest ≡ ts)) → h (sort_at ts) ≡ true
        front (inl b) = so _ _ (every_sort (λ a. implies (f a) (h a)) within (sort_at ts)) b.0
        front (inr b) = cc

    go : (ts : List Lexeme) (x : Option A) (rest : List Lexeme) → Optional P ts x rest → (ahead F rest && not (h (sort_at rest))) ≡ true → optional h p ts ≡ got x rest
    go ts x rest (inl a) after =
        ap (λ b. if b then reading.bind p (λ x. reading.pure (Some x)) ts else reading.pure None ts) (some ts a.0 a.1 a.2)
        ∙ (exact-map E Some).complete ts x rest a (left_of _ (not (h (sort_at rest))) after)
    go ts x rest (inr a) after =
        ap (λ b. if b then reading.bind p (λ x. reading.pure (Some x)) ts else reading.pure None ts) (none ts rest a.1 after)
        ∙ (exact-pure None).complete ts x rest a refl

    leads : (ts : List Lexeme) (x : Option A) (rest : List Lexeme) → Optional P ts x rest
        → ((f (sort_at ts) ≡ true) × (length rest < length ts)) ⊎ ((true ≡ true) × (rest ≡ ts))
    leads ts x rest (inl a) = widely (exact-map E Some).lead ts x rest a
      where
        widely : ((ts : List Lexeme) (x : Option A) (rest : List Lexeme) → rules_.Bind P (λ x. rules_.pure (Some x)) ts x rest → ((f (sort_at ts) ≡ true) × (length rest < length ts)) ⊎ ((false ≡ true) × (rest ≡ ts)))
            → (ts : List Lexeme) (x : Option A) (rest : List Lexeme) → rules_.Bind P (λ x. rules_.pure (Some x)) ts x rest
            → ((f (sort_at ts) ≡ true) × (length rest < length ts)) ⊎ ((true ≡ true) × (rest ≡ ts))
        widely l ts x rest a = pick (l ts x rest a)
          where
            pick : ((f (sort_at ts) ≡ true) × (length rest < length ts)) ⊎ ((false ≡ true) × (rest ≡ ts)) → ((f (sort_at ts) ≡ true) × (length rest < length ts)) ⊎ ((true ≡ true) × (rest ≡ ts))
            pick (inl b) = inl b
            pick (inr b) = inr (refl, b.1)
    leads ts x rest (inr a) = inr (refl, a.1)

-- ---- any number of parts

-- a part that is not empty takes a lexeme
pub shrinks : {A : Type 0} {f : Sort → Bool} {F : Sort → Bool → Bool} {p : Reads A} {P : Rule A}
    → Exact false f F p P → (ts : List Lexeme) (x : A) (rest : List Lexeme) → P ts x rest → (f (sort_at ts) ≡ true) × (length rest < length ts)
shrinks {A} {f} E ts x rest h = go (E.lead ts x rest h)
  where
    go : ((f (sort_at ts) ≡ true) × (length rest < length ts)) ⊎ ((false ≡ true) × (rest ≡ ts)) → (f (sort_at ts) ≡ true) × (length rest < length ts)
    go (inl a) = a
    go (inr a) = cc

-- parts that are read are by the rule
pub more_sound : {A : Type 0} (h : List Lexeme → Bool) (q : Reads A) (Q : Rule A)
    → ((ts : List Lexeme) (x : A) (rest : List Lexeme) → q ts ≡ got x rest → Q ts x rest)
    → (n : ℕ) (ts : List Lexeme) (xs : List A) (rest : List Lexeme) → more_if_from h q n ts ≡ got xs rest → Many Q ts xs rest
more_sound {A} h q Q qs zero ts xs rest e = let s = same_got [] xs ts rest e in subst (λ xs. Many Q ts xs rest) s.0 (sym s.1)
more_sound {A} h q Q qs (suc n) ts xs rest e = go (if_sound (h ts) _ _ xs rest _ _ (turn (more_sound h q Q qs n)) stop e)
  where
    turn : ((ts : List Lexeme) (xs : List A) (rest : List Lexeme) → more_if_from h q n ts ≡ got xs rest → Many Q ts xs rest)
        → reading.bind q (λ x. reading.bind (more_if_from h q n) (λ xs. reading.pure (x ∷ xs))) ts ≡ got xs rest → Many Q ts xs rest
    turn fewer a = made (bind_sound q Q (λ x. reading.bind (more_if_from h q n) (λ xs. reading.pure (x ∷ xs))) (λ x. rules_.Bind (Many Q) (λ xs. rules_.pure (x ∷ xs))) qs
        (λ x. bind_sound (more_if_from h q n) (Many Q) (λ xs. reading.pure (x ∷ xs)) (λ xs. rules_.pure (x ∷ xs)) fewer (λ xs. (exact-pure (x ∷ xs)).sound))
        ts xs rest a)
      where
        made : rules_.Bind Q (λ x. rules_.Bind (Many Q) (λ xs. rules_.pure (x ∷ xs))) ts xs rest → Many Q ts xs rest
        made b = subst (λ xs. Many Q ts xs rest) (sym b.3.3.0) (b.1, b.2, subst (λ r. Many Q b.1 b.3.0 r) (sym b.3.3.1) b.3.2)

    stop : got [] ts ≡ got xs rest → Many Q ts xs rest
    stop a = let s = same_got [] xs ts rest a in subst (λ xs. Many Q ts xs rest) s.0 (sym s.1)

    go : Many Q ts xs rest ⊎ Many Q ts xs rest → Many Q ts xs rest
    go (inl a) = a
    go (inr a) = a

-- what comes where parts were, or would be, is what may follow a part
pub many_ahead : {A : Type 0} {f : Sort → Bool} {F : Sort → Bool → Bool} {q : Reads A} {Q : Rule A}
    → Exact false f F q Q → may false f anything F ≡ true
    → (ts : List Lexeme) (xs : List A) (rest : List Lexeme) → Many Q ts xs rest → ahead F rest ≡ true → ahead F ts ≡ true
many_ahead {A} {f} {F} E can ts [] rest m after = subst (λ r. ahead F r ≡ true) m after
many_ahead {A} {f} {F} E can ts (x ∷ xs) rest m after =
    so _ _ (every_twice (λ a named. implies (f a || (false && true)) (F a named)) can (sort_at ts) (sees k.Name (drop 1 ts))) (or_left _ _ (shrinks E ts x m.0 m.1).0)

-- nothing is below nothing
pub too_few : (a b : ℕ) → a < b → b ≤ 0 → ⊥
too_few a b less le = omega (arith, less, le)

-- parts are read where the test holds of each of them and not of what comes after them
pub more_complete : {A : Type 0} {f : Sort → Bool} {F : Sort → Bool → Bool} {q : Reads A} {Q : Rule A} (h : List Lexeme → Bool)
    → Exact false f F q Q → may false f anything F ≡ true → ((ts : List Lexeme) (x : A) (rest : List Lexeme) → Q ts x rest → h ts ≡ true)
    → (n : ℕ) (ts : List Lexeme) (xs : List A) (rest : List Lexeme) → Many Q ts xs rest → ahead F rest ≡ true → h rest ≡ false → length ts ≤ n
    → more_if_from h q n ts ≡ got xs rest
more_complete h E can test zero ts [] rest m after stop le = got_same [] [] ts rest refl (sym m)
more_complete {A} {f} {F} {q} h E can test (suc n) ts [] rest m after stop le =
    ap (λ b. if b then reading.bind q (λ x. reading.bind (more_if_from h q n) (λ xs. reading.pure (x ∷ xs))) ts else got [] ts)
    (subst (λ r. h r ≡ false) m stop)
    ∙ got_same [] [] ts rest refl (sym m)
more_complete h E can test zero ts (x ∷ xs) rest m after stop le = absurd (too_few (length m.0) (length ts) (shrinks E ts x m.0 m.1).1 le)
more_complete {A} {f} {F} {q} h E can test (suc n) ts (x ∷ xs) rest m after stop le =
    let some = shrinks E ts x m.0 m.1 in
    ap (λ b. if b then reading.bind q (λ x. reading.bind (more_if_from h q n) (λ xs. reading.pure (x ∷ xs))) ts else got [] ts) (test ts x m.0 m.1)
    ∙ ap (λ r. and_then r (λ x. reading.bind (more_if_from h q n) (λ xs. reading.pure (x ∷ xs)))) (E.complete ts x m.0 m.1 (many_ahead E can m.0 xs rest m.2 after))
    ∙ ap (λ r. and_then r (λ xs. reading.pure (x ∷ xs))) (more_complete h E can test n m.0 xs rest m.2 after stop (fewer (length m.0) (length ts) n some.1 le))
  where
    fewer : (a b n : ℕ) → a < b → b ≤ suc n → a ≤ n
    fewer a b n l m = omega (arith, l, m)

-- parts add no lexemes
many_shorter : {A : Type 0} {h : Sort → Bool} {F : Sort → Bool → Bool} {q : Reads A} {Q : Rule A}
    → Exact false h F q Q → (ts : List Lexeme) (xs : List A) (rest : List Lexeme) → Many Q ts xs rest → length rest ≤ length ts
many_shorter E ts [] rest m = subst (λ r. length rest ≤ length r) m (le_refl (length rest))
many_shorter E ts (x ∷ xs) rest m = let a = many_shorter E m.0 xs rest m.2 in let b = (shrinks E ts x m.0 m.1).1 in omega (arith, a, b)

-- parts begin as a part does, or there is none
many_lead : {A : Type 0} {h : Sort → Bool} {F : Sort → Bool → Bool} {q : Reads A} {Q : Rule A}
    → Exact false h F q Q → (ts : List Lexeme) (xs : List A) (rest : List Lexeme) → Many Q ts xs rest
    → ((h (sort_at ts) ≡ true) × (length rest < length ts)) ⊎ ((true ≡ true) × (rest ≡ ts))
many_lead E ts [] rest m = inr (refl, m)
many_lead E ts (x ∷ xs) rest m =
    let a = many_shorter E m.0 xs rest m.2 in let b = shrinks E ts x m.0 m.1 in let c = b.1 in inl (b.0, omega (arith, a, c))

-- any number of parts, for as long as one of their sorts comes
pub exact-more : {A : Type 0} {h : Sort → Bool} {F : Sort → Bool → Bool} {q : Reads A} {Q : Rule A}
    → Exact false h F q Q → may false h anything F ≡ true → Exact true h (λ a named. F a named && not (h a)) (more h q) (Many Q)
unfolding more_if
exact-more {A} {h} {F} {q} {Q} E can = record {
  sound = λ ts xs rest e. more_sound (λ ts. h (sort_at ts)) q Q E.sound (length ts) ts xs rest e;
  complete = λ ts xs rest m after.
      more_complete (λ ts. h (sort_at ts)) E can (λ ts x rest a. (shrinks E ts x rest a).0) (length ts) ts xs rest m
      (left_of (ahead F rest) _ after) (not_true _ (right_of (ahead F rest) _ after)) (le_refl _);
  lead = many_lead E;
}

-- a part, and then any number of further ones
pub exact-joined : {A : Type 0} {f h : Sort → Bool} {F G : Sort → Bool → Bool} {p q : Reads A} {P Q : Rule A}
    → Exact false f F p P → Exact false h G q Q → may false h anything G ≡ true → may true h (λ a named. G a named && not (h a)) F ≡ true
    → Exact false f (λ a named. G a named && not (h a)) (joined p h q) (Joined P Q)
exact-joined {A} {f} {h} {F} {G} {p} {q} {P} {Q} E D can follows =
    exact-loose (exact-bind E (λ x. exact-map (exact-more D can) (λ xs. x ∷ xs)) follows)
    (all_so (λ a. f a || (false && h a)) f (λ a. or_none (f a) (h a)))
    (all_so_twice (λ a named. G a named && not (h a)))

-- ---- what any lexemes may follow

-- whatever comes may follow where anything may
any_may : (d : Bool) (g : Sort → Bool) (G : Sort → Bool → Bool) → may d g G anything ≡ true
any_may d g G = in_all (λ a. implies (g a || (d && G a true)) true && implies (g a || (d && G a false)) true) sorts (λ a. both_of _ _ (always _) (always _))
  where
    always : (a : Bool) → implies a true ≡ true
    always true = refl
    always false = refl

-- the one, after which anything may follow, and then the other
pub exact-then : {A B : Type 0} {e d : Bool} {f g : Sort → Bool} {G : Sort → Bool → Bool} {p : Reads A} {P : Rule A} {q : A → Reads B} {Q : A → Rule B}
    → Exact e f anything p P → ((x : A) → Exact d g G (q x) (Q x))
    → Exact (e && d) (λ a. f a || (e && g a)) G (reading.bind p q) (rules_.Bind P Q)
exact-then {A} {B} {e} {d} {f} {g} {G} E D = exact-bind E D (any_may d g G)

-- a lexeme, and then the other
pub exact-after : {B : Type 0} {d : Bool} {g : Sort → Bool} {G : Sort → Bool → Bool} {q : Reads B} {Q : Rule B} (sort : Sort) → same_sort k.Nothing sort ≡ false
    → Exact d g G q Q → Exact false (λ a. same_sort a sort) G (reading.bind (tok sort) (λ _. q)) (rules_.Bind (Tok sort) (λ _. Q))
exact-after {B} {d} {g} {G} sort none D =
    exact-loose (exact-then (exact-tok sort none) (λ _. D))
    (all_so (λ a. same_sort a sort || (false && g a)) (λ a. same_sort a sort) (λ a. or_none (same_sort a sort) (g a)))
    (all_so_twice G)

-- a part in parentheses
pub exact-single : {A : Type 0} {f : Sort → Bool} {F : Sort → Bool → Bool} {p : Reads A} {P : Rule A}
    → Exact false f F p P → may false (λ a. same_sort a k.RightParen) anything F ≡ true → Exact false (λ a. same_sort a k.LeftParen) anything (single p) (Single P)
unfolding same_sort
exact-single E right =
    exact-after k.LeftParen refl (exact-bind E (λ x. exact-after k.RightParen refl (exact-pure x)) right)

-- two parts in parentheses
pub exact-pair : {A : Type 0} {f : Sort → Bool} {F : Sort → Bool → Bool} {p : Reads A} {P : Rule A}
    → Exact false f F p P → may false (λ a. same_sort a k.Comma) F F ≡ true → may false (λ a. same_sort a k.RightParen) anything F ≡ true
    → Exact false (λ a. same_sort a k.LeftParen) anything (pair p) (Pair P)
unfolding same_sort
exact-pair E comma right =
    exact-after k.LeftParen refl
    (exact-bind E (λ x. exact-after k.Comma refl (exact-bind E (λ y. exact-after k.RightParen refl (exact-pure (x, y))) right)) comma)

-- an exact reader reads what its rule relates, and nothing else
pub exact_reader : {A : Type 0} {e : Bool} {f : Sort → Bool} {F : Sort → Bool → Bool} {p : Reads A} {P : Rule A} → Exact e f F p P → IsReaderOf F p P
exact_reader E = record {
  sound = E.sound;
  complete = E.complete;
  only = λ ts x y r s h j a b. same_got x y r s (sym (E.complete ts x r h a) ∙ E.complete ts y s j b);
}

-- A column that is found is the only one that c or q.c may stand for.
use Rattle.std.proofs.Common.{◌≡◌, ◌⊎◌, inl, inr, ◌+◌, ◌++◌, ℕ, Bool, true, false, List, [], ◌∷◌, Option, Some, None, Ok, length, if◌then◌else◌, refl, ap, sym, subst, ◌∙◌, length-append, arith}
use Rattle.std.proofs.lemmas.Slice.Eq.{bytes_eq-Decides}
use Rattle.std.specs.Str.{bytes_eq}
use Rattle.og_value.specs.declared.kind.Kind.{Kind}
use Rattle.og_value.specs.declared.schema.Column.{Column}
use Rattle.og_check.specs.Sight.{Item, Sight, Found, joined, named, looks_at, among, or_else, one_of, written, found}
use Rattle.og_check.specs.Columns.{HasAlias, IsNamed, IsOnly, StandsFor}
use Rattle.og_check.proofs.OkLemmas.{not_ok, ok_same}

-- ---- members

-- one of the list
abbrev In : Found → List Found → Type 0
In x [] = ⊥
In x (y ∷ ys) = (x ≡ y) ⊎ In x ys

in_left : (x : Found) (xs ys : List Found) → In x xs → In x (xs ++ ys)
in_left x [] ys h = absurd h
in_left x (y ∷ xs) ys (inl e) = inl e
in_left x (y ∷ xs) ys (inr h) = inr (in_left x xs ys h)

in_right : (x : Found) (xs ys : List Found) → In x ys → In x (xs ++ ys)
in_right x [] ys h = h
in_right x (y ∷ xs) ys h = inr (in_right x xs ys h)

in_either : (x : Found) (xs ys : List Found) → In x (xs ++ ys) → In x xs ⊎ In x ys
in_either x [] ys h = inr h
in_either x (y ∷ xs) ys (inl e) = inl (inl e)
in_either x (y ∷ xs) ys (inr h) = go (in_either x xs ys h)
  where
    go : In x xs ⊎ In x ys → In x (y ∷ xs) ⊎ In x ys
    go (inl h) = inl (inr h)
    go (inr h) = inr h

-- ---- columns of that name

-- a column of that name, where the first column has that place
record IsThere (name : List ℕ) (place : ℕ) (cs : List Column) (x : Found) : Type 0 where
  pub first : List Column
  pub column : Column
  pub last : List Column
  pub cut : cs ≡ first ++ column ∷ last
  pub at : x.0 ≡ place + length first
  pub called : column.name ≡ name
  pub of_kind : column.kind ≡ x.1

-- what is found is such a column
named_there : (name : List ℕ) (place : ℕ) (cs : List Column) (x : Found) → In x (named name place cs) → IsThere name place cs x
named_there name place [] x h = absurd h
named_there name place (c ∷ cs) x h = by (bytes_eq c.name name) refl h (named_there name (place + 1) cs x)
  where
    later : IsThere name (place + 1) cs x → IsThere name place (c ∷ cs) x
    later r = record {
      first = c ∷ r.first;
      column = r.column;
      last = r.last;
      cut = ap (λ t. c ∷ t) r.cut;
      at = omega (arith, r.at);
      called = r.called;
      of_kind = r.of_kind;
    }

    by : (b : Bool) → bytes_eq c.name name ≡ b → In x (if b then (place, c.kind) ∷ named name (place + 1) cs else named name (place + 1) cs)
        → (In x (named name (place + 1) cs) → IsThere name (place + 1) cs x) → IsThere name place (c ∷ cs) x
    by true e (inl s) more = record {
      first = [];
      column = c;
      last = cs;
      cut = refl;
      at = omega (arith, ap (λ y. y.0) s);
      called = (bytes_eq-Decides c.name name).0 e;
      of_kind = sym (ap (λ y. y.1) s);
    }
    by true e (inr h) more = later (more h)
    by false e h more = later (more h)

-- such a column is found
there_named : (name : List ℕ) (place : ℕ) (first : List Column) (c : Column) (last : List Column) → c.name ≡ name → In (place + length first, c.kind) (named name place (first ++ c ∷ last))
there_named name place [] c last e =
    let here : place ≡ place + 0 = omega arith in
    subst (λ n. In (n, c.kind) (named name place (c ∷ last))) here
    (subst (λ b. In (place, c.kind) (if b then (place, c.kind) ∷ named name (place + 1) last else named name (place + 1) last)) (sym ((bytes_eq-Decides c.name name).1 e)) (inl refl))
there_named name place (d ∷ first) c last e =
    skip (bytes_eq d.name name) (subst (λ n. In (n, c.kind) (named name (place + 1) (first ++ c ∷ last))) count (there_named name (place + 1) first c last e))
  where
    count : place + 1 + length first ≡ place + length (d ∷ first)
    count = omega arith

    skip : (b : Bool) → In (place + length (d ∷ first), c.kind) (named name (place + 1) (first ++ c ∷ last))
        → In (place + length (d ∷ first), c.kind) (if b then (place, d.kind) ∷ named name (place + 1) (first ++ c ∷ last) else named name (place + 1) (first ++ c ∷ last))
    skip true h = inr h
    skip false h = h

-- ---- columns of items

-- an item that is looked at is of that alias
looked_alias : (table : Option (List ℕ)) (item : Item) → looks_at table item ≡ true → HasAlias table item.0
looked_alias (Some table) item e = (bytes_eq-Decides item.0 table).0 e
looked_alias None item e = tt

-- an item of that alias is looked at
alias_looked : (table : Option (List ℕ)) (alias : List ℕ) (cs : List Column) → HasAlias table alias → looks_at table (alias, cs) ≡ true
alias_looked (Some table) alias cs e = (bytes_eq-Decides alias table).1 e
alias_looked None alias cs e = refl

-- what is found is named, behind so many columns
among_named : (table : Option (List ℕ)) (name : List ℕ) (place : ℕ) (items : List Item) (x : Found) → In x (among table name place items)
    → (inner : ℕ) × (x.0 ≡ place + inner) × IsNamed items table name inner x.1
among_named table name place [] x h = absurd h
among_named table name place (item ∷ items) x h =
    go (in_either x (if looks_at table item then named name place item.1 else []) (among table name (place + length item.1) items) h) (among_named table name (place + length item.1) items x)
  where
    here : (b : Bool) → looks_at table item ≡ b → In x (if b then named name place item.1 else []) → (inner : ℕ) × (x.0 ≡ place + inner) × IsNamed (item ∷ items) table name inner x.1
    here true e h =
        let r = named_there name place item.1 x h in (
          length r.first,
          r.at,
          record {
            before = [];
            alias = item.0;
            first = r.first;
            column = r.column;
            last = r.last;
            after = items;
            stands = ap (λ cs. (item.0, cs) ∷ items) r.cut;
            at = omega arith;
            called = r.called;
            of_kind = r.of_kind;
            of_item = looked_alias table item e;
          },
        )
    here false e h = absurd h

    go : In x (if looks_at table item then named name place item.1 else []) ⊎ In x (among table name (place + length item.1) items)
        → (In x (among table name (place + length item.1) items) → (inner : ℕ) × (x.0 ≡ place + length item.1 + inner) × IsNamed items table name inner x.1)
        → (inner : ℕ) × (x.0 ≡ place + inner) × IsNamed (item ∷ items) table name inner x.1
    go (inl h) more = here (looks_at table item) refl h
    go (inr h) more =
        let r = more h in
        let n = r.2 in (
          length item.1 + r.0,
          omega (arith, r.1),
          record {
            before = item ∷ n.before;
            alias = n.alias;
            first = n.first;
            column = n.column;
            last = n.last;
            after = n.after;
            stands = ap (λ t. item ∷ t) n.stands;
            at = omega (arith, n.at, length-append item.1 (joined n.before));
            called = n.called;
            of_kind = n.of_kind;
            of_item = n.of_item;
          },
        )

-- an item that is looked at gives the columns of that name
among_at : (table : Option (List ℕ)) (name : List ℕ) (place : ℕ) (before : List Item) (item : Item) (after : List Item) (x : Found) → looks_at table item ≡ true
    → In x (named name (place + length (joined before)) item.1) → In x (among table name place (before ++ item ∷ after))
among_at table name place [] item after x e h =
    in_left x (if looks_at table item then named name place item.1 else []) (among table name (place + length item.1) after)
    (subst (λ b. In x (if b then named name place item.1 else [])) (sym e) (subst (λ n. In x (named name n item.1)) (none place) h))
  where
    none : (n : ℕ) → n + 0 ≡ n
    none n = omega arith
among_at table name place (b ∷ before) item after x e h =
    in_right x (if looks_at table b then named name place b.1 else []) (among table name (place + length b.1) (before ++ item ∷ after))
    (among_at table name (place + length b.1) before item after x e (subst (λ n. In x (named name n item.1)) count h))
  where
    count : place + length (joined (b ∷ before)) ≡ place + length b.1 + length (joined before)
    count = omega (arith, length-append b.1 (joined before))

-- what is named is found
named_among : (table : Option (List ℕ)) (name : List ℕ) (place : ℕ) (items : List Item) (inner : ℕ) (kind : Kind) → IsNamed items table name inner kind → In (place + inner, kind) (among table name place items)
named_among table name place items inner kind n =
    subst (λ t. In (place + inner, kind) (among table name place t)) (sym n.stands)
    (among_at table name place n.before (n.alias, n.first ++ n.column ∷ n.last) n.after (place + inner, kind) (alias_looked table n.alias _ n.of_item)
    (subst (λ k. In (place + inner, k) (named name (place + length (joined n.before)) (n.first ++ n.column ∷ n.last))) n.of_kind
    (subst (λ m. In (m, n.column.kind) (named name (place + length (joined n.before)) (n.first ++ n.column ∷ n.last))) count
    (there_named name (place + length (joined n.before)) n.first n.column n.last n.called))))
  where
    count : place + length (joined n.before) + length n.first ≡ place + inner
    count = omega (arith, n.at)

-- ---- the one that is found

-- where there is one alone, it is the only one that is named
one_only : (table : Option (List ℕ)) (name : List ℕ) (place : ℕ) (items : List Item) (x : Found) → among table name place items ≡ x ∷ []
    → (inner : ℕ) × (x.0 ≡ place + inner) × IsOnly items table name inner x.1
one_only table name place items x e =
    let r = among_named table name place items x (subst (In x) (sym e) (inl refl)) in
    (r.0, r.1, record { named = r.2; alone = λ other another n. same other another r.0 r.1 (subst (In (place + other, another)) e (named_among table name place items other another n)) })
  where
    same : (other : ℕ) (another : Kind) (inner : ℕ) → x.0 ≡ place + inner → In (place + other, another) (x ∷ []) → other ≡ inner
    same other another inner e (inl f) = omega (arith, e, ap (λ y. y.0) f)
    same other another inner e (inr h) = absurd h

-- the list of which one is found
one_is : (name : List ℕ) (xs : List Found) (x : Found) → one_of name xs ≡ Ok x → xs ≡ x ∷ []
one_is name [] x e = absurd (not_ok _ x e)
one_is name (y ∷ []) x e = ap (λ z. z ∷ []) (ok_same y x e)
one_is name (y ∷ z ∷ more) x e = absurd (not_ok _ x e)

-- the column that is found is the one that c or q.c stands for
pub found_stands : (sight : Sight) (table : Option (List ℕ)) (name : List ℕ) (place : ℕ) (kind : Kind) → found sight table name ≡ Ok (place, kind) → StandsFor sight table name place kind
found_stands sight table name place kind e = by (among table name (length (joined sight.core)) sight.sub) refl e
  where
    by : (inner : List Found) → among table name (length (joined sight.core)) sight.sub ≡ inner → one_of (written table name) (or_else inner (among table name 0 sight.core)) ≡ Ok (place, kind)
        → StandsFor sight table name place kind
    by [] none e =
        let r = one_only table name 0 sight.core (place, kind) (one_is (written table name) (among table name 0 sight.core) (place, kind) e) in
        let same : r.0 ≡ place = omega (arith, r.1) in
        inr (λ p k n. subst (In (length (joined sight.core) + p, k)) none (named_among table name (length (joined sight.core)) sight.sub p k n), subst (λ n. IsOnly sight.core table name n kind) same r.2)
    by (y ∷ ys) some e = inl (one_only table name (length (joined sight.core)) sight.sub (place, kind) (some ∙ one_is (written table name) (y ∷ ys) (place, kind) e))

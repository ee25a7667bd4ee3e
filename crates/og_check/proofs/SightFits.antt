-- A column that is found stands at its place in the row, with its kind.
use Rattle.std.proofs.Common.{◌≡◌, ◌+◌, ◌++◌, ℕ, Bool, true, false, List, [], ◌∷◌, Option, Some, Ok, length, slice_get, if◌then◌else◌, refl, ap, sym, subst, ◌∙◌, append_assoc, length-append}
use Rattle.std.specs.List.{AllByRecursion}
use Rattle.std.specs.Str.{bytes_eq}
use Rattle.std.proofs.lemmas.List.{map-append, length-map}
use Rattle.og_value.specs.declared.kind.Kind.{Kind}
use Rattle.og_value.specs.declared.schema.Column.{Column}
use Rattle.og_query.specs.Kinds.{kinds_of}
use Rattle.og_check.specs.Sight.{Item, Sight, Found, joined, named, looks_at, among, or_else, one_of, written, candidates, found}
use Rattle.og_check.proofs.OkLemmas.{not_ok, ok_same}
use Rattle.og_check.proofs.Parts.{kind}

-- the found kind stands at the found place
abbrev pub IsIn : List Kind → Found → Type 0
IsIn kinds x = slice_get kinds x.0 ≡ Some x.1

-- the kind after a front stands at the place that is as long
pub get_at : (front : List Kind) (kind : Kind) (back : List Kind) → slice_get (front ++ kind ∷ back) (length front) ≡ Some kind
get_at [] kind back = refl
get_at (k ∷ front) kind back = get_at front kind back

-- what holds of both lists holds of the one after the other
pub all_append : {A : Type 0} (P : A → Type 0) (xs ys : List A) → AllByRecursion P xs → AllByRecursion P ys → AllByRecursion P (xs ++ ys)
all_append P [] ys h t = t
all_append P (x ∷ xs) ys h t = (h.0, all_append P xs ys h.1 t)

-- where the kinds of columns stand from a place on, those of that name are found
named_fits : (name : List ℕ) (kinds : List Kind) (place : ℕ) (front : List Kind) (cs : List Column) (back : List Kind)
    → place ≡ length front → kinds ≡ front ++ (kinds_of cs ++ back) → AllByRecursion (IsIn kinds) (named name place cs)
named_fits name kinds place front [] back e f = tt
named_fits name kinds place front (c ∷ cs) back e f =
    by_test (bytes_eq c.name name) here (named_fits name kinds (place + 1) (front ++ c.kind ∷ []) cs back count (f ∙ sym (append_assoc front (c.kind ∷ []) (kinds_of cs ++ back))))
  where
    here : IsIn kinds (place, c.kind)
    here = ap (λ ks. slice_get ks place) f ∙ ap (slice_get (front ++ c.kind ∷ (kinds_of cs ++ back))) e ∙ get_at front c.kind (kinds_of cs ++ back)

    count : place + 1 ≡ length (front ++ c.kind ∷ [])
    count = ap (λ n. n + 1) e ∙ sym (length-append front (c.kind ∷ []))

    by_test : (b : Bool) → IsIn kinds (place, c.kind) → AllByRecursion (IsIn kinds) (named name (place + 1) cs)
        → AllByRecursion (IsIn kinds) (if b then (place, c.kind) ∷ named name (place + 1) cs else named name (place + 1) cs)
    by_test true h t = (h, t)
    by_test false h t = t

-- the same of the columns of items
among_fits : (table : Option (List ℕ)) (name : List ℕ) (kinds : List Kind) (place : ℕ) (front : List Kind) (items : List Item) (back : List Kind)
    → place ≡ length front → kinds ≡ front ++ (kinds_of (joined items) ++ back) → AllByRecursion (IsIn kinds) (among table name place items)
among_fits table name kinds place front [] back e f = tt
among_fits table name kinds place front (item ∷ items) back e f =
    all_append (IsIn kinds) (if looks_at table item then named name place item.1 else []) (among table name (place + length item.1) items)
    (by_test (looks_at table item) (named_fits name kinds place front item.1 (kinds_of (joined items) ++ back) e split))
    (among_fits table name kinds (place + length item.1) (front ++ kinds_of item.1) items back count (split ∙ sym (append_assoc front (kinds_of item.1) (kinds_of (joined items) ++ back))))
  where
    split : kinds ≡ front ++ (kinds_of item.1 ++ (kinds_of (joined items) ++ back))
    split = f ∙ ap (λ ks. front ++ (ks ++ back)) (map-append kind item.1 (joined items)) ∙ ap (λ ks. front ++ ks) (append_assoc (kinds_of item.1) (kinds_of (joined items)) back)

    count : place + length item.1 ≡ length (front ++ kinds_of item.1)
    count = (λ i. e i + sym (length-map item.1 kind) i) ∙ sym (length-append front (kinds_of item.1))

    by_test : (b : Bool) → AllByRecursion (IsIn kinds) (named name place item.1) → AllByRecursion (IsIn kinds) (if b then named name place item.1 else [])
    by_test true h = h
    by_test false h = tt

-- what holds of both lists holds of the one that is taken
or_else_fits : (P : Found → Type 0) (xs ys : List Found) → AllByRecursion P xs → AllByRecursion P ys → AllByRecursion P (or_else xs ys)
or_else_fits P [] ys h t = t
or_else_fits P (x ∷ xs) ys h t = h

-- what holds of all holds of the one
one_fits : (P : Found → Type 0) (name : List ℕ) (xs : List Found) (x : Found) → AllByRecursion P xs → one_of name xs ≡ Ok x → P x
one_fits P name [] x h e = absurd (not_ok _ x e)
one_fits P name (y ∷ []) x h e = subst P (ok_same y x e) h.0
one_fits P name (y ∷ z ∷ more) x h e = absurd (not_ok _ x e)

-- where the kinds begin with those in sight, a column that is found stands at its place
pub found_fits : (sight : Sight) (kinds back : List Kind) → kinds ≡ kinds_of (joined sight.core) ++ (kinds_of (joined sight.sub) ++ back)
    → (table : Option (List ℕ)) (name : List ℕ) (x : Found) → found sight table name ≡ Ok x → IsIn kinds x
found_fits sight kinds back f table name x e =
    one_fits (IsIn kinds) (written table name) (candidates sight table name) x
    (or_else_fits (IsIn kinds) (among table name (length (joined sight.core)) sight.sub) (among table name 0 sight.core)
    (among_fits table name kinds (length (joined sight.core)) (kinds_of (joined sight.core)) sight.sub back (sym (length-map (joined sight.core) kind)) f)
    (among_fits table name kinds 0 [] sight.core (kinds_of (joined sight.sub) ++ back) refl f))
    e

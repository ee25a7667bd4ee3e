-- Counting columns that were found one list after the other.
use Rattle.std.proofs.Common.{◌≡◌, ◌++◌, ◌+◌, ◌<◌, ℕ, Bool, true, false, List, [], ◌∷◌, Option, Some, length, drop, get_or, slice_get, if◌then◌else◌, refl, ap, sym, ◌∙◌, length-append, arith}
use Rattle.std.specs.Str.{bytes_eq}
use Rattle.og_value.specs.declared.schema.Column.{Column}
use Rattle.og_check.specs.declared.hits.Hits.{Hits}
use Rattle.og_check.specs.declared.hits.Hits.TheVariants as h
use Rattle.og_check.specs.Hits.{with_found}
use Rattle.og_check.specs.Sight.{Found, Item, joined, named, looks_at, among}
use Rattle.og_check.proofs.Parts.{left, left_got}

-- both lists count as the one after the other
pub with_found-append : (hits : Hits) (xs ys : List Found) → with_found hits (xs ++ ys) ≡ with_found (with_found hits xs) ys
with_found-append h.Nothing [] ys = refl
with_found-append h.Nothing (x ∷ []) ys = refl
with_found-append h.Nothing (x ∷ y ∷ xs) ys = refl
with_found-append (h.One place kind) [] ys = refl
with_found-append (h.One place kind) (x ∷ xs) ys = refl
with_found-append h.More xs ys = refl

-- the columns of that name from a place on are that of the column there, and then those after it
named_left : (name : List ℕ) (place : ℕ) (c : Column) (cs : List Column)
    → named name place (c ∷ cs) ≡ (if bytes_eq c.name name then (place, c.kind) ∷ [] else []) ++ named name (place + 1) cs
named_left name place c cs = by_test (bytes_eq c.name name)
  where
    by_test : (b : Bool) → (if b then (place, c.kind) ∷ named name (place + 1) cs else named name (place + 1) cs) ≡ (if b then (place, c.kind) ∷ [] else []) ++ named name (place + 1) cs
    by_test true = refl
    by_test false = refl

-- with the column at a place, those after it are left
pub named_next : (hits : Hits) (name : List ℕ) (place i : ℕ) (columns : List Column) (c : Column) → slice_get columns i ≡ Some c
    → with_found (with_found hits (if bytes_eq c.name name then (place + i, c.kind) ∷ [] else [])) (named name (place + (i + 1)) (drop (i + 1) columns))
    ≡ with_found hits (named name (place + i) (drop i columns))
named_next hits name place i columns c e =
    sym (with_found-append hits (if bytes_eq c.name name then (place + i, c.kind) ∷ [] else []) (named name (place + (i + 1)) (drop (i + 1) columns)))
    ∙ ap (λ k. with_found hits ((if bytes_eq c.name name then (place + i, c.kind) ∷ [] else []) ++ named name k (drop (i + 1) columns))) (omega arith)
    ∙ ap (with_found hits) (sym (named_left name (place + i) c (drop (i + 1) columns)))
    ∙ ap (λ cs. with_found hits (named name (place + i) cs)) (sym (left_got columns i c e))

-- with the columns of the item at a place, those of the items after it are left
pub among_next : (hits : Hits) (table : Option (List ℕ)) (name : List ℕ) (place i : ℕ) (items : List Item) (item : Item) → i < length items → item ≡ get_or items i item
    → with_found (with_found hits (if looks_at table item then named name place item.1 else [])) (among table name (place + length item.1) (drop (i + 1) items))
    ≡ with_found hits (among table name place (drop i items))
among_next hits table name place i items item h e =
    sym (with_found-append hits (if looks_at table item then named name place item.1 else []) (among table name (place + length item.1) (drop (i + 1) items)))
    ∙ ap (λ zs. with_found hits (among table name place zs)) (sym (left items i item h e))

-- the columns of the items from a place on are those of the item there and of the items after it
pub joined_next : (items : List Item) (i : ℕ) (item : Item) → i < length items → item ≡ get_or items i item
    → length (joined (drop i items)) ≡ length item.1 + length (joined (drop (i + 1) items))
joined_next items i item h e = ap (λ zs. length (joined zs)) (left items i item h e) ∙ length-append item.1 (joined (drop (i + 1) items))

-- Equal keys are equal columns, where each pair is of two columns that are both INT or both TEXT.
use Rattle.std.proofs.Common.{◌≡◌, ◌++◌, ◌+◌, ◌<◌, ◌&&◌, ℕ, Bool, true, false, List, [], ◌∷◌, Option, Some, None, length, get_or, map, take, slice_get, Ordering, Less, Equal, Greater, refl, sym, ap, ap₂, ◌∙◌}
use Rattle.std.specs.List.{list_all}
use Rattle.std.specs.Option.{option_map, unwrap_or}
use Rattle.std.specs.Ordering.{is_eq, ordering_then}
use Rattle.std.specs.Cmp.Lexicographic.{slice_cmp}
use Rattle.std.proofs.lemmas.Bool.{and_parts}
use Rattle.std.proofs.lemmas.List.{map_more}
use Rattle.std.proofs.lemmas.Option.{slice_get-map, unwrap_or-slice_get}
use Rattle.og_value.specs.Order.{value_order}
use Rattle.og_value.specs.declared.kind.Kind.{Kind}
use Rattle.og_value.specs.declared.kind.Kind.TheVariants as k
use Rattle.og_value.specs.declared.term.Cmp.TheVariants as cmp
use Rattle.og_value.specs.declared.value.FixedValue.{FixedValue}
use Rattle.og_value.specs.declared.value.FixedValue.TheVariants as f
use Rattle.og_query.specs.Conditions.{allows, compares}
use Rattle.og_query.specs.Expressions.{no_value}
use Rattle.og_query.specs.Kinds.{fixed_kind}
use Rattle.og_query.specs.Queries.{Fixed}
use Rattle.og_plan.specs.Joins.{are_key_kinds}
use Rattle.og_plan.specs.Meaning.{column, are_equal}
use Rattle.og_plan.specs.Shapes.{is_key_pair}
use Rattle.og_plan.specs.declared.plan.ColPair.{ColPair}
use Rattle.og_exec.specs.ColumnKeys.{apart, column_key}
use Rattle.og_exec.specs.Keys.{key_value, place_in, key, have_one_key}
use Rattle.og_exec.proofs.ShapeLemmas.{HasKinds}

-- the step of a loop that appends to a key what it has of one more column
pub keyed_more : {A B : Type 0} (f : A → B) (xs : List A) (i : ℕ) (d x : A) (y : B) (old new : List B) → i < length xs → x ≡ get_or xs i d
    → map f (take i xs) ≡ old → f x ≡ y → new ≡ old ++ y ∷ [] → map f (take (i + 1) xs) ≡ new
keyed_more f xs i d x y old new within is before e step = map_more f xs i d within ∙ ap₂ (λ a b. a ++ b ∷ []) before (ap f (sym is) ∙ e) ∙ sym step

-- a key with its first value apart has what it has of the first pair, and behind it what it has of the others
pub column_keyed : (left : Bool) (pairs others : List ColPair) (pair : ColPair) (row : Fixed) (first : FixedValue) (rest : List FixedValue) → pairs ≡ pair ∷ others
    → key_value (column row (place_in left pair)) ≡ first → key left others row ≡ rest → column_key left pairs row ≡ apart (first ∷ rest)
column_keyed left pairs others pair row first rest is here later = ap (λ ps. column_key left ps row) is ∙ ap₂ (λ x xs. apart (x ∷ xs)) here later

-- two values have equal parts of a key
abbrev tie : FixedValue → FixedValue → Bool
tie x y = is_eq (value_order (key_value x) (key_value y))

-- an order is Equal where equality allows it
eq_allows : (o : Ordering) → is_eq o ≡ allows cmp.Eq o
eq_allows Less = refl
eq_allows Equal = refl
eq_allows Greater = refl

-- two orders, one after the other, are Equal where both are
then_eq : (a b : Ordering) → is_eq (ordering_then a b) ≡ (is_eq a && is_eq b)
then_eq Less b = refl
then_eq Equal b = refl
then_eq Greater b = refl

-- two numbers, or two texts, tie where they are equal
values_tie : (x y : FixedValue) → are_key_kinds (Some (fixed_kind x)) (Some (fixed_kind y)) ≡ true → tie x y ≡ compares cmp.Eq x y
values_tie (f.Int m) (f.Int n) e = eq_allows (value_order (f.Int m) (f.Int n))
values_tie (f.Int m) (f.Text n) e = cc
values_tie (f.Int m) (f.Date n) e = cc
values_tie (f.Int m) (f.Period n) e = cc
values_tie (f.Text m) (f.Int n) e = cc
values_tie (f.Text m) (f.Text n) e = eq_allows (value_order (f.Text m) (f.Text n))
values_tie (f.Text m) (f.Date n) e = cc
values_tie (f.Text m) (f.Period n) e = cc
values_tie (f.Date m) (f.Int n) e = cc
values_tie (f.Date m) (f.Text n) e = cc
values_tie (f.Date m) (f.Date n) e = cc
values_tie (f.Date m) (f.Period n) e = cc
values_tie (f.Period m) (f.Int n) e = cc
values_tie (f.Period m) (f.Text n) e = cc
values_tie (f.Period m) (f.Date n) e = cc
values_tie (f.Period m) (f.Period n) e = cc

-- the same of values that may be wanting
found_tie : (x y : Option FixedValue) → are_key_kinds (option_map fixed_kind x) (option_map fixed_kind y) ≡ true → tie (unwrap_or x no_value) (unwrap_or y no_value) ≡ compares cmp.Eq (unwrap_or x no_value) (unwrap_or y no_value)
found_tie (Some x) (Some y) e = values_tie x y e
found_tie (Some x) None e = none_beside (fixed_kind x) e
  where
    none_beside : {G : Type 0} (kind : Kind) → are_key_kinds (Some kind) None ≡ true → G
    none_beside k.Int e = cc
    none_beside k.Text e = cc
    none_beside k.Date e = cc
    none_beside k.Period e = cc
found_tie None y e = cc

-- the columns of a pair of keys tie where they are equal
columns_tie : (ls rs : List Kind) (x y : Fixed) (pair : ColPair) → HasKinds ls x → HasKinds rs y → is_key_pair (Some ls) (Some rs) pair ≡ true
    → tie (column x pair.left) (column y pair.right) ≡ are_equal x y pair
columns_tie ls rs x y pair left right e =
    let a = slice_get x pair.left in
    let b = slice_get y pair.right in
    let at_left = sym (slice_get-map fixed_kind x pair.left) ∙ ap (λ ks. slice_get ks pair.left) left in
    let at_right = sym (slice_get-map fixed_kind y pair.right) ∙ ap (λ ks. slice_get ks pair.right) right in
    let at = found_tie a b (ap₂ are_key_kinds at_left at_right ∙ e) in
    let l = unwrap_or-slice_get x pair.left no_value in
    let r = unwrap_or-slice_get y pair.right no_value in
    ap₂ tie (sym l) (sym r) ∙ at ∙ ap₂ (compares cmp.Eq) l r

-- keys are equal where all their columns tie
keys_tie : (x y : Fixed) (pairs : List ColPair) → have_one_key pairs x y ≡ list_all (λ pair. tie (column x pair.left) (column y pair.right)) pairs
keys_tie x y [] = refl
keys_tie x y (pair ∷ pairs) =
    then_eq (value_order (key_value (column x pair.left)) (key_value (column y pair.right))) (slice_cmp value_order (key true pairs x) (key false pairs y))
    ∙ ap (λ b. tie (column x pair.left) (column y pair.right) && b) (keys_tie x y pairs)

-- all columns tie where all are equal
all_tie : (ls rs : List Kind) (x y : Fixed) (pairs : List ColPair) → HasKinds ls x → HasKinds rs y → list_all (is_key_pair (Some ls) (Some rs)) pairs ≡ true
    → list_all (λ pair. tie (column x pair.left) (column y pair.right)) pairs ≡ list_all (are_equal x y) pairs
all_tie ls rs x y [] left right e = refl
all_tie ls rs x y (pair ∷ pairs) left right e =
    let both = and_parts (is_key_pair (Some ls) (Some rs) pair) (list_all (is_key_pair (Some ls) (Some rs)) pairs) e in
    ap₂ (λ a b. a && b) (columns_tie ls rs x y pair left right both.0) (all_tie ls rs x y pairs left right both.1)

-- rows have equal keys where the columns of each pair are equal
pub keys_are_columns : (ls rs : List Kind) (x y : Fixed) (pairs : List ColPair) → HasKinds ls x → HasKinds rs y → list_all (is_key_pair (Some ls) (Some rs)) pairs ≡ true
    → have_one_key pairs x y ≡ list_all (are_equal x y) pairs
keys_are_columns ls rs x y pairs left right e = keys_tie x y pairs ∙ all_tie ls rs x y pairs left right e

-- The algebra of sets of rows on one day: rising lists, by an order of rows.
use Rattle.std.specs.Prelude.{not, Bool, List, ◌++◌, filter}
use Rattle.std.specs.List.{list_any}
use Rattle.std.specs.Ordering.{eq_by_cmp}
use Rattle.std.specs.declared.cmp.Ordering.{Ordering}
use Rattle.og_base.specs.Set.{set_of}

-- whether the row is one of these
abbrev pub is_in : {F : Type 0} → (F → F → Ordering) → F → List F → Bool
is_in cmp x ys = list_any (eq_by_cmp cmp x) ys

-- UNION: the set of both lists together
abbrev pub union : {F : Type 0} → (F → F → Ordering) → List F → List F → List F
union cmp xs ys = set_of cmp (xs ++ ys)

-- EXCEPT: the rows of the left that are not in the right
abbrev pub except : {F : Type 0} → (F → F → Ordering) → List F → List F → List F
except cmp xs ys = filter (λ x. not (is_in cmp x ys)) xs

-- INTERSECT: the rows of the left that are in the right
abbrev pub intersect : {F : Type 0} → (F → F → Ordering) → List F → List F → List F
intersect cmp xs ys = filter (λ x. is_in cmp x ys) xs

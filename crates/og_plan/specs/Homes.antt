-- Where the parts of a condition belong: at the leaf of a FROM item, or at a join.
use Rattle.std.specs.Prelude.{◌-◌, ◌==◌, ℕ, suc, nat_lt, Bool, false, List, [], ◌∷◌, map, filter, fold, max, if◌then◌else◌}
use Rattle.std.specs.List.{list_all}
use Rattle.og_query.specs.declared.condition.Cond.{Cond}
use Rattle.og_plan.specs.declared.plan.Home.{Home}
use Rattle.og_plan.specs.declared.plan.Home.TheVariants.{Leaf, Join}
use Rattle.og_plan.specs.Parts.{places_of}

-- the item, from 0, among whose columns the place is, where the items have so many columns
abbrev pub item_at : List ℕ → ℕ → ℕ
item_at [] place = 0
item_at (width ∷ widths) place = if nat_lt place width then 0 else suc (item_at widths (place - width))

-- where what names columns of these items belongs: nothing at the first leaf, one item at its leaf, others at the join of the last
abbrev pub home_of_items : List ℕ → Home
home_of_items [] = Leaf 0
home_of_items (k ∷ ks) = if list_all (λ n. n == k) ks then Leaf k else Join (fold max k ks)

-- where a part belongs
abbrev pub home_of : List ℕ → Cond → Home
home_of widths part = home_of_items (map (item_at widths) (places_of part))

-- whether two homes are one
abbrev pub same_home : Home → Home → Bool
same_home (Leaf k) (Leaf n) = k == n
same_home (Join k) (Join n) = k == n
same_home _ _ = false

-- the parts that belong there, in their order
abbrev pub parts_at : List ℕ → Home → List Cond → List Cond
parts_at widths home parts = filter (λ part. same_home (home_of widths part) home) parts

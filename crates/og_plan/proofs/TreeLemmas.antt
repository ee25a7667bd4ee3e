-- Steps of the loops over the columns of a table and over the FROM items.
use Rattle.std.proofs.Common.{◌≡◌, ◌+◌, ◌++◌, ◌<◌, ◌≤◌, ℕ, suc, List, [], ◌∷◌, Some, length, length-append, get_or, map, slice_get, subst, add-one, ap, sym, take, drop, ◌∙◌}
use Rattle.std.specs.List.{flat_map}
use Rattle.std.proofs.lemmas.List.{append_assoc, drop_more, length-map, map_more}
use Rattle.std.proofs.lemmas.List.Folds.{length-flat_map-take}
use Rattle.std.proofs.lemmas.Option.{slice_get_within, get_or_from_slice_get}
use Rattle.og_value.specs.declared.kind.Kind.{Kind}
use Rattle.og_query.specs.Kinds.{kinds_of}
use Rattle.og_query.specs.declared.condition.Cond.{Cond}
use Rattle.og_query.specs.declared.query.From1.{From1}
use Rattle.og_plan.proofs.LoopLemmas.{flat_map_next}
use Rattle.og_plan.specs.Homes.{parts_at}
use Rattle.og_plan.specs.Joins.{joined_by}
use Rattle.og_plan.specs.PlanOf.{joined_from, leaf_of}
use Rattle.og_plan.specs.declared.plan.Home.TheVariants.{Join}
use Rattle.og_plan.specs.declared.plan.Plan.{Plan}

-- the step of a loop that appends what a function makes of each
pub appended_more : {A B : Type 0} (f : A → B) (xs : List A) (i : ℕ) (x : A) (front old new : List B) → slice_get xs i ≡ Some x
    → old ≡ front ++ map f (take i xs) → new ≡ old ++ f x ∷ [] → new ≡ front ++ map f (take (i + 1) xs)
appended_more f xs i x front old new e before step =
    step
    ∙ (λ j. before j ++ ap f (sym (get_or_from_slice_get xs i x x e)) j ∷ [])
    ∙ append_assoc front (map f (take i xs)) (f (get_or xs i x) ∷ [])
    ∙ ap (λ ys. front ++ ys) (sym (map_more f xs i x (slice_get_within xs i x e)))

-- the columns of a table lie within those of all tables, after those of the tables before
pub columns_within : (tables : List From1) (k : ℕ) (d : From1) → k < length tables
    → length (flat_map (λ table. kinds_of table.schema) (take k tables)) + length ((get_or tables k d).schema) ≤ length (flat_map (λ table. kinds_of table.schema) tables)
columns_within tables k d h =
    subst (λ n. length (flat_map (λ table. kinds_of table.schema) (take k tables)) + n ≤ length (flat_map (λ table. kinds_of table.schema) tables))
    (length-map (get_or tables k d).schema (λ column. column.kind))
    (length-flat_map-take (λ table. kinds_of table.schema) tables k d h)

-- the step of the loop that joins the tree with one leaf after the other
pub tree_step : (kinds : List Kind) (widths : List ℕ) (parts : List Cond) (k start : ℕ) (tree : Plan) (tables : List From1) (table : From1) (width : ℕ) (next whole : Plan)
    → k < length tables → table ≡ get_or tables k table → width ≡ length table.schema
    → next ≡ joined_by kinds start tree (leaf_of widths parts k start table) (parts_at widths (Join k) parts)
    → joined_from kinds widths parts k start tree (drop k tables) ≡ whole → joined_from kinds widths parts (k + 1) (start + width) next (drop (k + 1) tables) ≡ whole
tree_step kinds widths parts k start tree tables table width next whole within is wide joined left =
    let more = drop (k + 1) tables in
    ap (λ n. joined_from kinds widths parts n (start + width) next more) (add-one k)
    ∙ ap (λ n. joined_from kinds widths parts (suc k) (start + n) next more) wide
    ∙ ap (λ p. joined_from kinds widths parts (suc k) (start + length table.schema) p more) joined
    ∙ ap (joined_from kinds widths parts k start tree) (ap (λ t. t ∷ more) is ∙ sym (drop_more tables k table within))
    ∙ left

-- the columns of one table more
pub columns_more : (tables : List From1) (k start width : ℕ) (table : From1) → k < length tables → table ≡ get_or tables k table → width ≡ length table.schema
    → start ≡ length (flat_map (λ table. kinds_of table.schema) (take k tables)) → start + width ≡ length (flat_map (λ table. kinds_of table.schema) (take (k + 1) tables))
columns_more tables k start width table within is wide before =
    let kinds = flat_map (λ table. kinds_of table.schema) (take k tables) in
    ap (λ n. n + width) before
    ∙ ap (λ n. length kinds + n) (wide ∙ sym (length-map table.schema (λ column. column.kind)))
    ∙ sym (ap length (flat_map_next (λ table. kinds_of table.schema) tables k table within is) ∙ length-append kinds (kinds_of table.schema))

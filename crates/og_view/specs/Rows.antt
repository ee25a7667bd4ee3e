-- The rows of a core over lists of rows, one for each place of FROM.
use Rattle.std.specs.Prelude.{ℤ, List, [], ◌∷◌, map, filter}
use Rattle.og_base.specs.Set.{set_of}
use Rattle.og_value.specs.Order.{row_order}
use Rattle.og_query.specs.Combinations.{combinations}
use Rattle.og_query.specs.Conditions.{truth}
use Rattle.og_query.specs.Queries.{Fixed, image}
use Rattle.og_query.specs.declared.query.Core.{Core}

-- of all combinations of a row from each list those for which the condition holds, mapped to the items, as a set
abbrev pub rows_over : ℤ → Core → List (List Fixed) → List Fixed
rows_over d core lists = set_of row_order (map (image d core.items) (filter (λ row. truth d row core.cond) (combinations lists)))

-- of some lists and new rows of each: place by place the new rows there, and the lists at the other places
abbrev pub turns : List (List Fixed) → List (List Fixed) → List (List (List Fixed))
turns (rows ∷ lists) (new ∷ news) = (new ∷ lists) ∷ map (λ one. rows ∷ one) (turns lists news)
turns lists news = []

-- Size: how many rows an answer has at most, where each name has so many.
use Rattle.std.specs.Prelude.{◌+◌, ◌*◌, ℕ, List, fold}
use Rattle.og_value.specs.declared.term.SetOp.{SetOp}
use Rattle.og_value.specs.declared.term.SetOp.TheVariants as op
use Rattle.og_query.specs.declared.query.Core.{Core}
use Rattle.og_query.specs.declared.query.Query.{Query}

-- how many rows each name has
abbrev pub Sizes : Type 0
Sizes = List ℕ → ℕ

-- of a core: the product of the sizes of its tables
abbrev pub core_size : Sizes → Core → ℕ
core_size sizes core = fold (λ size table. size * sizes table.name) 1 core.tables

-- of two answers: UNION adds, and the others keep the left one's
abbrev pub combined_size : SetOp → ℕ → ℕ → ℕ
combined_size op.Union left right = left + right
combined_size op.Except left right = left
combined_size op.Intersect left right = left

-- of a query: the sizes of its cores, combined from the left
abbrev pub query_size : Sizes → Query → ℕ
query_size sizes query = fold (λ size rest. combined_size rest.op size (core_size sizes rest.core)) (core_size sizes query.first) query.rest

-- Relations, and beside them the numbers that their rows have in columns.
use Rattle.std.specs.Prelude.{◌≡◌, ◌<◌, ◌++◌, ⊤, IfSome, ℕ, ℤ, List, Some, map, swap, take}
use Rattle.og_rel.specs.Places.{ArePlaces, others_at}
use Rattle.og_reduce.specs.Sieves.{Relation}
use Rattle.og_reduce.specs.declared.columns.Column.{Column}
use Rattle.og_reduce.specs.declared.columns.Edit.{Edit}
use Rattle.og_reduce.specs.declared.columns.Edit.TheVariants as e
use Rattle.og_value.specs.Heads.{number_at}

-- each row has a number in a column, and these are the numbers
abbrev pub AreNumbers : ℕ → List ℤ → Relation → Type 0
AreNumbers place numbers rel = map (λ p. number_at p.0 place) rel ≡ map Some numbers

-- a column beside a relation has the numbers that the rows have there, or nothing
abbrev pub IsBeside : Relation → Column → Type 0
IsBeside rel column = IfSome column.numbers (λ numbers. AreNumbers column.place numbers.items rel)

-- what an edit makes of a relation
abbrev pub edited : Edit → Relation → Relation
edited (e.Append pairs) rel = rel ++ map (λ p. (p.row, p.days)) pairs.now
edited (e.Truncate len) rel = take len rel
edited (e.Swap i j) rel = swap rel i j
edited (e.RemoveAt at) rel = others_at at.now rel

-- an edit may be made of that many rows: it names no place behind them
abbrev pub MayEdit : Edit → ℕ → Type 0
MayEdit (e.Append pairs) len = ⊤
MayEdit (e.Truncate end) len = ⊤
MayEdit (e.Swap i j) len = (i < len) × (j < len)
MayEdit (e.RemoveAt at) len = ArePlaces at.now len

-- Rows of a day that were listed, and their text. Beside private functions alone.
use Rattle.std.specs.Prelude.{◌≡◌, ℤ, Bool, IsTrue, List, map}
use Rattle.std.specs.List.{flat_map}
use Rattle.og_value.specs.Cells.{fixed_text}
use Rattle.og_value.specs.Order.{row_order}
use Rattle.og_value.specs.Values.{row_at}
use Rattle.og_value.specs.declared.value.Value.{Value}
use Rattle.og_query.specs.Queries.{Fixed}
use Rattle.og_rel.specs.Pairs.{present_of_pairs}
use Rattle.og_rel.specs.Shares.{AreListed, rows_of}
use Rattle.og_rel.specs.declared.pair.Pair.{Pair}
use Rattle.og_output.specs.Records.{records}
use Rattle.og_output.specs.declared.sights.Listed.{Listed}

-- the rows of the lists
abbrev pub listed_rows : List Listed → List Fixed
listed_rows made = rows_of (map (λ l. l.rows) made)

-- the lists rise and have the rows of the pairs on the day, and the texts are those of their records where these are wanted
abbrev pub IsListed : ℤ → Bool → List (Pair (List Value)) → List Listed → Type 0
IsListed day with_text pairs made = AreListed row_order (present_of_pairs row_at pairs day) (map (λ l. l.rows) made)
    × (IsTrue with_text → flat_map (λ l. l.text.items) made ≡ records (map (map fixed_text) (listed_rows made)))

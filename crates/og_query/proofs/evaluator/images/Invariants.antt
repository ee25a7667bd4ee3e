use Rattle.std.proofs.Common.{◌≡◌, ◌++◌, ℤ, Some, None, true, length, map, filter, if◌then◌else◌}
use Rattle.og_query.specs.Combinations.{combinations}
use Rattle.og_query.specs.Queries.{image, is_kept}
use Rattle.og_query.specs.Tables.{rows_of, tables_in}
use Rattle.og_query.specs.Walk.{all_have_rows, left_of}
use Rattle.og_query.proofs.evaluator.images.Given as goal

abbrev pub invariant-walk : goal.invariant-walk
invariant-walk l = record {
  places : length l.sizes.items ≡ length l.places.items;
  some : l.more ≡ true → all_have_rows (map (λ table. rows_of l.names (tables_in l.tables) table.name) l.core.tables) ≡ true;
  left : (d : ℤ)
      → l.images.items
      ++ map (image d l.core.items) (filter (is_kept d (rows_of l.names (tables_in l.tables)) l.core)
      (left_of (map (λ table. rows_of l.names (tables_in l.tables) table.name) l.core.tables) (if l.more then Some l.places.items else None)))
      ≡ map (image d l.core.items) (filter (is_kept d (rows_of l.names (tables_in l.tables)) l.core)
      (combinations (map (λ table. rows_of l.names (tables_in l.tables) table.name) l.core.tables)));
}

abbrev pub decreases-walk : goal.decreases-walk
decreases-walk l = length (left_of (map (λ table. rows_of l.names (tables_in l.tables) table.name) l.core.tables) (if l.more then Some l.places.items else None))

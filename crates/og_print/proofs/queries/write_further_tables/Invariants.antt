use Rattle.std.proofs.Common.{◌≡◌, drop}
use Rattle.og_print.specs.Words.{with_words, each}
use Rattle.og_print.specs.Queries.{further_table_words}
use Rattle.og_print.proofs.queries.write_further_tables.Given as goal

abbrev pub invariant-parts : goal.invariant-parts
invariant-parts l = with_words l.out.items (each further_table_words (drop l.part-index l.tables)) ≡ with_words l.fn.out.items (each further_table_words l.tables)

use Rattle.std.proofs.Common.{◌≡◌, drop}
use Rattle.og_print.specs.Words.{with_words, each}
use Rattle.og_print.specs.Queries.{rest_words}
use Rattle.og_print.proofs.queries.write_rests.Given as goal

abbrev pub invariant-parts : goal.invariant-parts
invariant-parts l = with_words l.out.items (each rest_words (drop l.part-index l.part-items)) ≡ with_words l.fn.out.items (each rest_words l.rests)

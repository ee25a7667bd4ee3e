use Rattle.std.proofs.Common.{◌≡◌, drop, []}
use Rattle.og_print.specs.Words.{with_words, each}
use Rattle.og_print.specs.Statements.{stmt_words}
use Rattle.og_print.proofs.script.write_stmts.Given as goal

abbrev pub invariant-parts : goal.invariant-parts
invariant-parts l = with_words l.out.items (each stmt_words (drop l.part-index l.part-items)) ≡ with_words [] (each stmt_words l.stmts)

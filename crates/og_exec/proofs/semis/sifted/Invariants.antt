use Rattle.std.proofs.Common.{◌≡◌, ◌≤◌, ℤ, length, filter, take}
use Rattle.std.specs.List.{list_all}
use Rattle.og_base.specs.Calendar.{IsRefDay}
use Rattle.og_plan.specs.Meaning.{meets_semi}
use Rattle.og_exec.specs.Answers.{rel_of}
use Rattle.og_exec.specs.Tables.{rows_at, rows_on}
use Rattle.og_exec.proofs.semis.sifted.Given as goal

abbrev pub invariant-semis : goal.invariant-semis
invariant-semis g l = record {
  law : (d : ℤ) → IsRefDay d → rows_on (rel_of l.met) d
      ≡ filter (λ row. list_all (meets_semi d (rows_at (g.T.Tables.named l.tables) d) row) (take l.semi-index l.semis)) (rows_on (rel_of l.fn.input) d);
  size : length (rel_of l.met) ≤ length (rel_of l.fn.input);
}

use Rattle.std.proofs.Common.{◌≡◌, ◌-◌, ◌<◌, ◌≤◌, ℕ, List, Some, false, get_or, length, pos}
use Rattle.og_value.specs.Heads.{number_at}
use Rattle.og_value.specs.declared.value.Value.{Value}
use Rattle.og_reduce.proofs.columns.next_of.Given as goal

abbrev pub invariant-numbers : goal.invariant-numbers
invariant-numbers g l = record {
  least : l.from ≤ l.i;
  most : l.i ≤ length l.numbers;
  others : (k : ℕ) → l.from ≤ k → k < l.i → (row : List Value) → number_at row l.place ≡ Some (get_or l.numbers k (pos 0)) → g.T.RowTest.passes l.test row ≡ false;
}

abbrev pub decreases-numbers : goal.decreases-numbers
decreases-numbers g l = length l.numbers - l.i

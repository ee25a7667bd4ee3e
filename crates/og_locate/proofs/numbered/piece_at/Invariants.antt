use Rattle.std.proofs.Common.{◌≡◌, ◌≤◌, ◌+◌, ◌-◌, ℕ, length}
use Rattle.og_locate.proofs.PieceLemmas.{IsPassed}
use Rattle.og_locate.proofs.numbered.piece_at.Given as goal

abbrev pub invariant-parts : goal.invariant-parts
invariant-parts l = record {
  passed : (passed : ℕ) × IsPassed l.script l.at passed × (passed + l.before ≡ l.number - 1);
  within : l.at ≤ length l.script;
}

abbrev pub decreases-parts : goal.decreases-parts
decreases-parts l = length l.script - l.at

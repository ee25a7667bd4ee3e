use Rattle.std.proofs.Common.{◌≡◌, ◌+◌, ◌≤◌, drop}
use Rattle.og_join.specs.Sweep.{reach_of}
use Rattle.og_join.proofs.sweep.reach.Given as goal

abbrev pub invariant-others : goal.invariant-others
invariant-others g l = record {
  value : reach_of g.E.Envelope.lo (g.E.Envelope.hi l.span) l.others ≡ l.count + reach_of g.E.Envelope.lo (g.E.Envelope.hi l.span) (drop l.count l.others);
  place : l.count ≡ l.other-index;
  cost : l.steps ≤ l.initial.steps + l.count;
  later : l.initial.steps ≤ l.steps;
}

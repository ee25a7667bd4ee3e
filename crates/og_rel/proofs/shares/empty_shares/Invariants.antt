use Rattle.std.proofs.Common.{◌≡◌, []}
use Rattle.og_rel.specs.Shares.{rows_of_shares}
use Rattle.og_rel.proofs.shares.empty_shares.Given as goal

abbrev pub invariant-shares : goal.invariant-shares
invariant-shares g l = rows_of_shares l.shares.items ≡ []

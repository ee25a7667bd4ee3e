use Rattle.std.proofs.Common.{◌≡◌, drop, map}
use Rattle.og_check.specs.Cores.{semi_of}
use Rattle.og_check.specs.Fronts.{with_front}
use Rattle.og_check.specs.Steps.{in_order}
use Rattle.og_check.specs.Names.{schemas_in}
use Rattle.og_check.proofs.tables.semis_of.Given as goal

abbrev pub invariant-each : goal.invariant-each
invariant-each g l = with_front l.typed (in_order (map (semi_of (schemas_in l.names (g.C.Catalog.known l.known)) l.items) (drop l.semi-index l.semis))) ≡ in_order (map (semi_of (schemas_in l.names (g.C.Catalog.known l.known)) l.items) l.semis)

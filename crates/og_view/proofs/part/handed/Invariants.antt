use Rattle.std.proofs.Common.{◌≡◌, Some, slice_get, take}
use Rattle.std.specs.List.{All}
use Rattle.og_query.specs.declared.query.From1.{From1}
use Rattle.og_view.specs.Parts.{IsHanded}
use Rattle.og_view.proofs.part.handed.Given as goal

abbrev pub invariant-tests : goal.invariant-tests
invariant-tests l = (table : From1) → slice_get l.tables l.place ≡ Some table → All (IsHanded l.sieve (take l.place l.tables) table) l.tests.items

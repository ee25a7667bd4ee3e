-- The names of the entries so far that end.
use Rattle.std.proofs.Common.{◌≡◌, ◌++◌, List, map}
use Rattle.og_outline.specs.Known.{known_held}
use Rattle.og_outline.specs.Outlines.{ending_names}
use Rattle.og_outline.proofs.EntryLemmas.{Entry}
use Rattle.og_outline.proofs.outline.Outline.ending.Given as goal

abbrev pub invariant-names : goal.invariant-names
invariant-names l = (before : List Entry) × (l.self.names ≡ map known_held (before ++ l.key-iterator)) × (l.names.items ≡ ending_names l.name (map known_held before))

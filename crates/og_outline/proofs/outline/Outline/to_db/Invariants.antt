-- The names of the entries so far.
use Rattle.std.proofs.Common.{◌≡◌, ◌++◌, List}
use Rattle.og_outline.proofs.EntryLemmas.{Entry, blank}
use Rattle.og_outline.proofs.outline.Outline.to_db.Given as goal

abbrev pub invariant-names : goal.invariant-names
invariant-names l = (before : List Entry) × (l.self-inside.names.entries ≡ before ++ l.key-iterator) × (l.db ≡ blank before)

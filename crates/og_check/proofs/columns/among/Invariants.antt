use Rattle.std.proofs.Common.{◌≡◌, ◌≤◌, ◌+◌, ◌*◌, drop, length}
use Rattle.og_value.specs.Limits.{max_columns}
use Rattle.og_check.specs.Hits.{hits_of, with_found}
use Rattle.og_check.specs.Sight.{among, joined}
use Rattle.og_check.proofs.columns.among.Given as goal

abbrev pub invariant-items : goal.invariant-items
invariant-items l =
    (with_found l.hits (among l.table l.name l.place (drop l.item-index l.items)) ≡ hits_of (among l.table l.name l.start l.items))
    × (l.place + length (joined (drop l.item-index l.items)) ≡ l.start + length (joined l.items))
    × (l.place ≤ l.start + max_columns * l.item-index)

use Rattle.std.proofs.Common.{◌≡◌, take}
use Rattle.std.specs.List.{flat_map}
use Rattle.og_rel.specs.Shares.{rows_of}
use Rattle.og_output.proofs.blocks.blocks_of.Given as goal

abbrev pub invariant-lists : goal.invariant-lists
invariant-lists l = flat_map (λ b. b.now) l.blocks.items ≡ rows_of (take l.list-index l.lists)

use Rattle.std.proofs.Common.{subst, sym}
use Rattle.std.specs.List.{All}
use Rattle.og_reduce.specs.Columns.{IsBeside}
use Rattle.og_reduce.proofs.stored.Stored.append.Goals as goal

pub edit_all-requires : goal.edit_all-requires
edit_all-requires c = (c.self.inside.rel, subst (λ columns. All (IsBeside c.self.inside.rel) columns.items) (sym c.replace-columns.ensures.value) c.self.invariant, tt)

use Rattle.std.proofs.Common.{◌∙◌, ap, map, subst, sym}
use Rattle.std.specs.List.{All}
use Rattle.og_db.specs.Database.{HaveKinds}
use Rattle.og_db.specs.Entries.{held_of}
use Rattle.og_db.proofs.EntryLemmas.{with_own_relation}
use Rattle.og_db.proofs.database.Db.keep_columns.Goals as goal

pub invariant_of-self : goal.invariant_of-self
invariant_of-self c =
    let es = c.self.inside.names.entries in
    subst (All (λ e. HaveKinds e.1.schema e.1.rel)) (sym (with_own_relation es c.args.i c.index_mut-held.result.now c.keep_columns.new.self c.index_mut-held.ensures.value c.keep_columns.ensures)) c.self.invariant

pub returns : goal.returns
returns c =
    let es = c.self.inside.names.entries in
    ap (map held_of) (with_own_relation es c.args.i c.index_mut-held.result.now c.keep_columns.new.self c.index_mut-held.ensures.value c.keep_columns.ensures) ∙ c.self.view_is

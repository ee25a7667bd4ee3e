use Rattle.std.proofs.Common.{◌∙◌, ap, map, subst, sym}
use Rattle.std.specs.Str.{bytes_eq}
use Rattle.og_value.specs.Order.{row_order}
use Rattle.og_value.specs.Values.{row_at}
use Rattle.og_rel.specs.Relations.{relation_at}
use Rattle.og_query.specs.declared.typed.Typed.TheVariants as t
use Rattle.og_db.specs.Database.{HaveKinds, names_at}
use Rattle.og_db.specs.Entries.{held_of}
use Rattle.og_db.specs.Held.{without}
use Rattle.og_db.specs.Runs.{AreWithin, sizes_at}
use Rattle.og_db.specs.Statements.{name_sizes_after}
use Rattle.og_db.proofs.EntryLemmas.{All-removed, without-entries}
use Rattle.og_db.proofs.SizeLemmas.{within-dropped}
use Rattle.og_db.proofs.WorldLemmas.{all_made_of-without}
use Rattle.og_db.proofs.database.Db.drop_name.Goals as goal

pub invariant_of-self : goal.invariant_of-self
invariant_of-self c =
    rw c.shift_remove.ensures.entries (All-removed (λ h. HaveKinds h.schema h.rel) (bytes_eq c.args.name.now) c.self.inside.names.entries c.self.invariant)

pub returns-clause-dropped : goal.returns-clause-dropped
returns-clause-dropped c =
    ap (map held_of) c.shift_remove.ensures.entries ∙ without-entries c.args.name.now c.self.inside.names.entries c.len.ensures.unique ∙ ap (without c.args.name.now) c.self.view_is

pub returns-clause-law : goal.returns-clause-law
returns-clause-law c d day = ap (names_at d) (returns-clause-dropped c) ∙ all_made_of-without (λ rel. relation_at row_order row_at rel d) c.args.name.now c.args.self.now

pub returns-clause-size : goal.returns-clause-size
returns-clause-size c =
    subst (λ db. AreWithin (sizes_at db) (name_sizes_after (sizes_at c.args.self.now) (t.Drop c.args.name.now, tt))) (sym (returns-clause-dropped c)) (within-dropped c.args.name.now c.args.self.now)

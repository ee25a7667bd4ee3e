use Rattle.std.proofs.Common.{◌++◌, [], ◌∷◌, ◌∙◌, ap, map, subst, sym}
use Rattle.std.specs.Str.{bytes_eq}
use Rattle.indexmap.proofs.CallerLemmas.{insert_entry-new}
use Rattle.og_db.specs.Database.{HaveKinds}
use Rattle.og_db.specs.Entries.{held_of}
use Rattle.og_db.specs.declared.holding.Holding.{Holding}
use Rattle.og_db.proofs.EntryLemmas.{All-push, held_of-push, is_new}
use Rattle.og_db.proofs.database.Db.enter.Goals as goal

pub invariant_of-self-2 : goal.invariant_of-self-2
invariant_of-self-2 c =
    let new = is_new c.args.name c.args.self.now c.self.inside.names.entries c.self.view_is c.requires.new in
    rw c.in_ok-insert.ensures.entries
    (rw (insert_entry-new bytes_eq c.self.inside.names c.args.name _ new)
    (All-push (λ h. HaveKinds h.schema h.rel) c.self.inside.names.entries (c.args.name, record { what = c.args.what; schema = c.args.schema; rel = c.new-rel.result }) c.self.invariant (subst (HaveKinds c.args.schema) (sym c.new-rel.ensures) c.requires.fits)))

pub returns-clause-entered : goal.returns-clause-entered
returns-clause-entered c =
    let new = is_new c.args.name c.args.self.now c.self.inside.names.entries c.self.view_is c.requires.new in
    let holding : Holding = record { what = c.args.what; schema = c.args.schema; rel = c.new-rel.result } in
    ap (map held_of) (c.in_ok-insert.ensures.entries ∙ insert_entry-new bytes_eq c.self.inside.names c.args.name holding new)
    ∙ held_of-push c.self.inside.names.entries (c.args.name, holding)
    ∙ (λ i. c.self.view_is i ++ record { name = c.args.name; what = c.args.what; columns = c.args.schema; rows = c.new-rel.ensures i } ∷ [])

use Rattle.std.proofs.Common.{◌∙◌, ap, sym}
use Rattle.std.specs.Option.{option_map}
use Rattle.og_db.specs.Held.{rows_of}
use Rattle.og_db.proofs.EntryLemmas.{rows_of-entries}
use Rattle.og_db.proofs.database.Db.stored.Goals as goal

pub returns-in-Some : goal.returns-in-Some
returns-in-Some c = ap (option_map (λ h. h.rel)) c.in-Some.ensures.value ∙ sym (rows_of-entries c.self.inside.names.entries c.args.name.now) ∙ ap (λ db. rows_of db c.args.name.now) c.self.view_is

pub returns-in-None : goal.returns-in-None
returns-in-None c = ap (option_map (λ h. h.rel)) c.in-None.ensures.value ∙ sym (rows_of-entries c.self.inside.names.entries c.args.name.now) ∙ ap (λ db. rows_of db c.args.name.now) c.self.view_is

use Rattle.std.proofs.Common.{◌∙◌, ap, sym}
use Rattle.std.specs.Option.{option_map}
use Rattle.og_db.specs.Held.{known_of}
use Rattle.og_outline.proofs.EntryLemmas.{columns_of-entries}
use Rattle.og_outline.proofs.outline.OutlineCatalog.schema.Goals as goal

pub returns-in-Some : goal.returns-in-Some
returns-in-Some c =
    ap (option_map (λ k. k.schema)) c.in-Some.ensures.value ∙ sym (columns_of-entries c.self.inside.names.entries c.args.name.now)
    ∙ ap (λ o. option_map (λ k. k.1) (known_of o.names c.args.name.now)) c.self.view_is

pub returns-in-None : goal.returns-in-None
returns-in-None c =
    ap (option_map (λ k. k.schema)) c.in-None.ensures.value ∙ sym (columns_of-entries c.self.inside.names.entries c.args.name.now)
    ∙ ap (λ o. option_map (λ k. k.1) (known_of o.names c.args.name.now)) c.self.view_is

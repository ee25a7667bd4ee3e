use Rattle.std.proofs.Common.{◌∙◌, ap, sym}
use Rattle.std.specs.Option.{option_map}
use Rattle.og_db.specs.Held.{known_of}
use Rattle.og_outline.proofs.EntryLemmas.{what_of-entries}
use Rattle.og_outline.proofs.outline.OutlineCatalog.what.Goals as goal

pub returns-in-Some : goal.returns-in-Some
returns-in-Some c =
    ap (option_map (λ k. k.what)) c.in-Some.ensures.value ∙ sym (what_of-entries c.self.inside.names.entries c.args.name.now)
    ∙ ap (λ o. option_map (λ k. k.0) (known_of o.names c.args.name.now)) c.self.view_is

pub returns-in-None : goal.returns-in-None
returns-in-None c =
    ap (option_map (λ k. k.what)) c.in-None.ensures.value ∙ sym (what_of-entries c.self.inside.names.entries c.args.name.now)
    ∙ ap (λ o. option_map (λ k. k.0) (known_of o.names c.args.name.now)) c.self.view_is

use Rattle.std.proofs.Common.{◌∙◌, ap, sym}
use Rattle.std.specs.Option.{option_map}
use Rattle.og_db.specs.Held.{known_of}
use Rattle.og_session.proofs.NameLemmas.{known_of-shown}
use Rattle.og_session.proofs.names.NamesCatalog.schema.Goals as goal

pub returns : goal.returns
returns c =
    c.schema.ensures ∙ ap (option_map (λ k. k.1)) (sym (known_of-shown c.self.inside.views.entries c.self.inside.db c.args.name.now))
    ∙ ap (λ n. option_map (λ k. k.1) (known_of n.names c.args.name.now)) c.self.view_is

use Rattle.std.proofs.Common.{◌∙◌, ap}
use Rattle.og_output.specs.Records.{names_text}
use Rattle.og_session.proofs.NameLemmas.{names_text-shown}
use Rattle.og_session.proofs.names.Names.held.Goals as goal

pub returns : goal.returns
returns c = names_text-shown c.self.inside.views.entries c.self.inside.db ∙ ap (λ n. names_text n.names) c.self.view_is

use Rattle.std.proofs.Common.{◌∙◌, ap, sym}
use Rattle.og_db.specs.Runs.{stored}
use Rattle.og_session.proofs.NameLemmas.{blank_names, stored-shown}
use Rattle.og_session.proofs.names.Names.into_stored.Goals as goal

pub returns : goal.returns
returns c =
    let db = c.self.inside.db in
    let views = c.self.inside.views.entries in
    c.drop_live.ensures ∙ sym (stored-shown views db (blank_names db c.names_differ.ensures views c.self.invariant)) ∙ ap (λ n. stored n.names) c.self.view_is

use Rattle.std.proofs.Common.{map, subst, ◌∙◌, ap}
use Rattle.std.specs.List.{IsDistinct}
use Rattle.std.specs.Str.{bytes_eq}
use Rattle.og_db.proofs.EntryLemmas.{names-entries}
use Rattle.og_db.proofs.database.Db.names_differ.Goals as goal

pub returns : goal.returns
returns c = subst (IsDistinct bytes_eq) (names-entries c.self.inside.names.entries ∙ ap (map (λ h. h.name)) c.self.view_is) c.len.ensures.unique

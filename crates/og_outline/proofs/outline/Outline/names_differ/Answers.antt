use Rattle.std.proofs.Common.{map, subst, ◌∙◌, ap}
use Rattle.std.specs.List.{IsDistinct}
use Rattle.std.specs.Str.{bytes_eq}
use Rattle.og_outline.proofs.EntryLemmas.{names-entries}
use Rattle.og_outline.proofs.outline.Outline.names_differ.Goals as goal

pub returns : goal.returns
returns c = subst (IsDistinct bytes_eq) (names-entries c.self.inside.names.entries ∙ ap (λ o. map (λ h. h.name) o.names) c.self.view_is) c.len.ensures.unique

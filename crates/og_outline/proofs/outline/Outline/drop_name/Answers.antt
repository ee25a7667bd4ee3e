use Rattle.std.proofs.Common.{◌∙◌, ap, map, rules}
use Rattle.og_outline.specs.Outlines.{file_of, outlined_drop}
use Rattle.og_outline.proofs.EntryLemmas.{left-entries}
use Rattle.og_outline.proofs.outline.Outline.drop_name.Goals as goal

pub returns : goal.returns
returns c =
    ap (λ hs. record { names = hs; files = map file_of c.self.inside.files.entries })
    (left-entries _ c.args.name.now _ (λ k v b w g call. search rules) _ _ c.retain.ensures.filtered)
    ∙ ap (outlined_drop c.args.name.now) c.self.view_is

use Rattle.std.proofs.Common.{◌∙◌, string_bytes, ap}
use Rattle.std.specs.Map.{lookup}
use Rattle.std.specs.Str.{bytes_eq}
use Rattle.og_outline.proofs.EntryLemmas.{found-files}
use Rattle.og_outline.proofs.outline.Outline.saved.Goals as goal

pub returns : goal.returns
returns c =
    c.get.ensures.value
    ∙ ap (λ name. lookup (λ k. bytes_eq name (string_bytes k)) c.self.inside.files.entries) c.as_str.ensures
    ∙ found-files c.self.inside.files.entries c.args.file.now
    ∙ ap (λ o. lookup (bytes_eq c.args.file.now) o.files) c.self.view_is

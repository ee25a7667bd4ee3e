use Rattle.std.proofs.Common.{◌∙◌, ap, map}
use Rattle.og_outline.specs.Known.{known_held}
use Rattle.og_outline.specs.Outlines.{file_of, outlined_save}
use Rattle.og_outline.proofs.EntryLemmas.{put-files}
use Rattle.og_outline.proofs.outline.Outline.put.Goals as goal

pub returns : goal.returns
returns c =
    let saved = c.args.saved in
    ap (λ files. record { names = map known_held c.self.inside.names.entries; files = files }) (ap (map file_of) c.in_ok-insert.ensures.entries ∙ put-files c.self.inside.files.entries c.args.file saved)
    ∙ ap (outlined_save saved.number saved.schema _) c.self.view_is

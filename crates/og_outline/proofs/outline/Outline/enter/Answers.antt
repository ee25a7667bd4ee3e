use Rattle.std.proofs.Common.{[], ◌∷◌, ◌∙◌, ap, map}
use Rattle.std.specs.Str.{bytes_eq}
use Rattle.std.proofs.lemmas.List.{map-append}
use Rattle.indexmap.proofs.CallerLemmas.{insert_entry-new}
use Rattle.og_db.specs.Held.{known_of}
use Rattle.og_outline.specs.Known.{known_held}
use Rattle.og_outline.specs.Outlines.{file_of, with_name}
use Rattle.og_outline.proofs.EntryLemmas.{is_new}
use Rattle.og_outline.proofs.outline.Outline.enter.Goals as goal

pub returns : goal.returns
returns c =
    let es = c.self.inside.names.entries in
    let known = c.args.known in
    let new = is_new es c.args.name (ap (λ o. known_of o.names c.args.name) c.self.view_is ∙ c.requires) in
    ap (λ hs. record { names = hs; files = map file_of c.self.inside.files.entries })
    (ap (map known_held) (c.in_ok-insert.ensures.entries ∙ insert_entry-new bytes_eq c.self.inside.names c.args.name known new) ∙ map-append known_held es ((c.args.name, known) ∷ []))
    ∙ ap (with_name c.args.name known.what known.schema known.query) c.self.view_is

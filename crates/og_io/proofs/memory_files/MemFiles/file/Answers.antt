use Rattle.std.proofs.Common.{ap, sym, ◌∙◌, Some, option_map}
use Rattle.og_io.specs.Folders.{folder_of}
use Rattle.og_io.proofs.Stored.{file_seen}
use Rattle.og_io.proofs.memory_files.MemFiles.file.Goals as goal

pub returns-in-Some : goal.returns-in-Some
returns-in-Some c =
    ap Some c.as_slice.ensures.value
    ∙ ap (option_map (λ v. v.items)) c.in-Some.ensures.value
    ∙ sym (file_seen c.args.name.now c.self.inside.files)
    ∙ ap (λ m. folder_of m.files c.args.name.now) c.self.view_is

pub returns-in-None : goal.returns-in-None
returns-in-None c =
    ap (option_map (λ v. v.items)) c.in-None.ensures.value
    ∙ sym (file_seen c.args.name.now c.self.inside.files)
    ∙ ap (λ m. folder_of m.files c.args.name.now) c.self.view_is

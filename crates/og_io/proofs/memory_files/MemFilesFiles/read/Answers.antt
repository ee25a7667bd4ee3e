use Rattle.std.proofs.Common.{ap, sym, ◌∙◌, ◌++◌, Some, option_map}
use Rattle.og_io.specs.Folders.{folder_of}
use Rattle.og_io.proofs.Stored.{file_seen}
use Rattle.og_io.proofs.memory_files.MemFilesFiles.read.Goals as goal

pub returns-in_default-get-clause-answer : goal.returns-in_default-get-clause-answer
returns-in_default-get-clause-answer c = (
  sym (ap (option_map (λ v. v.items)) c.in_default-get.ensures.value ∙ sym (file_seen c.args.name.now c.self.inside.files) ∙ ap (λ m. folder_of m.files c.args.name.now) c.self.view_is),
  c.clear.ensures.items,
)

pub returns-clause-answer : goal.returns-clause-answer
returns-clause-answer c =
    sym (ap (option_map (λ v. v.items)) c.in-Some.ensures.value ∙ sym (file_seen c.args.name.now c.self.inside.files) ∙ ap (λ m. folder_of m.files c.args.name.now) c.self.view_is)
    ∙ ap Some (sym (c.in-Ok-extend_from_slice.ensures.items ∙ ap (λ xs. xs ++ c.as_slice.result.now) c.clear.ensures.items ∙ c.as_slice.ensures.value))

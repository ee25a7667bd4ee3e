use Rattle.std.proofs.Common.{◌++◌, ◌∷◌, [], Some, subst, sym}
use Rattle.std.proofs.lemmas.Result.{err_from_is_err_and}
use Rattle.og_io.specs.Folders.{HasFile}
use Rattle.og_db.specs.Effects.{opened}
use Rattle.og_outline.specs.Outlines.{IsOutlineOf}
use Rattle.og_sql.proofs.FileSteps.{open-faulted, open-unread, opens, unheld}
use Rattle.og_sql.proofs.files.open_file.Goals as goal

pub returns-in_err-read_file-clause-ends : goal.returns-in_err-read_file-clause-ends
returns-in_err-read_file-clause-ends g c start contents before held =
    let p = err_from_is_err_and c.from_residual.result c.from_residual.ensures.1 in
    rw (p.1, p.2) (open-unread start contents before c.args.outline.now _ held c.args.file.now c.args.context.number c.args.name.now (g.F.Files.buffer c.read_file.new.files) c.in_err-read_file.field-0.0 c.args.outline.now c.requires.unsaved c.in_err-read_file.ensures.ends)

pub returns-in_err-put_opened-in-Ok-clause-ends : goal.returns-in_err-put_opened-in-Ok-clause-ends
returns-in_err-put_opened-in-Ok-clause-ends g c start contents before held =
    let p = err_from_is_err_and c.from_residual-in_err-put_opened-in-Ok.result c.from_residual-in_err-put_opened-in-Ok.ensures.1 in
    let bytes = c.bytes.result.now in
    let has = subst (λ b. HasFile (g.F.Files.folder c.args.files.now) c.args.file.now (Some b)) (sym c.bytes.ensures) c.in_ok-read_file.ensures.ends in
    rw (p.1, p.2)
    (unheld c.args.context.number before _ c.args.outline.now (opened c.args.name.now c.in-Ok.saved.schema c.in-Ok.saved.rel) c.in_err-put_opened-in-Ok.field-0.0
    (opens start contents before c.args.outline.now _ held c.args.file.now c.args.context.number c.args.name.now bytes c.requires.unsaved has (c.one_saved_file.ensures bytes) (c.no_fault_of_a_saved_file.ensures bytes)
    c.in-Ok.saved.schema c.in-Ok.saved.rel c.in-Ok.ensures.file) c.in_err-put_opened-in-Ok.ensures)

pub returns-in_ok-open-in-Ok-clause-ends : goal.returns-in_ok-open-in-Ok-clause-ends
returns-in_ok-open-in-Ok-clause-ends g c start contents before held =
    let bytes = c.bytes.result.now in
    let has = subst (λ b. HasFile (g.F.Files.folder c.args.files.now) c.args.file.now (Some b)) (sym c.bytes.ensures) c.in_ok-read_file.ensures.ends in (
      opened c.args.name.now c.in-Ok.saved.schema c.in-Ok.saved.rel,
      opens start contents before c.args.outline.now _ held c.args.file.now c.args.context.number c.args.name.now bytes c.requires.unsaved has (c.one_saved_file.ensures bytes) (c.no_fault_of_a_saved_file.ensures bytes)
          c.in-Ok.saved.schema c.in-Ok.saved.rel c.in-Ok.ensures.file,
      c.in_ok-put_opened-in-Ok.ensures,
      subst (λ o. IsOutlineOf o (before ++ opened c.args.name.now c.in-Ok.saved.schema c.in-Ok.saved.rel ∷ [])) (sym c.in_ok-open-in-Ok.ensures)
          (c.one_file_in_outline.ensures.opened c.args.outline.now before c.args.name.now c.in-Ok.saved.schema c.in-Ok.saved.rel held.outline),
    )

pub returns-in-Err-clause-ends : goal.returns-in-Err-clause-ends
returns-in-Err-clause-ends g c start contents before held =
    let bytes = c.bytes.result.now in
    let has = subst (λ b. HasFile (g.F.Files.folder c.args.files.now) c.args.file.now (Some b)) (sym c.bytes.ensures) c.in_ok-read_file.ensures.ends in
    rw c.of_bytes.ensures
    (open-faulted start contents before c.args.outline.now _ held c.args.file.now c.args.context.number c.args.name.now bytes c.requires.unsaved has (c.one_fault_of_a_saved_file.ensures bytes) (c.no_fault_of_a_saved_file.ensures bytes)
    c.in-Err.refusal (λ _. c.in-Err.ensures.fault) c.args.outline.now)

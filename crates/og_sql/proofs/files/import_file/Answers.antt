use Rattle.std.proofs.Common.{Some, subst, sym}
use Rattle.std.proofs.lemmas.Result.{err_from_is_err_and}
use Rattle.og_io.specs.Folders.{HasFile}
use Rattle.og_db.specs.Effects.{imported}
use Rattle.og_sql.proofs.FileSteps.{columns_known, held-ends, import-faulted, import-unread, imports}
use Rattle.og_sql.specs.Translations.{IsHeldUnless}
use Rattle.og_sql_outside.specs.Outside.{outside_rows}
use Rattle.og_sql.proofs.files.import_file.Goals as goal

pub returns-in_err-read_file-clause-ends : goal.returns-in_err-read_file-clause-ends
returns-in_err-read_file-clause-ends g c start contents before held =
    let p = err_from_is_err_and c.from_residual.result c.from_residual.ensures.1 in
    rw (p.1, p.2) (import-unread start contents before c.args.outline.now _ held c.args.file.now c.args.context.number c.args.name.now (g.F.Files.buffer c.read_file.new.files) c.in_err-read_file.field-0.0 c.args.outline.now c.requires.unsaved c.in_err-read_file.ensures.ends)

pub returns-in-Ok-clause-ends : goal.returns-in-Ok-clause-ends
returns-in-Ok-clause-ends g c start contents before held =
    let bytes = c.bytes.result.now in
    let has = subst (λ b. HasFile (g.F.Files.folder c.args.files.now) c.args.file.now (Some b)) (sym c.bytes.ensures) c.in_ok-read_file.ensures.ends in
    let columns = c.in-Some.schema.now in
    let known = columns_known c.args.outline.now before c.args.name.now columns (c.known_outline.ensures c.args.outline.now before held.outline) (sym c.in-Some.ensures) in
    held-ends c.args.context.number before _ c.args.outline.now (imported c.args.name.now c.in-Ok.rows.items) c.put_imported.result
    (imports start contents before c.args.outline.now _ held c.args.file.now c.args.context.number c.args.name.now bytes c.requires.unsaved has columns known (c.one_table_file.ensures columns bytes) (c.no_fault_of_a_table_file.ensures columns bytes)
    c.in-Ok.rows.items c.in-Ok.ensures.rows)
    (subst (λ rows. IsHeldUnless c.args.context.number (outside_rows rows) c.put_imported.result) c.as_slice.ensures.value c.put_imported.ensures)
    (c.one_file_in_outline.ensures.imported c.args.outline.now before c.args.name.now c.in-Ok.rows.items held.outline)

pub returns-in-Err-clause-ends : goal.returns-in-Err-clause-ends
returns-in-Err-clause-ends g c start contents before held =
    let bytes = c.bytes.result.now in
    let has = subst (λ b. HasFile (g.F.Files.folder c.args.files.now) c.args.file.now (Some b)) (sym c.bytes.ensures) c.in_ok-read_file.ensures.ends in
    let columns = c.in-Some.schema.now in
    let known = columns_known c.args.outline.now before c.args.name.now columns (c.known_outline.ensures c.args.outline.now before held.outline) (sym c.in-Some.ensures) in
    rw c.of_bytes.ensures
    (import-faulted start contents before c.args.outline.now _ held c.args.file.now c.args.context.number c.args.name.now bytes c.requires.unsaved has columns known (c.one_fault_of_a_table_file.ensures columns bytes)
    (c.no_fault_of_a_table_file.ensures columns bytes) c.in-Err.refusal (λ _. c.in-Err.ensures.fault) c.args.outline.now)

use Rattle.std.proofs.Common.{Some, subst, sym}
use Rattle.std.proofs.lemmas.Result.{err_from_is_err_and}
use Rattle.og_io.specs.Folders.{HasFile}
use Rattle.og_db.specs.Held.{known_of}
use Rattle.og_query.specs.declared.typed.Typed.TheVariants as t
use Rattle.og_session.specs.Contents.{effect_of, taken}
use Rattle.og_session.proofs.FileLemmas.{TableFiles, absent, columns_known, import-absent, import-done, import-faulted, import-unread, no-memory, present, table_of}
use Rattle.og_session.proofs.files.import.Goals as goal

pub returns-in_err-read-clause-ends : goal.returns-in_err-read-clause-ends
returns-in_err-read-clause-ends g c start contents whole before state =
    let p = err_from_is_err_and c.from_residual.result c.from_residual.ensures.1 in
    rw (p.1, p.2) (import-unread start contents whole c.args.number before c.args.names.now c.args.name.now c.args.file _ _ c.in_err-read.ensures.names state c.in_err-read.field-0.0)

pub returns-then-eq-clause-ends : goal.returns-then-eq-clause-ends
returns-then-eq-clause-ends g c start contents whole before state =
    import-absent start contents whole c.args.number before c.args.names.now c.args.name.now c.args.file _ _ c.in_ok-read.ensures.names state
    (absent c.in_ok-read.field-0 _ _ _ c.if-eq.ensures c.in_ok-read.ensures.answer)

pub insert-requires-clause-table : goal.insert-requires-clause-table
insert-requires-clause-table g c κs within =
    let fits = c.requires.fits in (
      c.in-Some.schema.now,
      table_of (known_of c.args.names.now.names c.args.name.now) c.in-Some.schema.now fits.0 fits.1 (sym c.in-Some.ensures),
      c.rows_of_a_table_file_fit.ensures c.in-Some.schema.now c.bytes.result.now c.in-Ok.rows.items c.in-Ok.ensures.rows,
    )

pub returns-in-Ok-clause-ends : goal.returns-in-Ok-clause-ends
returns-in-Ok-clause-ends g c start contents whole before state =
    let laws : TableFiles = record {
      one = c.one_table_file.ensures;
      one_fault = c.one_fault_of_a_table_file.ensures;
      no_fault = c.no_fault_of_a_table_file.ensures;
      no_table = c.a_saved_file_is_no_table_file.ensures;
    } in
    import-done start contents whole c.args.number before c.args.names.now c.args.name.now c.args.file _ _ c.in_ok-read.ensures.names state laws c.in-Some.schema.now c.column_names_are_words.ensures
    (columns_known c.args.names.now.names before c.args.name.now c.in-Some.schema.now (c.known_names.ensures c.args.names.now.names state.files before state.running.world) (sym c.in-Some.ensures)) c.bytes.result.now
    (subst (λ bytes. HasFile (g.F.Files.folder c.args.files.now) c.args.file (Some bytes)) (sym c.bytes.ensures) (present c.in_ok-read.field-0 _ _ _ c.if-eq.ensures c.in_ok-read.ensures.answer))
    c.in-Ok.rows.items c.insert.new.names tt c.in-Ok.ensures.rows c.in_ok-insert-in-Ok.ensures.done

pub returns-clause-ends : goal.returns-clause-ends
returns-clause-ends g c start contents whole before state =
    let laws : TableFiles = record {
      one = c.one_table_file.ensures;
      one_fault = c.one_fault_of_a_table_file.ensures;
      no_fault = c.no_fault_of_a_table_file.ensures;
      no_table = c.a_saved_file_is_no_table_file.ensures;
    } in
    rw c.of_bytes.ensures
    (import-faulted start contents whole c.args.number before c.args.names.now c.args.name.now c.args.file _ _ c.in_ok-read.ensures.names state laws c.in-Some.schema.now c.column_names_are_words.ensures
    (columns_known c.args.names.now.names before c.args.name.now c.in-Some.schema.now (c.known_names.ensures c.args.names.now.names state.files before state.running.world) (sym c.in-Some.ensures)) c.bytes.result.now
    (subst (λ bytes. HasFile (g.F.Files.folder c.args.files.now) c.args.file (Some bytes)) (sym c.bytes.ensures) (present c.in_ok-read.field-0 _ _ _ c.if-eq.ensures c.in_ok-read.ensures.answer))
    c.in-Err.refusal c.in-Err.ensures.fault)

pub returns-in_err-insert-in-Ok-clause-ends : goal.returns-in_err-insert-in-Ok-clause-ends
returns-in_err-insert-in-Ok-clause-ends g c start contents whole before state =
    let p = err_from_is_err_and c.from_residual-in_err-insert-in-Ok.result c.from_residual-in_err-insert-in-Ok.ensures.1 in
    rw (p.1, p.2)
    (no-memory start c.args.number before c.args.names.now _ state (taken (effect_of contents before (t.ImportFile c.args.name.now c.args.file))) c.insert.new.names _
    c.in_err-insert-in-Ok.ensures.refused c.in_ok-read.ensures.names)

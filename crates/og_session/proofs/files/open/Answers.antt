use Rattle.std.proofs.Common.{Some, subst, sym}
use Rattle.std.proofs.lemmas.Result.{err_from_is_err_and}
use Rattle.og_query.specs.declared.typed.Typed.TheVariants as t
use Rattle.og_io.specs.Folders.{HasFile}
use Rattle.og_session.specs.Contents.{effect_of, taken}
use Rattle.og_session.proofs.FileLemmas.{SavedFiles, absent, no-memory, open-absent, open-done, open-faulted, open-unread, present}
use Rattle.og_session.proofs.files.open.Goals as goal

pub returns-in_err-read-clause-ends : goal.returns-in_err-read-clause-ends
returns-in_err-read-clause-ends g c start contents whole before state =
    let p = err_from_is_err_and c.from_residual.result c.from_residual.ensures.1 in
    rw (p.1, p.2) (open-unread start contents whole c.args.number before c.args.names.now c.args.name c.args.file _ _ c.in_err-read.ensures.names state c.in_err-read.field-0.0)

pub returns-then-eq-clause-ends : goal.returns-then-eq-clause-ends
returns-then-eq-clause-ends g c start contents whole before state =
    open-absent start contents whole c.args.number before c.args.names.now c.args.name c.args.file _ _ c.in_ok-read.ensures.names state (absent c.in_ok-read.field-0 _ _ _ c.if-eq.ensures c.in_ok-read.ensures.answer)

pub keep-requires-clause-fits : goal.keep-requires-clause-fits
keep-requires-clause-fits g c = c.rows_of_a_saved_file_fit.ensures c.bytes.result.now c.in-Ok.saved.schema c.in-Ok.saved.rel c.in-Ok.ensures.file

pub returns-in_err-keep-in-Ok-clause-ends : goal.returns-in_err-keep-in-Ok-clause-ends
returns-in_err-keep-in-Ok-clause-ends g c start contents whole before state =
    let p = err_from_is_err_and c.from_residual-in_err-keep-in-Ok.result c.from_residual-in_err-keep-in-Ok.ensures.1 in
    rw (p.1, p.2)
    (no-memory start c.args.number before c.args.names.now _ state (taken (effect_of contents before (t.OpenFile c.args.name c.args.file))) c.keep.new.self _
    c.in_err-keep-in-Ok.ensures.refused c.in_ok-read.ensures.names)

pub returns-in_ok-keep-in-Ok-clause-ends : goal.returns-in_ok-keep-in-Ok-clause-ends
returns-in_ok-keep-in-Ok-clause-ends g c start contents whole before state =
    let laws : SavedFiles = record { one = c.one_saved_file.ensures; one_fault = c.one_fault_of_a_saved_file.ensures; no_fault = c.no_fault_of_a_saved_file.ensures } in
    open-done start contents whole c.args.number before c.args.names.now c.args.name c.args.file _ _ c.in_ok-read.ensures.names state laws c.bytes.result.now
    (subst (λ bytes. HasFile (g.F.Files.folder c.args.files.now) c.args.file (Some bytes)) (sym c.bytes.ensures) (present c.in_ok-read.field-0 _ _ _ c.if-eq.ensures c.in_ok-read.ensures.answer))
    c.one_file_more.ensures.reopened c.one_file_more.ensures.opened c.in-Ok.saved.schema c.in-Ok.saved.rel c.keep.new.self tt c.in-Ok.ensures.file c.in_ok-keep-in-Ok.ensures.kept c.in_ok-keep-in-Ok.ensures.views

pub returns-in-Err-clause-ends : goal.returns-in-Err-clause-ends
returns-in-Err-clause-ends g c start contents whole before state =
    let laws : SavedFiles = record { one = c.one_saved_file.ensures; one_fault = c.one_fault_of_a_saved_file.ensures; no_fault = c.no_fault_of_a_saved_file.ensures } in
    rw c.of_bytes.ensures
    (open-faulted start contents whole c.args.number before c.args.names.now c.args.name c.args.file _ _ c.in_ok-read.ensures.names state laws c.bytes.result.now
    (subst (λ bytes. HasFile (g.F.Files.folder c.args.files.now) c.args.file (Some bytes)) (sym c.bytes.ensures) (present c.in_ok-read.field-0 _ _ _ c.if-eq.ensures c.in_ok-read.ensures.answer))
    c.in-Err.refusal c.in-Err.ensures.fault)

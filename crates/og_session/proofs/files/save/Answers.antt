use Rattle.std.proofs.Common.{Some, Err, ap, rules, subst, sym}
use Rattle.std.proofs.lemmas.Result.{err_from_is_err_and}
use Rattle.og_io.specs.Folders.{HasFile}
use Rattle.og_session.proofs.FileLemmas.{save-done, save-stopped}
use Rattle.og_session.proofs.files.save.Goals as goal

pub returns-in_err-write-clause-ends : goal.returns-in_err-write-clause-ends
returns-in_err-write-clause-ends g c start n before state =
    let p = err_from_is_err_and c.from_residual-in_err-write.result c.from_residual-in_err-write.ensures.1 in
    rw (p.1, p.2)
    (save-stopped start n before c.args.names.now _ state c.args.name.now c.args.file.now _ c.in_err-write.ensures.names c.in_err-write.field-0.0 (λ e. c.in_err-write.ensures.want (ap Err e)))

pub returns-clause-ends : goal.returns-clause-ends
returns-clause-ends g c start n before state =
    save-done start n before c.args.names.now _ state c.args.name.now c.args.file.now _ c.in_ok-write.ensures.names c.one_file_more.ensures.saved
    c.in-Some.schema.now c.in-Some-rel.rel.now c.in_ok-bytes.bytes.items tt (sym c.in-Some.ensures) (search rules)
    c.in_ok-bytes.ensures (subst (λ bytes. HasFile (g.F.Files.folder c.write.new.self) c.args.file.now (Some bytes)) c.as_slice.ensures.value c.in_ok-write.ensures.written)

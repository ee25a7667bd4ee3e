use Rattle.std.proofs.Common.{sym}
use Rattle.og_sql.proofs.FileSteps.{import-saved}
use Rattle.og_sql.proofs.files.put_import.Goals as goal

pub returns-in-Some-clause-ends : goal.returns-in-Some-clause-ends
returns-in-Some-clause-ends g c start contents before held =
    import-saved start contents before c.args.outline.now _ held c.args.file.now c.args.context.number c.args.name.now c.in-Some._saved.now c.args.outline.now (sym c.in-Some.ensures)

pub import_file-requires-clause-unsaved : goal.import_file-requires-clause-unsaved
import_file-requires-clause-unsaved g c = sym c.in-None.ensures

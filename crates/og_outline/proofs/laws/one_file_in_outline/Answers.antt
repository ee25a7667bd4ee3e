use Rattle.og_outline.proofs.FileLemmas.{one_opening, one_reopening, one_save}
use Rattle.og_outline.proofs.StatementLemmas.{one_import}
use Rattle.og_outline.proofs.laws.one_file_in_outline.Goals as goal

pub returns-clause-saved : goal.returns-clause-saved
returns-clause-saved c = one_save

pub returns-clause-reopened : goal.returns-clause-reopened
returns-clause-reopened c = one_reopening

pub returns-clause-opened : goal.returns-clause-opened
returns-clause-opened c = one_opening

pub returns-clause-imported : goal.returns-clause-imported
returns-clause-imported c = one_import

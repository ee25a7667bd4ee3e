use Rattle.og_db.proofs.EffectLemmas.{imported_more, opened_more, reopened_more, saved_more}
use Rattle.og_db.proofs.laws.one_file_more.Goals as goal

pub returns-clause-saved : goal.returns-clause-saved
returns-clause-saved c = saved_more

pub returns-clause-reopened : goal.returns-clause-reopened
returns-clause-reopened c = reopened_more

pub returns-clause-opened : goal.returns-clause-opened
returns-clause-opened c = opened_more

pub returns-clause-imported : goal.returns-clause-imported
returns-clause-imported c = imported_more

use Rattle.og_check.proofs.StatementFits.{statement_fits}
use Rattle.og_check.proofs.laws.checked_fits.Goals as goal

pub returns : goal.returns
returns c known stmt typed e = statement_fits known stmt typed e

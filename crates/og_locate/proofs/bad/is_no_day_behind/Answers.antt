use Rattle.std.proofs.Common.{rules, ◌≡◌, true, false}
use Rattle.og_syntax.specs.declared.lexeme.Sort.TheVariants.{Of}
use Rattle.og_syntax.specs.Lexemes.{same_sort}
use Rattle.og_locate.proofs.bad.is_no_day_behind.Goals as goal

pub returns-then-same_sort : goal.returns-then-same_sort
returns-then-same_sort c =
    let is : same_sort c.args.earlier Of ≡ true = search rules in
    rw is c.is_no_ref_day.ensures

pub returns : goal.returns
returns c =
    let is : same_sort c.args.earlier Of ≡ false = search rules in
    rw is c.is_no_day.ensures

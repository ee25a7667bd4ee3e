use Rattle.std.proofs.Common.{◌∙◌, ap, sym}
use Rattle.std.specs.Option.{option_map}
use Rattle.std.proofs.lemmas.Option.{same_Some}
use Rattle.og_db.proofs.FitLemmas.{fit_of, table_has_rows}
use Rattle.og_db.proofs.database.Db.table.Goals as goal

pub unreachable-requires : goal.unreachable-requires
unreachable-requires c =
    table_has_rows c.args.self.now c.args.name.now c.requires.table.0 c.requires.table.1
    (sym c.in_default.ensures)

pub returns-clause-rows : goal.returns-clause-rows
returns-clause-rows c rel is =
    let there = sym c.in-Some.ensures in
    same_Some c.in-Some.rel.now rel (sym there ∙ is)

pub returns-clause-fits : goal.returns-clause-fits
returns-clause-fits c columns known =
    let there = sym c.in-Some.ensures in
    fit_of c.args.self.now c.args.name.now columns c.in-Some.rel.now c.rows_fit.ensures.all (ap (option_map (λ k. k.1)) known) there

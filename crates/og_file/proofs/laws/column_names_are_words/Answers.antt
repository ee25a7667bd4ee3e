use Rattle.std.proofs.Common.{rules, subst, sym, take, take_all}
use Rattle.std.specs.List.{All}
use Rattle.std.proofs.lemmas.List.Elements.{All-push}
use Rattle.og_value.specs.Words.{IsLowerWord}
use Rattle.og_value.specs.declared.schema.Column.{Column}
use Rattle.og_file.proofs.CellLemmas.{next_column}
use Rattle.og_file.proofs.laws.column_names_are_words.Goals as goal

pub columns-preserved : goal.columns-preserved
columns-preserved c =
    let i = c.columns.i in
    let columns = c.args.schema.now in
    let column = c.column.result.now in
    subst (All (λ (c : Column). IsLowerWord c.name)) (sym (next_column columns i column c.column.ensures)) (All-push (λ (c : Column). IsLowerWord c.name) (take i columns) column c.columns.invariant c.lower_word.ensures)

pub returns : goal.returns
returns c =
    let i = c.columns.i in
    let columns = c.args.schema.now in
    subst (All (λ (c : Column). IsLowerWord c.name)) (take_all i columns (search rules)) c.columns.invariant

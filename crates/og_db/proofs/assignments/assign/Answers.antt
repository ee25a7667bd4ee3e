use Rattle.std.proofs.Common.{◌∙◌, ap, set}
use Rattle.std.proofs.lemmas.List.{map-set}
use Rattle.og_value.specs.Values.{value_at, row_at}
use Rattle.og_db.proofs.assignments.assign.Goals as goal

pub returns-then-one-len : goal.returns-then-one-len
returns-then-one-len c = λ d day.
    map-set (λ v. value_at v d) c.args.values.now.items c.args.one.now.column c.in_ok-value.value
    ∙ ap (set (row_at c.args.values.now.items d) c.args.one.now.column) (c.in_ok-value.ensures d day)

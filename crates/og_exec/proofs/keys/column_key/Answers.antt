use Rattle.std.proofs.Common.{sym, ap, ◌∙◌}
use Rattle.og_value.specs.Values.{row_at}
use Rattle.og_plan.specs.Meaning.{column}
use Rattle.og_exec.specs.Keys.{key_value}
use Rattle.og_exec.proofs.KeyLemmas.{column_keyed}
use Rattle.og_exec.proofs.keys.column_key.Goals as goal

pub returns : goal.returns
returns c d =
    column_keyed c.args.left c.args.pairs.now c.in-Some.others.now c.in-Some.pair.now (row_at c.args.row.now d) c.in_ok-first.first c.in_ok-rest.rest
    (sym c.as_slice.ensures ∙ c.in-Some.ensures.cases.0)
    (ap (λ n. key_value (column (row_at c.args.row.now d) n)) (sym c.place_in.ensures) ∙ c.in_ok-first.ensures d) (c.in_ok-rest.ensures d)

use Rattle.std.proofs.Common.{map, refl, sym, ap, ◌∙◌}
use Rattle.std.proofs.lemmas.List.{take_all}
use Rattle.og_value.specs.Values.{row_at}
use Rattle.og_plan.specs.Meaning.{column}
use Rattle.og_exec.specs.Keys.{key_value, place_in}
use Rattle.og_exec.proofs.KeyLemmas.{keyed_more}
use Rattle.og_exec.proofs.keys.key.Goals as goal

pub pairs-preserved : goal.pairs-preserved
pairs-preserved c d =
    keyed_more (λ pair. key_value (column (row_at c.args.row.now d) (place_in c.args.left pair))) _ c.pairs.pair-index _ _ _ _ _
    c.pairs-test.true refl (c.pairs.invariant d)
    (ap (λ n. key_value (column (row_at c.args.row.now d) n)) (sym c.place_in.ensures) ∙ c.in_ok-key_value.ensures d) c.in_ok-push.ensures.items

pub returns : goal.returns
returns c d =
    ap (map (λ pair. key_value (column (row_at c.args.row.now d) (place_in c.args.left pair)))) (sym (take_all _ _ c.pairs-test.false))
    ∙ c.pairs.invariant d ∙ sym c.of.ensures

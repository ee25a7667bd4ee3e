use Rattle.std.proofs.Common.{◌==◌, Some, ap, if◌then◌else◌, ◌∙◌}
use Rattle.std.specs.Option.{option_map}
use Rattle.std.proofs.lemmas.Option.{get_or_from_slice_get}
use Rattle.og_reduce.specs.Sieves.{sifted}
use Rattle.og_view.proofs.placed.part_beside.Goals as goal

pub returns : goal.returns
returns g c table there =
    let change = c.args.change.now in
    let named = g.T.Tables.named change.over.now in (
      c.in_ok-rows.ensures
          ∙ ap (λ t. option_map (sifted c.in_ok-sieve.sieve) (if c.args.k == c.args.place then Some change.new.now else named t.name))
          (c.index-tables-k.is ∙ get_or_from_slice_get c.args.tables.now c.args.k table c.index-tables-k.result there),
      c.in_ok-sieve.ensures table there,
    )

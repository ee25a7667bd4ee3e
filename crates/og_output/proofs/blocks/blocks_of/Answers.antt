use Rattle.std.proofs.Common.{◌++◌, List, ap, ap₂, sym, ◌∙◌}
use Rattle.std.specs.List.{flat_map}
use Rattle.std.specs.Slice.Iter.{chunks_rest}
use Rattle.std.proofs.lemmas.Grind.{flat_map-append}
use denote.Ref.{Bor}
use Rattle.og_query.specs.Queries.{Fixed}
use Rattle.og_rel.proofs.BlockLemmas.{flat_map-chunks}
use Rattle.og_output.proofs.OrderedLemmas.{rows_of-next}
use Rattle.og_output.proofs.blocks.blocks_of.Goals as goal

pub lists-preserved : goal.lists-preserved
lists-preserved c =
    let ran = c.in_ok-extend.ensures.ran in
    let shown : Bor (List Fixed) → List Fixed = λ b. b.now in
    let one = flat_map-chunks ran.0 ran.1 ran.4 ∙ ap chunks_rest ran.2 ∙ c.chunks.ensures.rest ∙ c.deref.ensures.value in
    ap (flat_map shown) ran.3.0 ∙ flat_map-append shown c.lists.blocks.items ran.1 ∙ ap₂ (λ xs ys. xs ++ ys) c.lists.invariant one
    ∙ sym (rows_of-next c.args.lists.now c.lists.list-index c.list-item.result c.lists-test.true c.list-item.is)

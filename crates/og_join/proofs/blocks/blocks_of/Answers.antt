use Rattle.std.proofs.Common.{◌∙◌, ◌++◌, ap}
use Rattle.std.specs.List.{flat_map}
use Rattle.std.specs.Slice.Iter.{chunks_rest}
use Rattle.og_rel.proofs.BlockLemmas.{flat_map-chunks}
use Rattle.og_join.proofs.blocks.blocks_of.Goals as goal

pub returns : goal.returns
returns c =
    let ran = c.in_ok-extend.ensures.ran in
    ap (flat_map (λ b. b.now)) (ran.3.0 ∙ ap (λ ys. ys ++ ran.1) c.in_ok-blocks.ensures.items)
    ∙ flat_map-chunks ran.0 ran.1 ran.4 ∙ ap chunks_rest ran.2 ∙ c.chunks.ensures.rest

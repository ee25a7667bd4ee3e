use Rattle.std.proofs.Common.{rules, ◌≡◌, true}
use Rattle.og_parse.specs.Depth.{is_too_deep}
use Rattle.og_locate.proofs.DeepLemmas.{between_all}
use Rattle.og_locate.proofs.deep.deep_at.Goals as goal

pub halves-init : goal.halves-init
halves-init c =
    let deep : is_too_deep c.args.piece.now ≡ true = search rules in
    between_all c.args.piece.now deep

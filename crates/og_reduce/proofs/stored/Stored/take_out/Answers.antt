use Rattle.std.proofs.Common.{◌+◌, ◌-◌, [], length, ap, sym, subst, ◌∙◌, arith}
use Rattle.og_rel.proofs.PlaceLemmas.{are_places-more}
use Rattle.og_reduce.proofs.RemovedLemmas.{HaveCome, next_came, none_came}
use Rattle.og_reduce.proofs.stored.Stored.take_out.Goals as goal

pub places-init : goal.places-init
places-init c =
    let at = c.args.at.now in
    let old = c.args.self.now in
    let from = c.len.result - c.min-places.result in
    let long = c.len.ensures ∙ ap length c.self.view_is in
    none_came at old from (are_places-more at (length old - c.comers.result) from (omega (arith, long, c.min-places.ensures)) c.comers.ensures.at) (omega (arith, long))

pub places-preserved : goal.places-preserved
places-preserved c =
    let long = c.len.ensures ∙ ap length c.self.view_is in
    let from = c.len.result - c.min-places.result in
    subst (HaveCome c.args.at.now c.args.self.now from (c.places.k + 1)) (sym c.swap.ensures)
    (next_came c.args.at.now c.args.self.now from c.places.k c.places.self ([], []) (omega (arith, c.places-test.true, c.min-places.ensures))
    (omega (arith, c.places-test.true, c.min-places.ensures, long, c.places.invariant.long, c.comers.ensures.most)) c.places.invariant)

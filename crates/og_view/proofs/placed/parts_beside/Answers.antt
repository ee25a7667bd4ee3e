use Rattle.std.proofs.Common.{[], ap, subst, sym, take}
use Rattle.std.proofs.lemmas.List.{take_all}
use Rattle.og_view.specs.Parts.{AreParts, IsPart, beside_at}
use Rattle.og_view.specs.Placed.{beside}
use Rattle.og_view.proofs.PartLemmas.{parts_more}
use Rattle.og_view.proofs.placed.parts_beside.Goals as goal

pub places-preserved : goal.places-preserved
places-preserved g c =
    let change = c.args.change.now in
    let tables = c.args.tables.now in
    let named = g.T.Tables.named change.over.now in
    let part = c.in_ok-part_beside.field-0 in
    parts_more c.args.sieve.now (beside_at named change.new.now c.args.place tables) tables c.places.parts.items c.push.new.self.items part c.places.k c.in_ok-push.ensures.items
    c.places-test.true
    (λ table there.
    subst (λ o. IsPart o c.args.sieve.now (take c.places.k tables) table part) (ap (beside named change.new.now c.args.place c.places.k) (sym there)) (c.in_ok-part_beside.ensures table there)) c.places.invariant

pub returns : goal.returns
returns g c =
    let change = c.args.change.now in
    let tables = c.args.tables.now in
    subst (λ some. AreParts (beside_at (g.T.Tables.named change.over.now) change.new.now c.args.place tables) c.args.sieve.now [] some c.places.parts.items)
    (take_all c.places.k tables c.places-test.false) c.places.invariant

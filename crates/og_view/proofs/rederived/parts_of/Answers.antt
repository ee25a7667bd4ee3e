use Rattle.std.proofs.Common.{[], ap, subst, sym, take}
use Rattle.std.proofs.lemmas.List.{take_all}
use Rattle.og_db.specs.Deltas.{rest_at}
use Rattle.og_db.specs.Held.{rows_of}
use Rattle.og_view.specs.Parts.{AreParts, IsPart, own, own_at}
use Rattle.og_view.proofs.PartLemmas.{parts_more}
use Rattle.og_view.proofs.rederived.parts_of.Goals as goal

pub places-preserved : goal.places-preserved
places-preserved c =
    let tables = c.args.tables.now in
    let over = c.args.over.now in
    let named = rows_of (rest_at over.name.now over.delta.now over.tables.now) in
    let part = c.in_ok-part_of.field-0 in
    parts_more c.args.sieve.now (own_at named tables) tables c.places.parts.items c.push.new.self.items part c.places.place c.in_ok-push.ensures.items
    c.places-test.true
    (λ table there. subst (λ o. IsPart o c.args.sieve.now (take c.places.place tables) table part) (ap (own named) (sym there)) (c.in_ok-part_of.ensures table there)) c.places.invariant

pub returns : goal.returns
returns c =
    let tables = c.args.tables.now in
    subst (λ some. AreParts (own_at (rows_of (rest_at c.args.over.now.name.now c.args.over.now.delta.now c.args.over.now.tables.now)) tables) c.args.sieve.now [] some c.places.parts.items)
    (take_all c.places.place tables c.places-test.false) c.places.invariant

use Rattle.std.proofs.Common.{◌∙◌, ap, sym, subst}
use Rattle.og_rel.specs.Relations.{passing}
use Rattle.og_rel.specs.Places.{places}
use Rattle.og_expr.specs.Bounds.{may_hold}
use Rattle.og_db.specs.Database.{HaveKinds}
use Rattle.og_db.proofs.ChangeLemmas.{passing_fit}
use Rattle.og_db.proofs.DeltaLemmas.{takes_out}
use Rattle.og_db.proofs.deltas.taken_out.Goals as goal

pub returns-clause-takes : goal.returns-clause-takes
returns-clause-takes c rel is =
    let same = c.table.ensures.rows rel is in
    takes_out (λ row. may_hold row c.new-test.result) c.args.cond.now (λ row out. c.bounds_hold.ensures row c.args.cond.now (ap (may_hold row) (sym c.new-test.ensures) ∙ out))
    rel c.in_ok-found.found.rows (c.in_ok-found.ensures.rows ∙ ap (passing (λ row. may_hold row c.new-test.result)) same) _
    (c.in_ok-found.ensures.places ∙ ap (places (λ p. may_hold p.0 c.new-test.result)) same)
    c.in_ok-left.ensures.law c.in_ok-gone.ensures.law c.in_ok-left.ensures.size c.in_ok-gone.ensures.size

pub returns-clause-left : goal.returns-clause-left
returns-clause-left c columns known =
    c.in_ok-left.ensures.kinds columns
    (subst (HaveKinds columns) (sym c.in_ok-found.ensures.rows) (passing_fit columns (λ row. may_hold row c.new-test.result) c.table.result.now (c.table.ensures.fits columns known)))

pub returns-clause-gone : goal.returns-clause-gone
returns-clause-gone c columns known =
    c.in_ok-gone.ensures.kinds columns
    (subst (HaveKinds columns) (sym c.in_ok-found.ensures.rows) (passing_fit columns (λ row. may_hold row c.new-test.result) c.table.result.now (c.table.ensures.fits columns known)))

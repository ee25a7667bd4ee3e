use Rattle.og_rel.specs.Shares.{rows_of_shares}
use Rattle.og_rel.proofs.ShareLemmas.{dealt_more}
use Rattle.og_rel.proofs.shares.shares_of.Goals as goal

pub parts-preserved : goal.parts-preserved
parts-preserved g c =
    dealt_more c.parts.yielded c.in-Some.part (rows_of_shares c.parts.shares.items) (rows_of_shares c.deal.new.shares.items) c.parts.invariant c.in_ok-deal.ensures

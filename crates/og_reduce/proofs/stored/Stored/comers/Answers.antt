use Rattle.std.proofs.Common.{◌<◌, ◌-◌, get_or, length, ap, subst, ◌∙◌}
use Rattle.og_reduce.proofs.FoundLemmas.{rising-until}
use Rattle.og_reduce.proofs.stored.Stored.comers.Goals as goal

pub returns-then-at-count-clause-at : goal.returns-then-at-count-clause-at
returns-then-at-count-clause-at c =
    let at = c.args.at.now in
    let n = length at in
    rising-until 0 at (length c.args.self.now - c.args.came) (length c.args.self.now - n) c.requires.at
    (subst (λ l. get_or at (n - 1) 0 < l - n) (c.len-len.ensures ∙ ap length c.self.view_is) c.if-at-count.true)

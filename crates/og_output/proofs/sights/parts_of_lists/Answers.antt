use Rattle.og_output.proofs.OrderedLemmas.{parts_more}
use Rattle.og_output.proofs.sights.parts_of_lists.Goals as goal

pub lists-preserved : goal.lists-preserved
lists-preserved c =
    parts_more c.lists.yielded c.in-Some.list c.lists.parts.items c.in_ok-more.more.items c.append.new.self.items c.in_ok-append.ensures.items c.lists.invariant c.in_ok-more.ensures

-- A plan falls to each of its inputs, and so do the images of its rows; two plans fall to each of them.
use Rattle.std.proofs.Common.{◌+◌, ◌*◌, max}
use Rattle.og_plan.proofs.plan.Plan.TheLaws.{the_size}
use Rattle.og_exec.proofs.run.+answer_of.Given as goal

abbrev pub decreases-answer_of : goal.decreases-answer_of
decreases-answer_of g l = 2 * the_size l.plan.now

abbrev pub decreases-images_of : goal.decreases-images_of
decreases-images_of g l = 2 * the_size l.plan.now + 1

abbrev pub decreases-both : goal.decreases-both
decreases-both g l = 2 * max (the_size l.left.now) (the_size l.right.now) + 1

use Rattle.std.proofs.Common.{◌≡◌, drop}
use Rattle.og_print.specs.Words.{with_words, parted}
use Rattle.og_print.specs.Conditions.{cond_words}
use Rattle.og_print.proofs.conditions.+conditions.Given as goal

abbrev pub invariant-write_all-parts : goal.invariant-write_all-parts
invariant-write_all-parts l =
    with_words l.out.items (parted l.is_first l.sort (λ x. cond_words x l.place) (drop l.part-index l.part-items)) ≡ with_words l.fn.out.items (parted l.initial.is_first l.sort (λ x. cond_words x l.place) l.all)

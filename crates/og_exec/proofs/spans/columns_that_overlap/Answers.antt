use Rattle.std.proofs.Common.{◌≡◌, ◌+◌, ℤ, true, subst}
use Rattle.std.proofs.lemmas.Option.{IfSome_then}
use Rattle.og_value.specs.declared.term.Pred.TheVariants as pred
use Rattle.og_query.specs.Conditions.{relates}
use Rattle.og_query.specs.Queries.{Fixed}
use Rattle.og_plan.specs.Meaning.{all_hold, column}
use Rattle.og_exec.proofs.SpanLemmas.{part_says}
use Rattle.og_exec.proofs.spans.columns_that_overlap.Goals as goal

pub returns-then-is_some-clause-says : goal.returns-then-is_some-clause-says
returns-then-is_some-clause-says c =
    IfSome_then c.overlap_in-found.result c.overlap_in-found.ensures.says
    (λ pair says. subst (λ parts. (d : ℤ) (row : Fixed) → all_hold d parts row ≡ true → relates pred.Overlaps (column row pair.left) (column row (c.args.width + pair.right)) ≡ true) c.as_slice-part-items.ensures
    (part_says _ c.parts.part-index _ pair.left (c.args.width + pair.right) c.parts-test.true c.part-item.is says))

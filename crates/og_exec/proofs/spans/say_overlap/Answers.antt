use Rattle.std.proofs.Common.{◌≡◌, ℤ, true, refl, subst}
use Rattle.og_value.specs.declared.term.Pred.TheVariants as pred
use Rattle.og_query.specs.Conditions.{relates}
use Rattle.og_query.specs.Queries.{Fixed}
use Rattle.og_plan.specs.Meaning.{all_hold, column}
use Rattle.og_exec.proofs.SpanLemmas.{part_says}
use Rattle.og_exec.proofs.spans.say_overlap.Goals as goal

pub returns-then-says_overlap : goal.returns-then-says_overlap
returns-then-says_overlap c _ =
    subst (λ parts. (d : ℤ) (row : Fixed) → all_hold d parts row ≡ true → relates pred.Overlaps (column row c.args.a) (column row c.args.b) ≡ true) c.as_slice-part-items.ensures
    (part_says _ c.parts.part-index _ c.args.a c.args.b c.parts-test.true c.part-item.is (c.if-says_overlap.ensures refl))

use Rattle.std.proofs.Common.{◌++◌, ◌∙◌, codes, ap, sym, add-one}
use Rattle.std.proofs.lemmas.List.{append_assoc}
use Rattle.og_plan.specs.Text.{indent}
use Rattle.og_plan.proofs.TextLemmas.{indent_more}
use Rattle.og_plan.proofs.text.indent.Goals as goal

pub levels-preserved : goal.levels-preserved
levels-preserved c =
    c.in_ok-extend_from_slice.ensures.items ∙ ap (λ xs. xs ++ codes "  ") c.levels.invariant
    ∙ append_assoc c.args.out.now.items (indent c.levels.counter) (codes "  ") ∙ ap (λ xs. c.args.out.now.items ++ xs) (indent_more c.levels.counter ∙ ap indent (sym (add-one c.levels.counter)))

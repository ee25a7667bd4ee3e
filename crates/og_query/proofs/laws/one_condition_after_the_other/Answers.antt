use Rattle.std.proofs.Common.{◌++◌, ◌&&◌, ◌∙◌, ap₂, sym}
use Rattle.std.proofs.lemmas.List.Folds.{list_all-append}
use Rattle.og_query.specs.Conditions.{truth}
use Rattle.og_query.specs.declared.condition.Cond.TheVariants.{And}
use Rattle.og_rel.proofs.AlgebraLemmas.{filter-both}
use Rattle.og_query.proofs.Equations.{truth-And}
use Rattle.og_query.proofs.laws.one_condition_after_the_other.Goals as goal

pub returns-clause-holds : goal.returns-clause-holds
returns-clause-holds c d row some more =
    truth-And d row (some ++ more) ∙ list_all-append (truth d row) some more ∙ ap₂ (λ a b. a && b) (sym (truth-And d row some)) (sym (truth-And d row more))

pub returns-clause-keeps : goal.returns-clause-keeps
returns-clause-keeps c d rows some more =
    filter-both (λ row. truth d row (And (some ++ more))) (λ row. truth d row (And some)) (λ row. truth d row (And more)) (λ row. returns-clause-holds c d row some more) rows

-- The text of a plan: its lines, those of a node before those of its inputs, two spaces for each level.
use Rattle.std.specs.Prelude.{ℕ, zero, suc, List, [], ◌∷◌, ◌+◌, ◌++◌, codes, length}
use Rattle.og_plan.specs.Words.{words_step}
use Rattle.og_plan.specs.declared.plan.Plan.{Plan, fold-Plan}
use Rattle.og_plan.specs.declared.plan.Plan.TheOpen.{Plan-F, Scan, Filter, Product, KeyJoin, OverlapJoin, Project, Combine, Semis}
use Rattle.og_plan.specs.declared.text.PlanLine.{PlanLine}

-- two spaces for each level
abbrev pub indent : ℕ → List ℕ
indent zero = []
indent (suc level) = codes "  " ++ indent level

-- a line at a level
abbrev pub line : ℕ → List ℕ → List ℕ
line level words = indent level ++ words ++ codes "\n"

-- the text of a line: its words at its level
abbrev pub line_text : PlanLine → List ℕ
line_text one = line one.level one.words.items

-- lines from a level on, each a level deeper than the one before
abbrev pub lines_from : ℕ → List (List ℕ) → List ℕ
lines_from level [] = []
lines_from level (words ∷ more) = line level words ++ lines_from (level + 1) more

-- the texts of the inputs of one node at their level, the left one before the right
abbrev pub inputs_step : Plan-F (ℕ → List ℕ) → ℕ → List ℕ
inputs_step (Scan name schema) level = []
inputs_step (Filter input parts) level = input level
inputs_step (Product left right) level = left level ++ right level
inputs_step (KeyJoin left right pairs rest) level = left level ++ right level
inputs_step (OverlapJoin left right pair rest) level = left level ++ right level
inputs_step (Project input items) level = input level
inputs_step (Combine op left right) level = left level ++ right level
inputs_step (Semis input semis) level = input level

-- one node: its lines from its level on, before the texts of its inputs, which stand a level deeper than the last
abbrev pub text_step : Plan-F (ℕ → List ℕ) → ℕ → List ℕ
text_step node level = lines_from level (words_step node) ++ inputs_step node (level + length (words_step node))

-- the text of a plan that stands at a level
abbrev pub text_at : Plan → ℕ → List ℕ
text_at = fold-Plan (ℕ → List ℕ) text_step

-- text of a plan
abbrev pub plan_text : Plan → List ℕ
plan_text plan = text_at plan 0

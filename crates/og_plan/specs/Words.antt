-- The words of the nodes of a plan.
use Rattle.std.specs.Prelude.{ℕ, suc, Bool, List, [], ◌∷◌, ◌++◌, codes, length, map, reverse, if◌then◌else◌}
use Rattle.std.specs.Fmt.{decimal}
use Rattle.std.specs.List.{flat_map}
use Rattle.og_value.specs.declared.term.SetOp.{SetOp}
use Rattle.og_value.specs.declared.term.SetOp.TheVariants as op
use Rattle.og_plan.specs.declared.plan.ColPair.{ColPair}
use Rattle.og_plan.specs.declared.plan.Plan.{Plan, fold-Plan}
use Rattle.og_plan.specs.declared.plan.Plan.TheOpen.{Plan-F, Scan, Filter, Product, KeyJoin, OverlapJoin, Project, Combine, Semis}
use Rattle.og_plan.specs.declared.plan.PlanSemi.{PlanSemi}

-- the places of a pair of columns, from 1
abbrev pub pair_text : ColPair → List ℕ
pair_text pair = decimal (suc pair.left) ++ codes "=" ++ decimal (suc pair.right)

-- pairs, with a comma before each but the first
abbrev pub pairs_text : List ColPair → List ℕ
pairs_text [] = []
pairs_text (first ∷ pairs) = pair_text first ++ flat_map (λ pair. codes "," ++ pair_text pair) pairs

-- how many parts there are beside
abbrev pub rest_text : {A : Type 0} → List A → List ℕ
rest_text parts = codes " rest " ++ decimal (length parts)

-- the word for whether a row is to have a match
abbrev pub semi_word : Bool → List ℕ
semi_word positive = if positive then codes "semi " else codes "anti "

-- the words of a semi
abbrev pub semi_words : PlanSemi → List ℕ
semi_words semi = semi_word semi.positive ++ semi.table.name ++ rest_text semi.parts

-- the word for how two answers are combined
abbrev pub combine_word : SetOp → List ℕ
combine_word op.Union = codes "union"
combine_word op.Except = codes "except"
combine_word op.Intersect = codes "intersect"

-- the words of the lines of one node, whatever stands for its inputs: one line, or one for each semi, the last first
abbrev pub words_step : {A : Type 0} → Plan-F A → List (List ℕ)
words_step (Scan name schema) = (codes "scan " ++ name) ∷ []
words_step (Filter input parts) = (codes "filter " ++ decimal (length parts)) ∷ []
words_step (Product left right) = codes "product" ∷ []
words_step (KeyJoin left right pairs rest) = (codes "key join " ++ pairs_text pairs ++ rest_text rest) ∷ []
words_step (OverlapJoin left right pair rest) = (codes "overlap join " ++ pair_text pair ++ rest_text rest) ∷ []
words_step (Project input items) = (codes "project " ++ decimal (length items)) ∷ []
words_step (Combine op left right) = combine_word op ∷ []
words_step (Semis input semis) = map semi_words (reverse semis)

-- the words of the lines of the node of a plan
abbrev pub words_of : Plan → List (List ℕ)
words_of = fold-Plan (List (List ℕ)) words_step

-- Steps of the loops over the levels of a line and over semis.
use Rattle.std.proofs.Common.{◌≡◌, ◌++◌, ◌+◌, ◌<◌, ◌≤◌, ℕ, zero, suc, codes, List, [], ◌∷◌, length, get_or, map, reverse, take, arith, refl, ap, sym, ◌∙◌}
use Rattle.std.proofs.lemmas.List.{append-nil, append_assoc, reverse-append, take_more}
use Rattle.og_plan.specs.Text.{indent, line, lines_from}
use Rattle.og_plan.specs.Words.{semi_words}
use Rattle.og_plan.specs.declared.plan.PlanSemi.{PlanSemi}

-- two spaces more at the end are two more at the front
pub indent_more : (level : ℕ) → indent level ++ codes "  " ≡ indent (suc level)
indent_more zero = refl
indent_more (suc level) = ap (λ text. codes "  " ++ text) (indent_more level)

-- the line of the last of some semis, and then those of the semis before it, the last first, are the lines of them all
pub last_semi_first : (semis : List PlanSemi) (k level : ℕ) (d : PlanSemi) (before after : List ℕ) → k < length semis
    → after ≡ before ++ lines_from level (semi_words (get_or semis k d) ∷ [])
    → after ++ lines_from (level + 1) (map semi_words (reverse (take k semis))) ≡ before ++ lines_from level (map semi_words (reverse (take (k + 1) semis)))
last_semi_first semis k level d before after within is =
    let one = line level (semi_words (get_or semis k d)) in
    let more = lines_from (level + 1) (map semi_words (reverse (take k semis))) in
    ap (λ text. text ++ more) (is ∙ ap (λ text. before ++ text) (append-nil one))
    ∙ append_assoc before one more
    ∙ ap (λ all. before ++ lines_from level (map semi_words all)) (sym (reverse-append (take k semis) (get_or semis k d ∷ [])) ∙ ap reverse (sym (take_more semis k d within)))

-- the step of the loop that adds the line of the last of the semis that are left
pub semis_step : (semis : List PlanSemi) (k n level next : ℕ) (semi : PlanSemi) (before after all : List ℕ) → n + 1 ≡ k → k ≤ length semis → semi ≡ get_or semis n semi → next ≡ level + 1
    → after ≡ before ++ lines_from level (semi_words semi ∷ []) → before ++ lines_from level (map semi_words (reverse (take k semis))) ≡ all
    → after ++ lines_from next (map semi_words (reverse (take n semis))) ≡ all
semis_step semis k n level next semi before after all last within is up step left =
    ap (λ m. after ++ lines_from m (map semi_words (reverse (take n semis)))) up
    ∙ last_semi_first semis n level semi before after (omega arith) (step ∙ ap (λ s. before ++ lines_from level (semi_words s ∷ [])) is)
    ∙ ap (λ m. before ++ lines_from level (map semi_words (reverse (take m semis)))) last
    ∙ left

-- where no semi is left all lines are there
pub semis_done : (semis : List PlanSemi) (k next : ℕ) (lines all : List ℕ) → k ≤ 0 → lines ++ lines_from next (map semi_words (reverse (take k semis))) ≡ all → lines ≡ all
semis_done semis zero next lines all none left = sym (append-nil lines) ∙ left
semis_done semis (suc k) next lines all none left = absurd (omega arith)

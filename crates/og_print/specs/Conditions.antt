-- The words of conditions.
use Rattle.std.specs.Prelude.{Bool, true, false, List, ◌∷◌, ◌++◌}
use Rattle.og_value.specs.declared.term.Cmp.{Cmp}
use Rattle.og_value.specs.declared.term.Cmp.TheVariants as cmp
use Rattle.og_value.specs.declared.term.Pred.{Pred}
use Rattle.og_value.specs.declared.term.Pred.TheVariants as pred
use Rattle.og_syntax.specs.declared.lexeme.Sort.{Sort}
use Rattle.og_syntax.specs.declared.lexeme.Sort.TheVariants as k
use Rattle.og_syntax.specs.declared.tree.ExprText.{ExprText}
use Rattle.og_syntax.specs.declared.tree.CondText.{CondText, fold-CondText}
use Rattle.og_syntax.specs.declared.tree.CondText.TheOpen as open_
use Rattle.og_print.specs.declared.conditions.Place.{Place}
use Rattle.og_print.specs.declared.conditions.Place.TheVariants as place
use Rattle.og_print.specs.Words.{Word, Plain, joined, behind, enclosed, enclosed_if}
use Rattle.og_print.specs.Expressions.{expr_words}

-- the symbol of a comparison
abbrev pub cmp_sort : Cmp → Sort
cmp_sort cmp.Eq = k.Equal
cmp_sort cmp.Ne = k.NotEqual
cmp_sort cmp.Lt = k.Less
cmp_sort cmp.Le = k.LessEqual
cmp_sort cmp.Gt = k.Greater
cmp_sort cmp.Ge = k.GreaterEqual

-- the word of a predicate
abbrev pub pred_sort : Pred → Sort
pred_sort pred.Before = k.Before
pred_sort pred.Meets = k.Meets
pred_sort pred.Overlaps = k.Overlaps
pred_sort pred.Starts = k.Starts
pred_sort pred.Finishes = k.Finishes
pred_sort pred.During = k.During
pred_sort pred.Equals = k.Equals

-- beside AND, and after NOT, parts joined by AND need parentheses
abbrev pub beside_and : Place → Bool
beside_and place.BesideAnd = true
beside_and _ = false

-- beside OR and AND, and after NOT, parts joined by OR need parentheses
abbrev pub beside_any : Place → Bool
beside_any place.Alone = false
beside_any _ = true

-- two expressions with a word or a symbol between them
abbrev pub relation_words : ExprText → Sort → ExprText → List Word
relation_words left sort right = expr_words left ++ Plain sort ∷ expr_words right

-- EMPTY and an expression
abbrev pub empty_words : ExprText → List Word
empty_words period = Plain k.Empty ∷ enclosed (expr_words period)

-- CONTAINS and two expressions
abbrev pub contains_words : ExprText → ExprText → List Word
contains_words period day = Plain k.Contains ∷ enclosed (expr_words period ++ Plain k.Comma ∷ expr_words day)

-- parts at a place with a word between them, by their words at each place
abbrev pub parts_step : Sort → Place → List (Place → List Word) → List Word
parts_step sort at parts = joined (λ p. p at) (behind sort (λ p. p at)) parts

-- the words of a condition at a place, by those of its parts
abbrev pub cond_step : open_.CondText-F (Place → List Word) → Place → List Word
cond_step (open_.And parts) at = enclosed_if (beside_and at) (parts_step k.And place.BesideAnd parts)
cond_step (open_.Or parts) at = enclosed_if (beside_any at) (parts_step k.Or place.BesideOr parts)
cond_step (open_.Not part) at = Plain k.Not ∷ part place.BesideAnd
cond_step (open_.Compare op left right) at = relation_words left (cmp_sort op) right
cond_step (open_.Relate pred left right) at = relation_words left (pred_sort pred) right
cond_step (open_.Empty period) at = empty_words period
cond_step (open_.Contains period day) at = contains_words period day

-- the words of a condition at a place
unfoldable pub cond_words : CondText → Place → List Word
cond_words = fold-CondText (Place → List Word) cond_step

-- conditions at a place with a word between them
abbrev pub parts_words : Sort → Place → List CondText → List Word
parts_words sort at = joined (λ x. cond_words x at) (behind sort (λ x. cond_words x at))

-- The words of literals and expressions.
use Rattle.std.specs.Prelude.{ℕ, List, [], ◌∷◌, Option, Some, None}
use Rattle.og_time.specs.Point.{point_text}
use Rattle.og_time.specs.Period.{period_text}
use Rattle.og_value.specs.declared.value.Value.{Value}
use Rattle.og_value.specs.declared.value.Value.TheVariants as v
use Rattle.og_value.specs.declared.term.Func.{Func}
use Rattle.og_value.specs.declared.term.Func.TheVariants as func
use Rattle.og_syntax.specs.declared.lexeme.Sort.{Sort}
use Rattle.og_syntax.specs.declared.lexeme.Sort.TheVariants as k
use Rattle.og_syntax.specs.declared.tree.ExprText.{ExprText, fold-ExprText}
use Rattle.og_syntax.specs.declared.tree.ExprText.TheOpen as open_
use Rattle.og_print.specs.Words.{Word, Plain, Named, Whole, Quoted, listed, enclosed}

-- the words of a literal: a number, a text, ONGOING and a point text, or PERIOD and a period text
abbrev pub lit_words : Value → List Word
lit_words (v.Int n) = Whole n ∷ []
lit_words (v.Text z) = Quoted z ∷ []
lit_words (v.Point p) = Plain k.Ongoing ∷ Quoted (point_text p) ∷ []
lit_words (v.Period i) = Plain k.Period ∷ Quoted (period_text i) ∷ []

-- the word of a function
abbrev pub func_sort : Func → Sort
func_sort func.Least = k.Least
func_sort func.Greatest = k.Greatest
func_sort func.Common = k.Common
func_sort func.Start = k.Start
func_sort func.End = k.End
func_sort func.Period = k.Period

-- the words of a column: its table's name and a dot where it is named, and its own name
abbrev pub column_words : Option (List ℕ) → List ℕ → List Word
column_words (Some table) name = Named table ∷ Plain k.Dot ∷ Named name ∷ []
column_words None name = Named name ∷ []

-- the words of an expression, by those of its parts
abbrev pub expr_step : open_.ExprText-F (List Word) → List Word
expr_step (open_.Column table name) = column_words table name
expr_step (open_.Lit value) = lit_words value
expr_step (open_.Call f args) = Plain (func_sort f) ∷ enclosed (listed (λ ws. ws) args)

-- the words of an expression
unfoldable pub expr_words : ExprText → List Word
expr_words = fold-ExprText (List Word) expr_step

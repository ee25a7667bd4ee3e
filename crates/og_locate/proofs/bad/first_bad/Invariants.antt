use Rattle.std.proofs.Common.{◌≡◌, ◌+◌, ℕ, Option, length}
use Rattle.og_syntax.specs.declared.lexeme.Sort.TheVariants.{Nothing}
use Rattle.og_locate.specs.BadTexts.{IsFirstBad}
use Rattle.og_locate.proofs.bad.first_bad.Given as goal

abbrev pub invariant-lexemes : goal.invariant-lexemes
invariant-lexemes l = ((found : Option ℕ) → IsFirstBad l.script l.earlier l.word l.at l.rest found → IsFirstBad l.script Nothing Nothing 0 l.piece found) × (l.at + length l.rest ≡ length l.piece)

abbrev pub decreases-lexemes : goal.decreases-lexemes
decreases-lexemes l = length l.rest

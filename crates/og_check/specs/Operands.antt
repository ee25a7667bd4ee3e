-- The checks of two operands, one after the other. Beside private functions alone.
use Rattle.og_syntax.specs.declared.tree.ExprText.{ExprText}
use Rattle.og_check.specs.Steps.{Checked, ◌>>=◌, pure}
use Rattle.og_check.specs.Sight.{Sight}
use Rattle.og_check.specs.Expressions.{Kinded, expr_of}

-- what two checks give, as a pair
abbrev pub both : {A B : Type 0} → Checked A → Checked B → Checked (A × B)
both p q = do x ← p; y ← q; pure (x, y)

-- two operands and their kinds
abbrev pub operands_of : Sight → ExprText → ExprText → Checked (Kinded × Kinded)
operands_of sight left right = both (expr_of sight left) (expr_of sight right)

use denote.Text.{Utf8}
use denote.Shadow.{shadow}
use Rattle.og_sql_text.proofs.conditions.+truths.Given as goal

-- what stands between two is text
abbrev pub invariant-put_truths-parts : goal.invariant-put_truths-parts
invariant-put_truths-parts l = shadow (Utf8 l.between)

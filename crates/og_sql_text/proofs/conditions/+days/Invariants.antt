use denote.Text.{Utf8}
use denote.Shadow.{shadow}
use Rattle.og_sql_text.proofs.conditions.+days.Given as goal

-- what stands between two is text
abbrev pub invariant-put_all_days-parts : goal.invariant-put_all_days-parts
invariant-put_all_days-parts l = shadow (Utf8 l.between)

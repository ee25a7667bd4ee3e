use denote.Text.{Utf8}
use denote.Shadow.{shadow}
use Rattle.og_sql_text.proofs.expressions.+expressions.Given as goal

-- what stands between two is text
abbrev pub invariant-put_args-args-2 : goal.invariant-put_args-args-2
invariant-put_args-args-2 l = shadow (Utf8 l.comma)

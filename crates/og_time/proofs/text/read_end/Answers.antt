use Rattle.std.proofs.Common.{inl, inr, length, ap, arith}
use Rattle.std.proofs.lemmas.Bool.Decides.{nat_tests}
use Rattle.og_time.proofs.text.read_end.Goals as goal

pub returns-in-Ok-clause-value : goal.returns-in-Ok-clause-value
returns-in-Ok-clause-value c = inr (rw c.of.ensures c.in-Ok.ensures.value)

pub returns-in-Err-clause-refused : goal.returns-in-Err-clause-refused
returns-in-Err-clause-refused c n (inl none) =
    let empty = ap length none.0 in absurd (grind (arith, nat_tests, c.is_empty.ensures, c.if-is_empty.false, empty))
returns-in-Err-clause-refused c n (inr is) = c.in-Err.ensures.refused n is

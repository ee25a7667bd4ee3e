use Rattle.std.proofs.Common.{◌≡◌, ◌-◌, ◌^◌, ◌≤◌, min, drop}
use Rattle.og_lex.specs.Bytes.{value_after}
use Rattle.og_lex.proofs.numeral.magnitude.Given as goal

abbrev pub invariant-digits : goal.invariant-digits
invariant-digits l =
    (min (value_after l.size (drop l.b-index l.digits)) (2 ^ 64 - 1) ≡ min (value_after 0 l.digits) (2 ^ 64 - 1)) × (l.size ≤ 2 ^ 64 - 1)

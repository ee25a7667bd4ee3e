use Rattle.std.proofs.Common.{◌≡◌, ◌++◌, ◌∷◌, take}
use Rattle.og_lex.specs.Bytes.{doubled}
use Rattle.og_sql_text.proofs.quotes.write_quoted.Given as goal

abbrev pub invariant-bytes : goal.invariant-bytes
invariant-bytes l = l.out.items ≡ l.fn.out.items ++ 39 ∷ doubled (take l.b-index l.bytes)

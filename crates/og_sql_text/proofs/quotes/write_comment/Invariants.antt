use Rattle.std.proofs.Common.{◌≡◌, ◌++◌, codes, take}
use Rattle.std.specs.List.{flat_map}
use Rattle.og_sql_text.specs.Texts.{commented}
use Rattle.og_sql_text.proofs.quotes.write_comment.Given as goal

abbrev pub invariant-bytes : goal.invariant-bytes
invariant-bytes l = l.out.items ≡ l.fn.out.items ++ codes "-- " ++ flat_map commented (take l.b-index l.text)

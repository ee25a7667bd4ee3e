use Rattle.std.proofs.Common.{◌≡◌, map, take}
use Rattle.og_sql_words.proofs.read.listed.Given as goal

abbrev pub invariant-words : goal.invariant-words
invariant-words l = map (λ w. w.now) l.list.items ≡ take l.i l.fn.words

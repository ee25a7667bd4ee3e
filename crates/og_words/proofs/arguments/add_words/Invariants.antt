-- The words that were added, and those to come, are all of them.
use Rattle.std.proofs.Common.{◌≡◌, ◌++◌, drop, map, string_bytes}
use Rattle.og_words.proofs.arguments.add_words.Given as goal

abbrev pub invariant-words : goal.invariant-words
invariant-words l = l.words ++ map string_bytes l.args.rest.items ≡ l.fn.words ++ map string_bytes (drop 1 l.fn.args.rest.items)

abbrev pub decreases-words : goal.decreases-words
decreases-words l = l.args.rest.len

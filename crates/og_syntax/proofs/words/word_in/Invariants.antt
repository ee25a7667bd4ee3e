use Rattle.std.proofs.Common.{◌≡◌, length, map}
use Rattle.og_syntax.specs.Words.{word_in}
use Rattle.og_syntax.proofs.words.word_in.Given as goal

abbrev pub invariant-table : goal.invariant-table
invariant-table l = word_in (map (λ e. (e.0.now, e.1)) l.table) l.sort ≡ word_in (map (λ e. (e.0.now, e.1)) l.initial.table) l.sort

abbrev pub decreases-table : goal.decreases-table
decreases-table l = length l.table

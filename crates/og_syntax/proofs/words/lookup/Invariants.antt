use Rattle.std.proofs.Common.{◌≡◌, length, map}
use Rattle.og_syntax.specs.Words.{sort_in}
use Rattle.og_syntax.proofs.words.lookup.Given as goal

abbrev pub invariant-table : goal.invariant-table
invariant-table l = sort_in (map (λ e. (e.0.now, e.1)) l.table) l.word ≡ sort_in (map (λ e. (e.0.now, e.1)) l.initial.table) l.word

abbrev pub decreases-table : goal.decreases-table
decreases-table l = length l.table

use Rattle.std.proofs.Common.{◌≡◌, ◌+◌, ◌++◌, length, map, reverse, take}
use Rattle.std.specs.List.{flat_map}
use Rattle.og_plan.specs.Text.{line_text, lines_from}
use Rattle.og_plan.specs.Words.{semi_words}
use Rattle.og_plan.proofs.text.add_semis.Given as goal

abbrev pub invariant-semis : goal.invariant-semis
invariant-semis l = record {
  level : l.next + l.k ≡ l.level + length l.semis;
  left : flat_map line_text l.lines.items ++ lines_from l.next (map semi_words (reverse (take l.k l.semis)))
      ≡ flat_map line_text l.fn.lines.items ++ lines_from l.level (map semi_words (reverse l.semis));
}

use Rattle.og_join.proofs.row_pairs.row_pairs.Given as goal

abbrev pub ghosts-overlapping : goal.ghosts-overlapping
ghosts-overlapping a = record { name = a.blank.name; parts = a.blank.parts }

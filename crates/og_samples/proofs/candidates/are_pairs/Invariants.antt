use Rattle.og_samples.proofs.candidates.are_pairs.Given as goal

abbrev pub ghosts-are_counted : goal.ghosts-are_counted
ghosts-are_counted a = record { name = a.blank.name; parts = a.blank.parts }

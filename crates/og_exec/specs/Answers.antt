-- Answers, lent or made.
use Rattle.og_exec.specs.Tables.{Relation}
use Rattle.og_exec.specs.declared.answer.Answer.{Answer}
use Rattle.og_exec.specs.declared.answer.Answer.TheVariants.{Lent, Made}

-- the relation of an answer
abbrev pub rel_of : Answer → Relation
rel_of (Lent rel) = rel.now
rel_of (Made rel) = rel

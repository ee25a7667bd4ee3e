use Rattle.std.proofs.lemmas.Bool.Decides.{Decides-eqb}
use Rattle.std.proofs.lemmas.Slice.Eq.{strip_suffix_is}
use Rattle.og_file.proofs.header.parts_of.Goals as goal

pub returns-in-Some-clause-parts : goal.returns-in-Some-clause-parts
returns-in-Some-clause-parts c = rw (c.in-Some.is, c.as_slice.ensures) at (strip_suffix_is Decides-eqb c.args.field.now c.as_slice.result.now c.strip_suffix.result c.strip_suffix.ensures.cases)

pub returns-in-Some-strip_suffix-clause-parts : goal.returns-in-Some-strip_suffix-clause-parts
returns-in-Some-strip_suffix-clause-parts c = rw (c.in-Some-strip_suffix.is, c.as_slice-2.ensures) at (strip_suffix_is Decides-eqb c.args.field.now c.as_slice-2.result.now c.strip_suffix-2.result c.strip_suffix-2.ensures.cases)

pub returns-in-Some-strip_suffix-2-clause-parts : goal.returns-in-Some-strip_suffix-2-clause-parts
returns-in-Some-strip_suffix-2-clause-parts c = rw (c.in-Some-strip_suffix-2.is, c.as_slice-3.ensures) at (strip_suffix_is Decides-eqb c.args.field.now c.as_slice-3.result.now c.strip_suffix-3.result c.strip_suffix-3.ensures.cases)

pub returns-clause-parts : goal.returns-clause-parts
returns-clause-parts c = rw (c.in_ok-word.was, c.as_slice-4.ensures) at (strip_suffix_is Decides-eqb c.args.field.now c.as_slice-4.result.now c.strip_suffix-4.result c.strip_suffix-4.ensures.cases)

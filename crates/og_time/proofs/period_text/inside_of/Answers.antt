use Rattle.std.proofs.lemmas.Bool.Decides.{Decides-eqb}
use Rattle.std.proofs.lemmas.Slice.Eq.{strip_prefix_is, strip_suffix_is}
use Rattle.og_time.proofs.PeriodTexts.{inside_where_some}
use Rattle.og_time.proofs.period_text.inside_of.Goals as goal

pub returns-clause-inside : goal.returns-clause-inside
returns-clause-inside c =
    let first = rw (c.in_ok-rest.was, c.as_slice.ensures) at (strip_prefix_is Decides-eqb c.args.text.now c.as_slice.result.now c.strip_prefix.result c.strip_prefix.ensures.cases) in
    let last = rw c.as_slice-2.ensures at (strip_suffix_is Decides-eqb c.in_ok-rest.rest.now c.as_slice-2.result.now c.strip_suffix.result c.strip_suffix.ensures.cases) in
    inside_where_some _ _ _ first last

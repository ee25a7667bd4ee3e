use Rattle.std.proofs.Common.{rules, subst, sym}
use Rattle.std.specs.List.{All}
use Rattle.std.proofs.lemmas.Fn.{filter_same}
use Rattle.og_base.specs.Ranges.{IsNormal}
use Rattle.og_rel.specs.Pairs.{has_day}
use Rattle.og_rel.specs.Relations.{HasDays}
use Rattle.og_rel.proofs.PairLemmas.{days-pairs}
use Rattle.og_rel.proofs.pair.pairs_with_days.Goals as goal

pub returns-clause-kept : goal.returns-clause-kept
returns-clause-kept g c = filter_same _ (λ p. has_day p.days) _ (λ x b f' k. search rules) _ _ c.retain.ensures.filtered

pub returns-clause-days : goal.returns-clause-days
returns-clause-days g c =
    subst (All (λ p. HasDays p.days)) (sym (returns-clause-kept g c))
    (days-pairs c.args.pairs.items (subst (All (λ p. IsNormal p.days)) c.as_slice.ensures.value c.sets_are_normal.ensures))

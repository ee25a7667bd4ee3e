use Rattle.std.proofs.Common.{filter, ap, ◌∙◌}
use Rattle.std.specs.List.{list_any}
use Rattle.std.proofs.lemmas.Result.{IfOk-weaker}
use Rattle.og_base.specs.Set.{IsExactOrder}
use Rattle.og_rel.specs.Relations.{present}
use Rattle.og_ops.specs.Lending.{lent}
use Rattle.og_ops.specs.Wanted.{is_wanted}
use Rattle.og_ops.proofs.MetLemmas.{met_law}
use Rattle.og_ops.proofs.semijoins.semijoin.Goals as goal

pub returns-clause-law : goal.returns-clause-law
returns-clause-law g c =
    let o : IsExactOrder g.R.Fixed.Ord.cmp = record { total = g.met.R.Fixed.Ord.total; exact = g.met.R.Instant.exact } in
    IfOk-weaker c.each_row.result _ _ (λ r h d day. met_law o g.R.Instant.meaning (g.M.Matching.meets c.args.matching.now d) c.args.wanted c.as_slice.result.now c.in_ok-others.others.items c.args.left.now c.args.right.now r d
    c.as_slice.ensures.value (λ t. c.in_ok-others.ensures.rows t d)
    (h d day ∙ ap (λ s. filter (λ x. is_wanted s.1 (list_any (g.M.Matching.meets s.0 d x) (present g.R.Instant.meaning (lent s.2) d))) (present g.R.Instant.meaning c.args.left.now d)) c.of-meeting.ensures)) c.each_row.ensures.law

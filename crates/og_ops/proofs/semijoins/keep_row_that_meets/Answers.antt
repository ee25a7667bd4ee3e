use Rattle.std.proofs.Common.{◌&&◌, ap, ◌∙◌}
use Rattle.std.specs.List.{list_any}
use Rattle.std.proofs.lemmas.Result.{on_ok_weaker}
use Rattle.og_base.specs.Ranges.{holds_day}
use Rattle.og_rel.specs.Relations.{present}
use Rattle.og_ops.specs.Lending.{lent}
use Rattle.og_ops.specs.Wanted.{is_wanted}
use Rattle.og_ops.proofs.RowLemmas.{pushed_rows, filter-one}
use Rattle.og_ops.proofs.semijoins.keep_row_that_meets.Goals as goal

pub returns-clause-rows : goal.returns-clause-rows
returns-clause-rows g c =
    let at = g.R.Instant.meaning in
    let here = c.args.days.now in
    on_ok_weaker c.put_row.result (λ e d r. pushed_rows at _ _ _ _ d _ e
    (filter-one (λ x. is_wanted c.args.wanted (list_any (g.M.Matching.meets c.args.matching.now d x) (present at (lent c.args.others.now) d))) (at c.args.row.now d) (holds_day here d) _
    (c.in_ok-left.ensures d ∙ ap (λ t. holds_day here d && is_wanted c.args.wanted t) (c.in_ok-met.ensures d r)))) c.put_row.ensures

use Rattle.std.proofs.Common.{subst}
use Rattle.og_base.specs.Calendar.{IsRefDay}
use Rattle.og_value.specs.Order.{row_order}
use Rattle.og_value.specs.Values.{row_at}
use Rattle.og_rel.specs.Relations.{relation_at}
use Rattle.og_output.specs.Puts.{IsPut}
use Rattle.og_session.proofs.GrownLemmas.{grown_by_put, grown_none}
use Rattle.og_session.proofs.PieceLemmas.{piece-query}
use Rattle.og_session.proofs.pieces.put_query.Goals as goal

pub returns-clause-put : goal.returns-clause-put
returns-clause-put g c files before world =
    let is_day = subst IsRefDay c.number.ensures.value c.number.ensures.range in
    let rows = relation_at row_order row_at c.in_ok-rel.rel c.args.day in
    let piece = piece-query c.args.names.now.names files before world c.args.query.now c.args.day rows is_day (c.in_ok-rel.ensures.law c.args.day is_day) in
    subst (λ t. IsPut (g.K.Sink.written c.args.out.now) (g.K.Sink.written c.put_relation.new.out) t c.put_relation.result) piece c.put_relation.ensures.put

pub returns-in_err-rel-clause-grown : goal.returns-in_err-rel-clause-grown
returns-in_err-rel-clause-grown g c = grown_none _

pub returns-clause-grown : goal.returns-clause-grown
returns-clause-grown g c = grown_by_put _ _ _ c.put_relation.result c.put_relation.ensures.put

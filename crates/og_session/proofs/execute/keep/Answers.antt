use Rattle.std.proofs.Common.{◌≤◌, ap, length, subst, ◌∙◌}
use Rattle.std.proofs.lemmas.Result.{on_ok_weaker}
use Rattle.og_query.specs.Queries.{ordinary_query}
use Rattle.og_query.specs.Sizes.{query_size}
use Rattle.og_query.specs.declared.typed.Typed.TheVariants as t
use Rattle.og_db.specs.Effects.{on_names}
use Rattle.og_session.specs.Names.{IsDone}
use Rattle.og_session.proofs.AnswerLemmas.{rows_at-world, sizes_of-names}
use Rattle.og_session.proofs.execute.keep.Goals as goal

pub returns-clause-done : goal.returns-clause-done
returns-clause-done g c =
    let old = c.args.names.now.names in
    let query = c.args.query.now in
    on_ok_weaker c.keep.result
    (λ done. subst (λ name. IsDone c.args.names.now c.keep.new.self (on_names (t.Keep name query, tt))) c.in_ok-copy.ensures
    (done query c.in_ok-copy-2.ensures (λ d day. c.in_ok-rel.ensures.law d day ∙ ap (λ rows. ordinary_query d rows query) (rows_at-world d old))
    (subst (λ most. length c.in_ok-rel.rel ≤ most) (ap (λ sizes. query_size sizes query) (sizes_of-names old)) c.in_ok-rel.ensures.size)))
    c.keep.ensures.done

use Rattle.std.proofs.Common.{◌∙◌, sym, subst}
use Rattle.std.specs.Io.KnownBytes.{Appends}
use Rattle.std.proofs.KnownBytes.{Appends-nil}
use Rattle.og_db.specs.Effects.{on_names}
use Rattle.og_db.specs.Statements.{IsOfNames}
use Rattle.og_output.specs.Puts.{IsPut}
use Rattle.og_session.specs.Output.{piece_of}
use Rattle.og_session.proofs.GrownLemmas.{grown_by_put, grown_none}
use Rattle.og_session.proofs.PieceLemmas.{others_write_nothing, piece-tables}
use Rattle.og_session.proofs.pieces.put_piece.Goals as goal

pub returns-in-PrintQuery-clause-put : goal.returns-in-PrintQuery-clause-put
returns-in-PrintQuery-clause-put g c of files before world =
    subst (λ stmt. (of : IsOfNames stmt) → IsPut (g.K.Sink.written c.args.out.now) (g.K.Sink.written c.put_query.new.out) (piece_of before (on_names (stmt, of))) c.put_query.result) (sym c.in-PrintQuery.is) (λ of. c.put_query.ensures.put files before world) of

pub returns-in-Explain-clause-put : goal.returns-in-Explain-clause-put
returns-in-Explain-clause-put g c of files before world =
    subst (λ stmt. (of : IsOfNames stmt) → IsPut (g.K.Sink.written c.args.out.now) (g.K.Sink.written c.put_plan.new.out) (piece_of before (on_names (stmt, of))) c.put_plan.result) (sym c.in-Explain.is) (λ of. c.put_plan.ensures.put) of

pub returns-in-Valid-clause-put : goal.returns-in-Valid-clause-put
returns-in-Valid-clause-put g c of files before world =
    subst (λ stmt. (of : IsOfNames stmt) → IsPut (g.K.Sink.written c.args.out.now) (g.K.Sink.written c.put_valid.new.out) (piece_of before (on_names (stmt, of))) c.put_valid.result) (sym c.in-Valid.is) (λ of. c.put_valid.ensures.put files before world) of

pub returns-in_default-clause-put : goal.returns-in_default-clause-put
returns-in_default-clause-put g c of files before world =
    let not = c.in_default in
    let out = g.K.Sink.written c.args.out.now in
    subst (Appends out out) (sym (others_write_nothing before c.args.stmt.now of not.not-PrintName not.not-PrintQuery not.not-Tables not.not-Explain not.not-Valid)) (Appends-nil out)

pub returns-in-PrintName-clause-put : goal.returns-in-PrintName-clause-put
returns-in-PrintName-clause-put g c of files before world =
    subst (λ stmt. (of : IsOfNames stmt) → IsPut (g.K.Sink.written c.args.out.now) (g.K.Sink.written c.put_name.new.out) (piece_of before (on_names (stmt, of))) c.put_name.result) (sym c.in-PrintName.is) (λ of. c.put_name.ensures.put files before world) of

pub returns-in_ok-names_text-in-Tables-clause-put : goal.returns-in_ok-names_text-in-Tables-clause-put
returns-in_ok-names_text-in-Tables-clause-put g c of files before world =
    let text = c.as_slice.ensures.value ∙ c.in_ok-names_text-in-Tables.ensures ∙ c.held.ensures ∙ piece-tables c.args.names.now.names files before world in
    subst (λ stmt. (of : IsOfNames stmt) → IsPut (g.K.Sink.written c.args.out.now) (g.K.Sink.written c.put.new.out) (piece_of before (on_names (stmt, of))) c.put.result) (sym c.in-Tables.is)
    (λ of. subst (λ t. IsPut (g.K.Sink.written c.args.out.now) (g.K.Sink.written c.put.new.out) t c.put.result) text c.put.ensures.put) of

pub returns-in-Explain-clause-grown : goal.returns-in-Explain-clause-grown
returns-in-Explain-clause-grown g c = grown_by_put _ _ _ c.put_plan.result c.put_plan.ensures.put

pub returns-in_default-clause-grown : goal.returns-in_default-clause-grown
returns-in_default-clause-grown g c = grown_none _

pub returns-in_ok-names_text-in-Tables-clause-grown : goal.returns-in_ok-names_text-in-Tables-clause-grown
returns-in_ok-names_text-in-Tables-clause-grown g c = grown_by_put _ _ _ c.put.result c.put.ensures.put

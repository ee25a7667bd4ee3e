use Rattle.std.proofs.Common.{◌≡◌, Some, None, rules, ap, sym, ◌∙◌, subst}
use Rattle.std.specs.Io.KnownBytes.{Appends}
use Rattle.std.specs.Option.{option_map, option_copied}
use Rattle.std.proofs.KnownBytes.{Appends-nil}
use Rattle.og_base.specs.Calendar.{IsRefDay}
use Rattle.og_value.specs.Order.{row_order}
use Rattle.og_value.specs.Values.{row_at}
use Rattle.og_rel.specs.Relations.{relation_at}
use Rattle.og_db.specs.Database.{Relation}
use Rattle.og_db.specs.Held.{found, known_of, rows_of}
use Rattle.og_output.specs.Puts.{IsPut}
use Rattle.og_session.proofs.GrownLemmas.{grown_by_put, grown_none}
use Rattle.og_session.proofs.PieceLemmas.{piece-name, layout-found, layout-unknown}
use Rattle.og_session.proofs.pieces.put_name.Goals as goal

pub returns-in_default-clause-put : goal.returns-in_default-clause-put
returns-in_default-clause-put g c files before world =
    let on = λ (rel : Relation). relation_at row_order row_at rel c.args.day in
    let is_day = subst IsRefDay c.number.ensures.value c.number.ensures.range in
    let none : option_map (λ k. k.1) (known_of c.args.names.now.names c.args.name.now) ≡ None = sym c.schema.ensures ∙ ap option_copied c.in_default.is in
    let out = g.K.Sink.written c.args.out.now in
    subst (Appends out out) (layout-unknown on (found c.args.names.now.names c.args.name.now) none ∙ piece-name c.args.names.now.names files before world c.args.name.now c.args.day is_day) (Appends-nil out)

pub returns-clause-put : goal.returns-clause-put
returns-clause-put g c files before world =
    let on = λ (rel : Relation). relation_at row_order row_at rel c.args.day in
    let is_day = subst IsRefDay c.number.ensures.value c.number.ensures.range in
    let known : option_map (λ k. k.1) (known_of c.args.names.now.names c.args.name.now) ≡ Some c.in-Some.schema.now = search rules in
    let held : rows_of c.args.names.now.names c.args.name.now ≡ Some c.in-Some-rel.rel.now = search rules in
    let piece =
    layout-found on (found c.args.names.now.names c.args.name.now) c.in-Some.schema.now c.in-Some-rel.rel.now known held
    ∙ piece-name c.args.names.now.names files before world c.args.name.now c.args.day is_day in
    subst (λ t. IsPut (g.K.Sink.written c.args.out.now) (g.K.Sink.written c.put_relation.new.out) t c.put_relation.result) piece c.put_relation.ensures.put

pub returns-in_default-clause-grown : goal.returns-in_default-clause-grown
returns-in_default-clause-grown g c = grown_none _

pub returns-clause-grown : goal.returns-clause-grown
returns-clause-grown g c = grown_by_put _ _ _ c.put_relation.result c.put_relation.ensures.put

use Rattle.std.proofs.Common.{Some, if◌then◌else◌, ap, sym, ◌∙◌}
use Rattle.std.specs.Option.{option_map}
use Rattle.std.specs.Str.{bytes_eq}
use Rattle.og_db.specs.Held.{rows_of}
use Rattle.og_view.proofs.ChangedLemmas.{rows_of-changed}
use Rattle.og_view.proofs.put.PutTablesRow.rel.Goals as goal

pub returns-in_default : goal.returns-in_default
returns-in_default c =
    let p = c.self.inside in
    let name = c.args.name.now in
    ap (option_map (λ own. if bytes_eq p.name.now name then p.rel.now else own)) c.in_default.ensures
    ∙ sym (rows_of-changed p.name.now (λ _. p.rel.now) p.tables.now name) ∙ ap (λ db. rows_of db name) c.self.view_is

pub returns-then-eq : goal.returns-then-eq
returns-then-eq c =
    let p = c.self.inside in
    let name = c.args.name.now in
    ap (λ b. Some (if b then p.rel.now else c.in-Some.own.now)) (c.if-eq.ensures ∙ ap (λ b. bytes_eq b name) c.bytes.ensures)
    ∙ ap (option_map (λ own. if bytes_eq p.name.now name then p.rel.now else own)) c.in-Some.ensures
    ∙ sym (rows_of-changed p.name.now (λ _. p.rel.now) p.tables.now name) ∙ ap (λ db. rows_of db name) c.self.view_is

pub returns : goal.returns
returns c =
    let p = c.self.inside in
    let name = c.args.name.now in
    ap (λ b. Some (if b then p.rel.now else c.in-Some.own.now)) (c.if-eq.ensures ∙ ap (λ b. bytes_eq b name) c.bytes.ensures)
    ∙ ap (option_map (λ own. if bytes_eq p.name.now name then p.rel.now else own)) c.in-Some.ensures
    ∙ sym (rows_of-changed p.name.now (λ _. p.rel.now) p.tables.now name) ∙ ap (λ db. rows_of db name) c.self.view_is

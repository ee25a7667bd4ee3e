use Rattle.std.proofs.Common.{◌≡◌, Some, None, ap, sym, ◌∙◌}
use Rattle.std.specs.Map.{lookup}
use Rattle.std.specs.Option.{option_map}
use Rattle.std.specs.Str.{bytes_eq}
use Rattle.og_db.specs.Held.{rows_of}
use Rattle.og_session.proofs.LiveViews.{found_view}
use Rattle.og_session.proofs.NameLemmas.{rows_of-none, rows_of-plain, rows_of-some}
use Rattle.og_session.proofs.names.NamesTablesRow.rel.Goals as goal

pub returns-in_default : goal.returns-in_default
returns-in_default c =
    let none : rows_of c.self.inside.db c.args.name.now ≡ None = sym c.rel.ensures ∙ ap (option_map (λ r. r.now)) c.in_default.is in
    sym (rows_of-none c.self.inside.views.entries c.self.inside.db c.args.name.now none) ∙ ap (λ n. rows_of n.names c.args.name.now) c.self.view_is

pub rel-requires-in-Some-get : goal.rel-requires-in-Some-get
rel-requires-in-Some-get c = (found_view c.self.inside.db c.self.inside.views.entries c.self.invariant c.args.name.now c.in-Some-get.view.now (sym c.in-Some-get.ensures.value)).settled

pub returns-in-Some-get : goal.returns-in-Some-get
returns-in-Some-get c =
    let held : rows_of c.self.inside.db c.args.name.now ≡ Some c.in-Some.rel.now = sym c.in-Some.ensures in
    let view : lookup (bytes_eq c.args.name.now) c.self.inside.views.entries ≡ Some c.in-Some-get.view.now = sym c.in-Some-get.ensures.value in
    ap Some c.rel-in-Some-get.ensures
    ∙ sym (rows_of-some c.self.inside.views.entries c.self.inside.db c.args.name.now c.in-Some-get.view.now c.in-Some.rel.now view held)
    ∙ ap (λ n. rows_of n.names c.args.name.now) c.self.view_is

pub returns-in-None : goal.returns-in-None
returns-in-None c =
    let held : rows_of c.self.inside.db c.args.name.now ≡ Some c.in-Some.rel.now = sym c.in-Some.ensures in
    let none : lookup (bytes_eq c.args.name.now) c.self.inside.views.entries ≡ None = sym c.in-None.ensures.value in
    sym held ∙ sym (rows_of-plain c.self.inside.views.entries c.self.inside.db c.args.name.now none) ∙ ap (λ n. rows_of n.names c.args.name.now) c.self.view_is

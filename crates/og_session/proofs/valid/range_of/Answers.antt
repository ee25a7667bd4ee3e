use Rattle.std.proofs.Common.{◌≡◌, ◌∙◌, Some, sym, subst, rules}
use Rattle.std.proofs.lemmas.Option.{same_Some}
use Rattle.std.proofs.lemmas.Result.{IfOk-weaker}
use Rattle.og_base.specs.Calendar.{IsRefDay}
use Rattle.og_db.specs.Database.{HaveKinds}
use Rattle.og_db.specs.Held.{rows_of}
use Rattle.og_session.proofs.ValidLemmas.{range_is}
use Rattle.og_session.proofs.valid.range_of.Goals as goal

pub returns : goal.returns
returns c =
    let db = c.args.names.now.names in
    let name = c.args.name.now in
    let day = c.args.day in
    let columns = c.requires.0 in
    let rel = c.in-Some.rel.now in
    let is_day = subst IsRefDay c.number.ensures.value c.number.ensures.range in
    let held : rows_of db name ≡ Some rel = search rules in
    let fit = c.rows_fit.ensures.held name columns c.requires.1 in
    let kinds = subst (HaveKinds columns) (same_Some fit.0 rel (sym fit.1 ∙ held)) fit.2 in
    IfOk-weaker c.layout_range.result _ _ (λ range l files before world.
    range_is db name columns rel c.requires.1 held files before world day is_day range (l columns kinds)) c.layout_range.ensures

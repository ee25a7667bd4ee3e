use Rattle.std.proofs.Common.{◌≡◌, ◌∙◌, Some, refl, ap, sym, subst}
use Rattle.std.specs.Option.{option_map}
use Rattle.std.proofs.lemmas.Option.{same_Some}
use Rattle.std.proofs.lemmas.Result.{on_ok_weaker, on_err_weaker}
use Rattle.std.specs.List.Sorted.{IsPermutation}
use Rattle.og_db.specs.Database.{HaveKinds}
use Rattle.og_db.specs.Deltas.{rows_after}
use Rattle.og_db.specs.Held.{rows_of}
use Rattle.og_db.proofs.DeltaLemmas.{after_fits}
use Rattle.og_db.proofs.EntryLemmas.{All-named, All-changed, with_relation, with_same_relation, has_columns, is_there, either_way, rows_of-entries}
use Rattle.og_db.proofs.database.Db.apply.Goals as goal

pub unreachable-requires : goal.unreachable-requires
unreachable-requires c =
    is_there c.args.name.now c.args.self.now c.self.inside.names.entries c.self.view_is c.requires.columns c.requires.table (sym c.in_default.ensures.index)

pub apply-requires : goal.apply-requires
apply-requires c =
    let es = c.self.inside.names.entries in
    let old = c.index_mut.result.now in
    let is = sym c.in-Some.ensures.value ∙ c.index_mut.ensures.value in
    (c.requires.rows old.rel (ap (λ db. rows_of db c.args.name.now) (sym c.self.view_is) ∙ rows_of-entries es c.args.name.now ∙ ap (option_map (λ h. h.rel)) is)).at

pub invariant_of-self : goal.invariant_of-self
invariant_of-self c =
    let es = c.self.inside.names.entries in
    let old = c.index_mut.result.now in
    let is = sym c.in-Some.ensures.value ∙ c.index_mut.ensures.value in
    let columns = has_columns c.args.name.now c.args.self.now es c.self.view_is c.requires.columns c.requires.table old is in
    let before = All-named (λ h. HaveKinds h.schema h.rel) es c.args.name.now old is c.self.invariant in
    All-changed (λ h. HaveKinds h.schema h.rel) es c.in-Some.at (record { what = old.what; schema = old.schema; rel = c.apply.new.rows })
    (either_way c.apply.result c.apply.ensures.applied c.apply.ensures.refused
    (λ moved. after_fits old.schema old.rel c.args.delta before (subst (λ cs. HaveKinds cs c.args.delta.left) columns c.requires.left) (subst (λ cs. HaveKinds cs c.args.delta.added) columns c.requires.added) c.apply.new.rows moved)
    (λ e. subst (HaveKinds old.schema) (sym e) before))
    c.self.invariant

pub returns-clause-applied : goal.returns-clause-applied
returns-clause-applied c =
    let es = c.self.inside.names.entries in
    let old = c.index_mut.result.now in
    let is = sym c.in-Some.ensures.value ∙ c.index_mut.ensures.value in
    let own : rows_of c.args.self.now c.args.name.now ≡ Some old.rel = ap (λ db. rows_of db c.args.name.now) (sym c.self.view_is) ∙ rows_of-entries es c.args.name.now ∙ ap (option_map (λ h. h.rel)) is in
    on_ok_weaker c.apply.result
    (λ moved. record {
      rows = c.apply.new.rows;
      put = with_relation c.args.name.now c.args.self.now es c.self.view_is c.in-Some.at old (sym c.in-Some.ensures.index) is (λ _. c.apply.new.rows) c.apply.new.rows refl c.in-Some.ensures.unique;
      order = λ rel there. subst (λ r. IsPermutation c.apply.new.rows (rows_after c.args.delta r)) (same_Some old.rel rel (sym own ∙ there)) moved;
    })
    c.apply.ensures.applied

pub returns-clause-refused : goal.returns-clause-refused
returns-clause-refused c =
    on_err_weaker c.apply.result
    (λ e. with_same_relation c.args.name.now c.args.self.now c.self.inside.names.entries c.self.view_is c.in-Some.at c.index_mut.result.now
    (sym c.in-Some.ensures.index) (sym c.in-Some.ensures.value ∙ c.index_mut.ensures.value) c.apply.new.rows e c.in-Some.ensures.unique)
    c.apply.ensures.refused

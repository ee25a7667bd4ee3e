use Rattle.std.proofs.Common.{◌∙◌, ap, sym, subst}
use Rattle.og_db.specs.Live.{kept_at}
use Rattle.og_db.specs.Database.{HaveKinds}
use Rattle.og_db.proofs.EntryLemmas.{All-changed, has_columns, is_there, with_kept}
use Rattle.og_db.proofs.database.Db.settle.Goals as goal

pub invariant_of-self : goal.invariant_of-self
invariant_of-self c =
    let es = c.self.inside.names.entries in
    let old = c.index_mut-held.result.now in
    let is = sym c.in-Some.ensures.value ∙ c.index_mut-held.ensures.value in
    All-changed (λ h. HaveKinds h.schema h.rel) es c.in-Some.at _
    (subst (λ rel. HaveKinds (c.index_mut-held.result.now).schema rel) (sym c.bare.ensures) (subst (λ columns. HaveKinds columns c.args.rel) (has_columns c.args.name.now c.args.self.now es c.self.view_is c.requires.0 c.requires.1 old is) c.requires.2))
    c.self.invariant

pub unreachable-requires : goal.unreachable-requires
unreachable-requires c =
    is_there c.args.name.now c.args.self.now c.self.inside.names.entries c.self.view_is c.requires.0 c.requires.1 (sym c.in_default.ensures.index)

pub returns : goal.returns
returns c =
    with_kept c.args.name.now c.args.self.now c.self.inside.names.entries c.self.view_is c.in-Some.at c.index_mut-held.result.now
    (sym c.in-Some.ensures.index) (sym c.in-Some.ensures.value ∙ c.index_mut-held.ensures.value) c.bare.result c.in-Some.ensures.unique
    ∙ ap (λ rel. kept_at c.args.name.now rel c.args.self.now) c.bare.ensures

use Rattle.std.proofs.Common.{rules, ◌≡◌, ◌⊎◌, ◌∙◌, IsTrue, None, string_bytes, subst, inl, inr, arith}
use Rattle.std.proofs.lemmas.Result.{on_err_weaker}
use Rattle.og_io.proofs.Replacing.{kept_back, one_more_taken}
use Rattle.og_io.specs.Folders.{IsSame, IsSameBut}
use Rattle.og_base.specs.Told.{Rose}
use Rattle.og_io.specs.Neighbours.{IsNumbered}
use Rattle.og_io.proofs.replaced.replace_file.Goals as goal

pub names-preserved-then-eq : goal.names-preserved-then-eq
names-preserved-then-eq g c =
    let o = string_bytes c.in_ok-other.other in
    let numbered : IsNumbered c.args.name.now c.names.number o = search rules in
    let itself : o ≡ c.args.name.now = search rules in
    record {
      scope = c.names.invariant.scope;
      may = c.names.invariant.may;
      files = c.names.invariant.files;
      taken = λ t. one_more_taken _ o _ _ (c.names.invariant.taken t) numbered (inl itself);
      later = c.names.invariant.later;
      kept = c.names.invariant.kept;
    }

pub names-preserved : goal.names-preserved
names-preserved g c =
    let o = string_bytes c.in_ok-other.other in
    let numbered : IsNumbered c.args.name.now c.names.number o = search rules in
    let there : IsTrue g.S.System.tells → ¬ (g.S.System.files c.names.sys o ≡ None) = search rules in
    let same : IsTrue g.S.System.tells → IsSame (g.S.System.files c.names.sys) (g.S.System.files c.create_new.new.self) = search rules in
    record {
      scope = c.create_new.ensures.scope ∙ c.names.invariant.scope;
      may = c.names.invariant.may;
      files = λ t path. same t path ∙ c.names.invariant.files t path;
      taken = λ t. one_more_taken _ o _ _ (c.names.invariant.taken t) numbered (inr (λ none. there t (c.names.invariant.files t o ∙ none)));
      later = omega (arith, c.names.invariant.later, c.create_new.ensures.cause.later);
      kept = c.create_new.ensures.kept ∙ c.names.invariant.kept;
    }

pub returns-in-Ok-Some-clause-refused : goal.returns-in-Ok-Some-clause-refused
returns-in-Ok-Some-clause-refused g c =
    let o = c.as_str-in-Ok-Some.result.now in
    let files = g.S.System.files in
    let free : IsTrue g.S.System.tells → files c.names.sys o ≡ None = search rules in
    let made : IsTrue g.S.System.tells → IsSameBut o (files c.names.sys) (files c.create_new.new.self) = search rules in
    let apart : ¬ (o ≡ c.args.name.now) = search rules in
    let kept : g.S.System.kept c.create_new.new.self ≡ g.S.System.kept c.args.sys.now = c.create_new.ensures.kept ∙ c.names.invariant.kept in
    on_err_weaker c.placed.result (λ left t.
    kept_back o c.args.name.now (files c.args.sys.now) (files c.names.sys) (files c.create_new.new.self) (files c.placed.new.sys) (g.S.System.kept c.args.sys.now) (g.S.System.kept c.placed.new.sys)
    (c.names.invariant.files t) (free t) (made t) (λ path no other_one. c.placed.ensures.others path no other_one t) ((left t).0) apart
    (subst (λ k. (files c.placed.new.sys o ≡ None) ⊎ Rose k (g.S.System.kept c.placed.new.sys)) kept ((left t).1))
    ) c.placed.ensures.refused

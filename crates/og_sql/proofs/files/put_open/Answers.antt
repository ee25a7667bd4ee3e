use Rattle.std.proofs.Common.{◌++◌, ◌∷◌, [], Some, ap, subst, sym, ◌∙◌}
use Rattle.std.specs.Option.{option_map}
use Rattle.og_db.specs.Effects.{reopened}
use Rattle.og_outline.specs.Outlines.{IsOutlineOf}
use Rattle.og_sql.proofs.FileSteps.{open-saved}
use Rattle.og_sql.proofs.files.put_open.Goals as goal

pub returns-in_ok-open-in-Some-clause-ends : goal.returns-in_ok-open-in-Some-clause-ends
returns-in_ok-open-in-Some-clause-ends g c start contents before held =
    open-saved start contents before c.args.outline.now _ held c.args.file.now c.args.context.number c.args.name.now c.in-Some.saved.now c.open.new.self tt (sym c.in-Some.ensures)
    (subst (λ o. IsOutlineOf o (before ++ reopened c.args.name.now c.args.file.now ∷ [])) (sym c.in_ok-open-in-Some.ensures)
    (c.one_file_in_outline.ensures.reopened c.args.outline.now before c.args.name.now c.args.file.now _ held.outline (ap (option_map (λ s. s.schema)) (sym c.in-Some.ensures) ∙ ap Some (sym c.in_ok-schema-in-Some.ensures))))

pub open_file-requires-clause-unsaved : goal.open_file-requires-clause-unsaved
open_file-requires-clause-unsaved g c = sym c.in-None.ensures

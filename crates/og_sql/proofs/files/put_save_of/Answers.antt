use Rattle.std.proofs.Common.{◌++◌, ◌∷◌, [], Some, ap, refl, subst, sym, ◌∙◌}
use Rattle.og_db.specs.Effects.{saved}
use Rattle.og_db.specs.Held.{known_of}
use Rattle.og_outline.specs.Outlines.{IsOutlineOf}
use Rattle.og_sql.proofs.FileSteps.{schema_known}
use Rattle.og_sql.proofs.files.put_save_of.Goals as goal

pub returns-clause-ends : goal.returns-clause-ends
returns-clause-ends c start contents before folder held = (
  saved c.args.name.now c.args.file.now,
  refl,
  refl,
  subst (λ o. IsOutlineOf o (before ++ saved c.args.name.now c.args.file.now ∷ [])) (sym c.in_ok-save.ensures)
      (c.one_file_in_outline.ensures.saved c.args.outline.now before c.args.context.number c.args.name.now c.args.file.now _ held.outline
      (schema_known (known_of c.args.outline.now.names c.args.name.now) _ (sym c.in-Some.ensures ∙ ap Some (sym c.in_ok-schema.ensures)))),
)

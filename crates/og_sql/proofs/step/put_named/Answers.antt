use Rattle.std.proofs.Common.{◌++◌, ◌∷◌, [], refl, subst, sym}
use Rattle.og_db.specs.Effects.{on_names}
use Rattle.og_outline.specs.Outlines.{IsOutlineOf}
use Rattle.og_sql.proofs.step.put_named.Goals as goal

pub returns-clause-ends : goal.returns-clause-ends
returns-clause-ends c of number start contents before folder held = (
  on_names (c.args.typed.now, of),
  refl,
  c.requires.inside,
  subst (λ o. IsOutlineOf o (before ++ on_names (c.args.typed.now, of) ∷ [])) (sym c.in_ok-apply.ensures.done)
      (c.one_statement_in_outline.ensures c.args.outline.now before (c.args.typed.now, of) c.names_differ.ensures held.outline),
)

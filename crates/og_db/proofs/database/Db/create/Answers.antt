use Rattle.std.proofs.Common.{◌++◌, [], ◌∷◌, ◌∙◌, ap, refl, sym, subst, arith}
use Rattle.std.proofs.lemmas.Result.{on_ok_weaker}
use Rattle.og_value.specs.Order.{row_order}
use Rattle.og_value.specs.Values.{row_at}
use Rattle.og_value.specs.declared.kind.What.TheVariants as what
use Rattle.og_rel.specs.Relations.{relation_at}
use Rattle.og_query.specs.declared.typed.Typed.TheVariants as t
use Rattle.og_db.specs.Database.{Relation, names_at}
use Rattle.og_db.specs.Held.{Held}
use Rattle.og_db.specs.Runs.{AreWithin, sizes_at}
use Rattle.og_db.specs.Statements.{name_sizes_after}
use Rattle.og_db.proofs.SizeLemmas.{within-added}
use Rattle.og_db.proofs.WorldLemmas.{all_made_of-push}
use Rattle.og_db.proofs.database.Db.create.Goals as goal

pub returns-clause-law : goal.returns-clause-law
returns-clause-law c =
    on_ok_weaker c.enter.result (λ e d day.
    ap (names_at d) (e ∙ (λ i. c.args.self.now ++ record { name = c.args.name; what = what.Table; columns = c.args.schema; rows = c.new-rel.ensures i } ∷ []))
    ∙ all_made_of-push (λ rel. relation_at row_order row_at rel d) c.args.self.now (record { name = c.args.name; what = what.Table; columns = c.args.schema; rows = [] }))
    c.enter.ensures.entered

pub returns-clause-size : goal.returns-clause-size
returns-clause-size c =
    let old = c.args.self.now in
    let added : Held Relation = record { name = c.args.name; what = what.Table; columns = c.args.schema; rows = [] } in
    on_ok_weaker c.enter.result (λ e.
    subst (λ db. AreWithin (sizes_at db) (name_sizes_after (sizes_at old) (t.Create c.args.name c.args.schema, tt)))
    (sym (e ∙ (λ i. old ++ record { name = c.args.name; what = what.Table; columns = c.args.schema; rows = c.new-rel.ensures i } ∷ [])))
    (within-added old added _ (record { name = refl; what = refl; rows = omega arith })))
    c.enter.ensures.entered

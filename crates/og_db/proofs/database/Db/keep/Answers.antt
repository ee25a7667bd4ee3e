use Rattle.std.proofs.Common.{◌++◌, [], ◌∷◌, ◌∙◌, ap, refl, sym, subst}
use Rattle.std.proofs.lemmas.Result.{on_ok_weaker}
use Rattle.og_value.specs.Order.{row_order}
use Rattle.og_value.specs.Values.{row_at}
use Rattle.og_value.specs.declared.kind.What.TheVariants as what
use Rattle.og_rel.specs.Relations.{relation_at}
use Rattle.og_query.specs.declared.typed.Typed.TheVariants as t
use Rattle.og_db.specs.Database.{Relation, names_at}
use Rattle.og_db.specs.Held.{Held}
use Rattle.og_db.specs.Runs.{AreWithin, sizes_at}
use Rattle.og_db.specs.Statements.{name_sizes_after}
use Rattle.og_db.proofs.SizeLemmas.{within-added}
use Rattle.og_db.proofs.WorldLemmas.{all_made_of-push}
use Rattle.og_db.proofs.database.Db.keep.Goals as goal

pub returns-clause-law : goal.returns-clause-law
returns-clause-law c =
    let old = c.args.self.now in
    let kept : Held Relation = record { name = c.args.name; what = what.Kept; columns = c.args.schema; rows = c.args.rel } in
    on_ok_weaker c.enter.result (λ e query same answer d day.
    ap (names_at d) e
    ∙ all_made_of-push (λ rel. relation_at row_order row_at rel d) old kept
    ∙ (λ i. names_at d old ++ record { name = c.args.name; what = what.Kept; columns = same i; rows = answer d day i } ∷ []))
    c.enter.ensures.entered

pub returns-clause-size : goal.returns-clause-size
returns-clause-size c =
    let old = c.args.self.now in
    let kept : Held Relation = record { name = c.args.name; what = what.Kept; columns = c.args.schema; rows = c.args.rel } in
    on_ok_weaker c.enter.result (λ e query same most.
    subst (λ db. AreWithin (sizes_at db) (name_sizes_after (sizes_at old) (t.Keep c.args.name query, tt))) (sym e)
    (within-added old kept _ (record { name = refl; what = ap (λ columns. (what.Kept, columns)) same; rows = most })))
    c.enter.ensures.entered

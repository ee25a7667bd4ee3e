use Rattle.std.proofs.Common.{◌≡◌, List, [], ◌∷◌, refl, ap, sym, filter, not, ◌∙◌}
use Rattle.std.specs.List.{flat_map}
use Rattle.std.specs.Option.{is_some}
use Rattle.std.proofs.lemmas.Result.{IfOk-weaker}
use Rattle.og_query.specs.declared.condition.Cond.{Cond}
use Rattle.og_plan.specs.Joins.{listed, key_of, overlap_of, overlap_joined, key_joined}
use Rattle.og_plan.specs.declared.plan.ColPair.{ColPair}
use Rattle.og_plan.specs.declared.plan.Plan.{Plan}
use Rattle.og_plan.specs.declared.plan.Plan.TheVariants.{KeyJoin}
use Rattle.og_plan.proofs.joins.joined_by.Goals as goal

-- where there are keys the join is on them
some_keys : (left right : Plan) (pairs : List ColPair) (rest : List Cond) (other : Plan) → ¬ (pairs ≡ []) → KeyJoin left right pairs rest ≡ key_joined left right pairs rest other
some_keys left right [] rest other some = absurd (some refl)
some_keys left right (pair ∷ pairs) rest other some = refl

pub returns : goal.returns
returns c =
    let left = c.args.left in
    let right = c.args.right in
    let keys = flat_map (λ part. listed (key_of c.args.kinds.now c.args.start part)) c.args.parts in
    let other = overlap_joined left right (flat_map (λ part. listed (overlap_of c.args.start part)) c.args.parts) c.args.parts in
    some_keys left right c.in_ok-pairs.pairs c.in_ok-rest.rest other (λ none. cc (c.if-is_empty.ensures.1 none))
    ∙ ap (λ pairs. key_joined left right pairs c.in_ok-rest.rest other) c.in_ok-pairs.ensures
    ∙ ap (λ rest. key_joined left right keys rest other) c.in_ok-rest.ensures

pub returns-then-is_empty : goal.returns-then-is_empty
returns-then-is_empty c =
    let left = c.args.left in
    let right = c.args.right in
    let parts = c.args.parts in
    let rest = filter (λ part. not (is_some (key_of c.args.kinds.now c.args.start part))) parts in
    let other = overlap_joined left right (flat_map (λ part. listed (overlap_of c.args.start part)) parts) parts in
    let same =
    ap (λ pairs. overlap_joined left right pairs parts) c.in_ok-overlaps.ensures
    ∙ ap (λ pairs. key_joined left right pairs rest other) (sym (c.if-is_empty.ensures.0 refl) ∙ c.in_ok-pairs.ensures) in
    IfOk-weaker c.overlap_joined.result _ _ (λ p is. is ∙ same) c.overlap_joined.ensures

use Rattle.std.proofs.Common.{◌<◌, ◌≤◌, ◌++◌, ◌∷◌, [], length, map, take, slice_index_or, ap, ap₂, subst, sym, ◌∙◌}
use Rattle.std.proofs.lemmas.List.{map-append, take_all, take_more}
use Rattle.og_query.specs.declared.query.Rest.{Rest}
use Rattle.og_view.proofs.placed.placed_cores.Goals as goal

pub rests-init : goal.rests-init
rests-init c = c.in_ok-push.ensures.items ∙ ap₂ (λ cores core. cores ++ core ∷ []) c.new-cores.ensures.items c.in_ok-new.ensures

pub rests-preserved : goal.rests-preserved
rests-preserved c =
    let rests = c.args.query.now.rest in
    let i = c.rests.rest-index in
    let rest = c.rest-item.result in
    let within = subst (λ rs. i < length rs) c.as_slice-rest-items.ensures c.rests-test.true in
    let is = c.rest-item.is ∙ ap (λ rs. slice_index_or rs i rest) c.as_slice-rest-items.ensures in
    c.in_ok-push-2.ensures.items
    ∙ ap₂ (λ cores core. cores ++ core ∷ []) c.rests.invariant c.in_ok-new-2.ensures
    ∙ ap (λ cores. c.args.query.now.first ∷ cores)
    (sym (map-append (λ (rest : Rest). rest.core) (take i rests) (rest ∷ [])) ∙ ap (map (λ (rest : Rest). rest.core)) (ap (λ one. take i rests ++ one ∷ []) is ∙ sym (take_more rests i rest within)))

pub returns : goal.returns
returns c =
    c.rests.invariant
    ∙ ap (λ rests. c.args.query.now.first ∷ map (λ rest. rest.core) rests) (take_all c.rests.rest-index c.args.query.now.rest (subst (λ rs. length rs ≤ c.rests.rest-index) c.as_slice-rest-items.ensures c.rests-test.false))

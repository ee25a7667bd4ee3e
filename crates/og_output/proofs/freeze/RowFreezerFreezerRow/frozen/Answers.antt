use Rattle.std.proofs.Common.{◌≡◌, ◌∙◌, ◌<◌, ◌+◌, ◌++◌, ◌∷◌, [], true, sym, ap, ap₂, take, length, rules}
use Rattle.std.specs.Result.{is_ok}
use Rattle.std.proofs.lemmas.List.{map-append, take_more}
use Rattle.std.proofs.lemmas.Option.{get_or_from_slice_get}
use Rattle.og_value.specs.Values.{row_at, value_at}
use Rattle.og_output.proofs.freeze.RowFreezerFreezerRow.frozen.Goals as goal

pub values-preserved : goal.values-preserved
values-preserved c e is =
    let row = c.args.row.now in
    let d = c.args.d in
    let value = c.value.result.now in
    let frozen = c.in_ok-frozen_value.field-0 in
    let within : c.values.i < length row = search rules in
    let good : is_ok c.push.result ≡ true = search rules in
    let items = rw good at c.push.ensures.items in
    let next : take (c.values.i + 1) row ≡ take c.values.i row ++ value ∷ [] =
    take_more row c.values.i value within ∙ ap (λ x. take c.values.i row ++ x ∷ []) (get_or_from_slice_get row c.values.i value value c.value.ensures) in
    ap (λ vs. row_at vs e) items ∙ map-append (λ v. value_at v e) c.values.values.items (frozen ∷ [])
    ∙ ap₂ (λ vs v. vs ++ v ∷ []) (c.values.invariant e is) (c.in_ok-frozen_value.ensures e is)
    ∙ sym (map-append (λ v. value_at v d) (take c.values.i row) (value ∷ [])) ∙ ap (λ vs. row_at vs d) (sym next)

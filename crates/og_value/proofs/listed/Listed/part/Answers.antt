use Rattle.std.proofs.Common.{◌≡◌, ◌<◌, ◌∙◌, Some, ap, length, slice_get, subst, sym}
use Rattle.std.proofs.lemmas.Option.{slice_get-get_or}
use Rattle.og_value.proofs.listed.Listed.part.Goals as goal

pub returns : goal.returns
returns g c =
    let part = c.index-as_slice-i.result in
    let within = subst (λ parts. c.args.i < length parts) (sym c.as_slice.ensures) c.requires in
    subst (λ parts. slice_get parts c.args.i ≡ Some part) c.as_slice.ensures (slice_get-get_or c.as_slice.result.now c.args.i part within ∙ ap Some (sym c.index-as_slice-i.is))

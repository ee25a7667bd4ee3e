use Rattle.std.proofs.Common.{◌≡◌, refl, sym, ◌∙◌}
use Rattle.og_change.proofs.AroundLemmas.{longest_told}
use Rattle.og_change.proofs.steady.alike_days.Goals as goal

pub returns : goal.returns
returns g c =
    let at = g.R.Instant.meaning in
    let row = c.args.row.now in
    longest_told (λ e. at row e ≡ at row c.args.d) c.in_ok-same.same c.args.d c.around.result
    (λ e r. (λ t. (c.in_ok-same.ensures e r).0 t ∙ c.in_ok-frozen.ensures e r, λ k. (c.in_ok-same.ensures e r).1 (k ∙ sym (c.in_ok-frozen.ensures e r)))) refl c.around.ensures

use Rattle.std.proofs.Common.{◌≡◌, [], ◌∷◌}
use Rattle.og_base.specs.Ranges.{holds_day}
use Rattle.og_rel.specs.Relations.{present}
use Rattle.og_change.proofs.AroundLemmas.{around-shared, begin_before}
use Rattle.og_change.proofs.StayLemmas.{one_stays}
use Rattle.og_change.proofs.steady.steady_days.Goals as goal

pub shared-requires : goal.shared-requires
shared-requires g c =
    let begin = begin_before c.around-there.result c.in_ok-alike.alike c.args.d c.around-there.ensures.one.around c.in_ok-alike.ensures.one.around in
    record { first_begins = begin.0; second_begins = begin.1 }

pub returns : goal.returns
returns g c =
    let at = g.R.Instant.meaning in
    let row = c.args.row.now in
    let days = c.args.days.now in
    let d = c.args.d in
    around-shared (λ e. holds_day days e ≡ holds_day days d) (λ e. at row e ≡ at row d) (λ e. present at ((row, days) ∷ []) e ≡ present at ((row, days) ∷ []) d) d c.around-there.result c.in_ok-alike.alike c.shared.result
    c.around-there.ensures.one c.in_ok-alike.ensures.one c.shared.ensures.range c.shared.ensures.days (λ e h k. one_stays (at row e) (at row d) (holds_day days e) (holds_day days d) h (λ _. k))

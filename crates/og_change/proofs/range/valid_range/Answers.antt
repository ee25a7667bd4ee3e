use Rattle.std.proofs.Common.{◌≡◌, refl, ap}
use Rattle.og_base.specs.Set.{set_of}
use Rattle.og_rel.specs.Relations.{present, relation_at}
use Rattle.og_change.proofs.AroundLemmas.{around-same, longest-bounded, longest_told}
use Rattle.og_change.proofs.range.valid_range.Goals as goal

pub returns-then-branch : goal.returns-then-branch
returns-then-branch g c =
    let at = g.R.Instant.meaning in
    let cmp = g.R.Fixed.Ord.cmp in
    let rel = c.args.rel.now in
    let d = c.args.d in
    longest-bounded (λ e. relation_at cmp at rel e ≡ relation_at cmp at rel d) d c.in_ok-steady.steady
    (around-same (λ e. present at rel e ≡ present at rel d) (λ e. relation_at cmp at rel e ≡ relation_at cmp at rel d) d c.in_ok-steady.steady (λ e r k. ap (set_of cmp) k) c.in_ok-steady.ensures)
    (c.in_ok-changes_beside.ensures.0 c.if-branch.true)

pub returns : goal.returns
returns g c =
    let at = g.R.Instant.meaning in
    let cmp = g.R.Fixed.Ord.cmp in
    let rel = c.args.rel.now in
    longest_told (λ e. relation_at cmp at rel e ≡ relation_at cmp at rel c.args.d) c.in_ok-same.same c.args.d c.around.result c.in_ok-same.ensures refl c.around.ensures

use Rattle.std.proofs.Common.{◌≤◌, ◌*◌, length, sym, ap, subst, ◌∙◌}
use Rattle.std.specs.List.{flat_map}
use Rattle.std.proofs.lemmas.List.{length-map}
use Rattle.std.proofs.lemmas.Result.{IfOk-weaker}
use Rattle.og_rel.specs.Pairs.{present_of_pairs}
use Rattle.og_rel.specs.Relations.{present}
use Rattle.og_ops.proofs.EachLemmas.{become_blocks}
use Rattle.og_ops.proofs.each_row.each_row_by_workers.Goals as goal

pub returns-clause-law : goal.returns-clause-law
returns-clause-law g c =
    let op = g.met.O.EachRow g.world.𝓛 g.world.𝓜 g.world.𝓡 ((λ s x. x), (λ x. x), (λ x. x), λ x. x) in
    let at = g.R.Instant.meaning in
    let becomes = g.O.EachRow.becomes c.args.op.now in
    let all = become_blocks at becomes (λ d xs ys. op.along c.args.op.now d xs ys) (g.O.EachRow.most_of_one c.args.op.now) c.as_slice.result.now c.in_ok-parts.parts.items c.in_ok-parts.ensures in
    IfOk-weaker c.one_after_another.result _ _ (λ r e d day.
    ap (λ rows. present at rows d) e ∙ all.0 d day
    ∙ ap (λ pairs. becomes d (present_of_pairs at pairs d)) (ap (flat_map (λ b. b.now)) c.as_slice.ensures.value ∙ c.in_ok-blocks.ensures)
    ∙ ap (λ rel. becomes d (present at rel d)) c.pairs.ensures) c.one_after_another.ensures

pub returns-clause-size : goal.returns-clause-size
returns-clause-size g c =
    let op = g.met.O.EachRow g.world.𝓛 g.world.𝓜 g.world.𝓡 ((λ s x. x), (λ x. x), (λ x. x), λ x. x) in
    let at = g.R.Instant.meaning in
    let most = g.O.EachRow.most_of_one c.args.op.now in
    let all = become_blocks at (g.O.EachRow.becomes c.args.op.now) (λ d xs ys. op.along c.args.op.now d xs ys) most c.as_slice.result.now c.in_ok-parts.parts.items c.in_ok-parts.ensures in
    let pairs = ap (flat_map (λ b. b.now)) c.as_slice.ensures.value ∙ c.in_ok-blocks.ensures in
    IfOk-weaker c.one_after_another.result _ _ (λ r e.
    subst (λ rows. length rows ≤ most * length c.args.rel.now) (sym e)
    (subst (λ n. length (flat_map (λ part. part) c.in_ok-parts.parts.items) ≤ most * n) (ap length pairs ∙ sym (length-map c.pairs.result.now (λ p. (p.row, p.days))) ∙ ap length c.pairs.ensures) all.1)) c.one_after_another.ensures

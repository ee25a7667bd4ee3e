use Rattle.std.proofs.Common.{◌≡◌, ◌∙◌, ◌-◌, suc, get_or, Less, arith, refl, sym, ap, ap₂}
use Rattle.og_base.proofs.SetLemmas.{rises, next_above}
use Rattle.og_base.proofs.set.rise.Goals as goal

pub returns-then-ne : goal.returns-then-ne
returns-then-ne g c = (
  λ h. cc,
  λ up.
      let place : c.values.i ≡ suc (c.values.i - 1) = omega (arith, c.values.auto.i) in
      let second = c.index-values-i-in-values.is ∙ ap (λ k. get_or c.args.values.now k c.index-values-i-in-values.result) place in
      let above = next_above g.met.T.Ord.total c.args.values.now (c.values.i - 1) c.index-values-i.result c.index-values-i-in-values.result (omega (arith, place, c.values-test.true)) up in
      let less : c.cmp.result ≡ Less = c.cmp.ensures ∙ ap₂ g.T.Ord.cmp c.index-values-i.is second ∙ above in
      cc (sym c.if-ne.true ∙ (rw less at c.ne.ensures)),
)

pub returns : goal.returns
returns g c = (
  λ _. rises g.met.T.Ord.total c.args.values.now c.values.i (omega (arith, c.values-test.false, c.values.auto.i-end, c.values.auto.i)) c.values.invariant,
  λ _. refl,
)

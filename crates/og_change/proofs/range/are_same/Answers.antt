use Rattle.std.proofs.Common.{◌≡◌, true, sym, subst, ◌∙◌}
use Rattle.std.proofs.lemmas.Slice.Eq.{slice_eq-Decides}
use Rattle.og_base.proofs.SetLemmas.{eq_by_cmp-exact}
use Rattle.og_change.proofs.range.are_same.Goals as goal

pub returns : goal.returns
returns g c =
    let eq = g.F.PartialEq.eq in
    slice_eq-Decides {E = eq} (λ x y. (λ e. eq_by_cmp-exact c.requires.exact x y (sym (g.met.F.Ord.matches_eq x y) ∙ e), λ e. subst (λ z. eq x z ≡ true) e (g.met.F.Eq.laws.refl x)))
    c.args.first.now c.args.second.now c.eq.result c.eq.ensures

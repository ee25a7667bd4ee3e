use Rattle.std.proofs.Common.{◌≡◌, get_or, inl, inr, sym, subst, true≢false, ◌∙◌, arith}
use Rattle.std.proofs.lemmas.Bool.{cases_lt, eq-eqb}
use Rattle.og_reduce.proofs.FoundLemmas.{rising-order}
use Rattle.og_reduce.proofs.stored.is_place.Goals as goal

pub returns-then-k-at-clause-no : goal.returns-then-k-at-clause-no
returns-then-k-at-clause-no c end are other j there is =
    let at = c.args.at.now in
    let k = c.args.k in
    let i = c.args.i in
    let least = c.requires.behind c.if-k-at.true in
    elim (cases_lt j k) [
      | inl before ↦ let less = c.requires.before j before in omega (arith, less, is)
      | inr behind ↦ elim (cases_lt k j) [
        | inl after ↦ let less = rising-order 0 at end k j are after there in omega (arith, less, least, is)
        | inr same ↦
            let here : get_or at k 0 ≡ i = subst (λ n. get_or at n 0 ≡ i) (omega (arith, behind, same)) is in
            true≢false (sym (eq-eqb (get_or at k 0) i here) ∙ other)
      ]
    ]

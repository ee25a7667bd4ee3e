use Rattle.std.proofs.Common.{◌≡◌, ◌&&◌, ◌∙◌, false, true, ap, subst, sym}
use Rattle.og_value.specs.Heads.{number_at}
use Rattle.og_reduce.specs.Numbers.{AreBetween}
use Rattle.og_reduce.specs.RangeTests.{is_within}
use Rattle.og_reduce.specs.Sieves.{Keys, row_meets}
use Rattle.og_reduce.proofs.SieveLemmas.{range_tells}
use Rattle.og_reduce.proofs.sieve.Test.range.Goals as goal

pub returns : goal.returns
returns c row out =
    let range = c.range_in.result in
    let place = c.self.inside.column in
    let here : is_within range.least range.greatest (number_at row place) ≡ false = ap (λ column. is_within range.least range.greatest (number_at row column)) (sym c.range_in.ensures.column) ∙ out in
    let bounds = subst (λ (keys : Keys). AreBetween range.least range.greatest keys.0) c.keys.view_is c.range_in.ensures.bounds in
    ap (λ b. b && true) (ap (row_meets row) (sym c.self.view_is) ∙ range_tells c.self.inside.keys.now range.least range.greatest place row bounds here)

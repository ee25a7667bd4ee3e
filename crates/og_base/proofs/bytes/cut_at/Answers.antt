use Rattle.std.proofs.Common.{◌∙◌, sym, arith}
use Rattle.og_base.proofs.ByteLemmas.{lacks-position, cut-position}
use Rattle.og_base.proofs.bytes.cut_at.Goals as goal

pub returns-in_err-place-clause-lacking : goal.returns-in_err-place-clause-lacking
returns-in_err-place-clause-lacking c = rw c.from_residual.ensures (lacks-position c.args.byte 0 c.args.text.now (sym c.place_of.ensures ∙ c.in_err-place.was))

pub split_at-requires : goal.split_at-requires
split_at-requires c =
    let at = cut-position c.args.byte c.args.text.now c.in_ok-place.place (sym c.place_of.ensures ∙ c.in_ok-place.was) in
    omega (arith, at.within)

pub split_at-requires-2 : goal.split_at-requires-2
split_at-requires-2 c =
    let at = cut-position c.args.byte c.args.text.now c.in_ok-place.place (sym c.place_of.ensures ∙ c.in_ok-place.was) in
    omega (arith, at.within, c.split_at.ensures.back_len)

pub returns-clause-cut : goal.returns-clause-cut
returns-clause-cut c =
    let at = cut-position c.args.byte c.args.text.now c.in_ok-place.place (sym c.place_of.ensures ∙ c.in_ok-place.was) in
    rw (c.split_at.ensures.front, c.split_at-2.ensures.back, c.split_at.ensures.back) at.cut

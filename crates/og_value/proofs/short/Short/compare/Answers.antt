use Rattle.std.proofs.Common.{length, sym, ap, ◌∙◌, arith}
use Rattle.std.proofs.lemmas.Cmp.{nat_list_cmp_total}
use Rattle.std.specs.Ordering.{nat_cmp, ordering_reverse}
use Rattle.og_value.specs.HeightLaws.{spelt_first}
use Rattle.og_value.proofs.SpellingLemmas.{spelt-same}
use Rattle.og_value.proofs.short.Short.compare.Goals as goal

pub returns-then-number-other_number : goal.returns-then-number-other_number
returns-then-number-other_number c =
    sym (spelt_first 14 0 c.args.self.now c.args.other.now c.spelt-number.ensures.bytes c.spelt-other_number.ensures.bytes
    (omega (arith, c.if-number-other_number.true, c.spelt-number.ensures.number, c.spelt-other_number.ensures.number)))

pub returns-then-other_number-number : goal.returns-then-other_number-number
returns-then-other_number-number c =
    sym (nat_list_cmp_total.antisymm c.args.self.now c.args.other.now
    ∙ ap ordering_reverse
    (spelt_first 14 0 c.args.other.now c.args.self.now c.spelt-other_number.ensures.bytes c.spelt-number.ensures.bytes
    (omega (arith, c.if-other_number-number.true, c.spelt-number.ensures.number, c.spelt-other_number.ensures.number))))

pub returns : goal.returns
returns c =
    c.cmp.ensures
    ∙ (λ j. nat_cmp (length (c.bytes.ensures.bytes j)) (length (c.bytes-2.ensures.bytes j)))
    ∙ sym
    (spelt-same 14 0 c.args.self.now c.args.other.now c.spelt-number.ensures.bytes c.spelt-other_number.ensures.bytes c.bytes.ensures.short c.bytes-2.ensures.short
    (omega (arith, c.if-number-other_number.false, c.if-other_number-number.false, c.spelt-number.ensures.number, c.spelt-other_number.ensures.number)))

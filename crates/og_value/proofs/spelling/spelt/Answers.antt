use Rattle.std.proofs.Common.{◌+◌, ◌*◌, ◌^◌, [], ◌∷◌, ◌∙◌, ap₂}
use Rattle.std.specs.Int.{w64, from_be_bytes}
use Rattle.og_value.proofs.SpellingLemmas.{spelt-words}
use Rattle.og_value.proofs.spelling.spelt.Goals as goal

pub returns-clause-number : goal.returns-clause-number
returns-clause-number c =
    ap₂ (λ high low. high * 2 ^ 48 + low)
    (c.from.ensures ∙ c.from_be_bytes-high.ensures
    ∙ (λ j. from_be_bytes w64 (c.byte_at.ensures j ∷ c.byte_at-2.ensures j ∷ c.byte_at-3.ensures j ∷ c.byte_at-4.ensures j ∷ c.byte_at-5.ensures j ∷ c.byte_at-6.ensures j ∷ c.byte_at-7.ensures j ∷ c.byte_at-8.ensures j ∷ [])))
    (c.from-2.ensures ∙ c.from_be_bytes-low.ensures
    ∙ (λ j. from_be_bytes w64 (0 ∷ 0 ∷ c.byte_at-9.ensures j ∷ c.byte_at-10.ensures j ∷ c.byte_at-11.ensures j ∷ c.byte_at-12.ensures j ∷ c.byte_at-13.ensures j ∷ c.byte_at-14.ensures j ∷ [])))
    ∙ spelt-words c.args.bytes.now

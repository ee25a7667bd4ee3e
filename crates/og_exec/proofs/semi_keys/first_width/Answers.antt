use Rattle.std.proofs.Common.{◌≡◌, List, [], ◌∷◌, length, slice_index_or, refl, ap, ◌∙◌}
use Rattle.og_base.specs.Ranges.{Range}
use Rattle.og_value.specs.declared.value.Value.{Value}
use Rattle.og_exec.specs.SemiKeys.{first_width}
use Rattle.og_exec.specs.Tables.{Relation}
use Rattle.og_exec.proofs.semi_keys.first_width.Goals as goal

-- what stands at place 0, where something does, is the first row
first_is : (rel : Relation) (row : List Value) → (length rel ≡ 0 → ⊥) → ((p : List Value × List Range) → row ≡ (slice_index_or rel 0 p).0) → length row ≡ first_width rel
first_is [] row some is = absurd (some refl)
first_is (p ∷ rel) row some is = ap length (is p)

pub returns-else-len-eq0 : goal.returns-else-len-eq0
returns-else-len-eq0 c = c.len-else-len-eq0.ensures ∙ first_is c.args.rel.now c.row.result.now (λ e. c.if-len-eq0.false (c.len.ensures ∙ e)) c.row.ensures

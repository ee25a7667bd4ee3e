use Rattle.std.proofs.Common.{ap, subst, sym, ◌++◌, ◌∷◌, ◌∙◌, [], append_assoc}
use Rattle.og_time.specs.Period.{bracketed}
use Rattle.og_base.specs.Calendar.{IsExtDay, day_text}
use Rattle.og_output.proofs.FieldLemmas.{period_field, plain_lacking}
use Rattle.og_output.proofs.rows.push_period.Goals as goal

pub returns : goal.returns
returns c =
    let texts = c.one_text_a_day.ensures in
    let first = day_text c.args.period.start in
    let last = day_text c.args.period.end in
    let is_first = plain_lacking first (λ b less. texts.bytes first c.args.period.start b less (texts.written c.args.period.start (subst IsExtDay c.number.ensures.value c.number.ensures.range))) in
    let is_last = plain_lacking last (λ b less. texts.bytes last c.args.period.end b less (texts.written c.args.period.end (subst IsExtDay c.number-2.ensures.value c.number-2.ensures.range))) in
    let text = bracketed first last in
    c.in_ok-push-2.ensures.items ∙ ap (λ t. t ++ 34 ∷ []) (c.in_ok-write_fixed.ensures.written ∙ ap (λ t. t ++ text) c.in_ok-push.ensures.items)
    ∙ ap (λ t. t ++ 34 ∷ []) (append_assoc c.args.out.now.items (34 ∷ []) text) ∙ append_assoc c.args.out.now.items (34 ∷ text) (34 ∷ [])
    ∙ ap (λ t. c.args.out.now.items ++ t) (sym (period_field first last is_first is_last))

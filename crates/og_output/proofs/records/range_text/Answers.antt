use Rattle.std.proofs.Common.{◌++◌, ◌∷◌, ◌∙◌, [], ap, sym, codes}
use Rattle.csv.specs.Writing.{default_writer, row_text}
use Rattle.og_base.specs.Calendar.{day_text}
use Rattle.og_base.specs.SetTexts.{lower_text}
use Rattle.og_output.proofs.RecordLemmas.{records-one, records-push}
use Rattle.og_output.proofs.records.range_text.Goals as goal

pub returns : goal.returns
returns c =
    let head = codes "from" ∷ codes "to" ∷ [] in
    let ends = lower_text c.args.range.lo ∷ day_text c.args.range.hi ∷ [] in
    let names = c.in_ok-push_two.ensures ∙ ap (λ t. t ++ row_text default_writer head) c.new-text.ensures.items ∙ sym (records-one head) in
    let first = c.as_slice.ensures.value ∙ c.in_ok-first.ensures in
    let last = c.as_slice-2.ensures.value ∙ c.in_ok-last.ensures in
    c.in_ok-push_two-2.ensures ∙ (λ i. c.push_two.new.out.items ++ row_text default_writer (first i ∷ last i ∷ []))
    ∙ ap (λ t. t ++ row_text default_writer ends) names ∙ sym (records-push (head ∷ []) ends)

use Rattle.std.proofs.Common.{[], ◌∷◌, sym, ap, ◌∙◌, rules}
use Rattle.std.proofs.lemmas.List.{append-nil}
use Rattle.og_value.specs.Values.{row_at}
use Rattle.og_rel.specs.Pairs.{present_of_pairs}
use Rattle.og_output.specs.declared.sights.Listed.{Listed}
use Rattle.og_output.proofs.OrderedLemmas.{listed_alone}
use Rattle.og_output.proofs.PutLemmas.{rows_text}
use Rattle.og_output.proofs.sights.OnDayPieceRefSlicePairRow.make.Goals as goal

pub returns : goal.returns
returns c =
    let present = present_of_pairs row_at c.args.item.now.now c.args.self.now.day in
    let rows = c.in_ok-rows.rows in
    let text = c.in_ok-text.text in
    let listed : Listed = record { rows = rows; text = text } in (
      listed ∷ [],
      (
        listed_alone c.order_of_sights.ensures.exact.total present rows c.in_ok-rows.ensures,
        λ wanted. append-nil text.items ∙ c.in_ok-text.ensures wanted ∙ ap rows_text (c.as_slice.ensures.value ∙ sym (append-nil rows.items)),
      ),
      search rules,
    )

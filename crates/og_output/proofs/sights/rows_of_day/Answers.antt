use Rattle.std.proofs.Common.{map, ap, subst, sym, ◌∙◌, rules}
use Rattle.std.specs.List.{All, flat_map}
use Rattle.std.specs.List.Sorted.{IsStrictlySortedBy}
use Rattle.std.proofs.lemmas.Option.{IfSome_then}
use Rattle.og_base.specs.Set.{set_of}
use Rattle.og_base.proofs.SetLemmas.{set_of-rising}
use Rattle.og_value.specs.Order.{row_order}
use Rattle.og_value.specs.Values.{row_at}
use Rattle.og_rel.specs.Pairs.{present_of_pairs}
use Rattle.og_rel.specs.Relations.{relation_at}
use Rattle.og_rel.specs.Shares.{rows_of}
use Rattle.og_output.proofs.ListedLemmas.{lists_made, texts_apart, texts_made}
use Rattle.og_output.proofs.OrderedLemmas.{listed_lists}
use Rattle.og_output.proofs.PutLemmas.{rows_text}
use Rattle.og_output.proofs.sights.rows_of_day.Goals as goal

pub returns-then-not-are_in_order-clause-rows : goal.returns-then-not-are_in_order-clause-rows
returns-then-not-are_in_order-clause-rows g c =
    let o = c.order_of_sights.ensures.exact in
    let made = c.in_ok-made.made.items in
    let all = ap (flat_map (λ b. b.now)) c.as_slice.ensures.value ∙ c.in_ok-blocks.ensures in
    let listed = listed_lists o row_at c.args.day c.as_slice.result.now (map (λ l. l.rows) made) (lists_made c.args.day _ c.as_slice.result.now made c.in_ok-made.ensures) in
    c.in_ok-lists-2.ensures ∙ ap (λ lists. set_of row_order (rows_of lists)) c.in_ok-lists.ensures.lists ∙ listed.0
    ∙ ap (λ pairs. set_of row_order (present_of_pairs row_at pairs c.args.day)) all
    ∙ ap (λ rel. relation_at row_order row_at rel c.args.day) c.pairs-pairs.ensures

pub returns-clause-rows : goal.returns-clause-rows
returns-clause-rows g c =
    let o = c.order_of_sights.ensures.exact in
    let made = c.in_ok-made.made.items in
    let all = ap (flat_map (λ b. b.now)) c.as_slice.ensures.value ∙ c.in_ok-blocks.ensures in
    let listed = listed_lists o row_at c.args.day c.as_slice.result.now (map (λ l. l.rows) made) (lists_made c.args.day _ c.as_slice.result.now made c.in_ok-made.ensures) in
    let lists = c.as_slice-2.ensures.value ∙ c.in_ok-lists.ensures.lists in
    let rises = c.are_in_order.ensures (search rules) (subst (All (λ list. IsStrictlySortedBy row_order list.items)) (sym lists) listed.1) in
    ap rows_of (sym c.as_slice-2.ensures.value) ∙ sym (set_of-rising o (rows_of c.as_slice-2.result.now) rises) ∙ ap (λ ls. set_of row_order (rows_of ls)) lists ∙ listed.0
    ∙ ap (λ pairs. set_of row_order (present_of_pairs row_at pairs c.args.day)) all
    ∙ ap (λ rel. relation_at row_order row_at rel c.args.day) c.pairs-pairs.ensures

pub returns-clause-texts : goal.returns-clause-texts
returns-clause-texts g c =
    let made = c.in_ok-made.made.items in
    IfSome_then c.texts_where-texts.result c.texts_where-texts.ensures (λ all h.
    ap (flat_map (λ text. text.items)) (ap (λ texts. texts.items) h.1 ∙ c.in_ok-lists.ensures.texts) ∙ texts_apart made
    ∙ texts_made c.args.day _ c.as_slice.result.now made c.in_ok-made.ensures h.0 ∙ ap rows_text (ap rows_of (sym c.in_ok-lists.ensures.lists)))

use Rattle.std.proofs.Common.{◌≡◌, ◌++◌, [], ◌∷◌, ◌∙◌, List, map, append_assoc, append-nil, ap, sym, if◌then◌else◌}
use Rattle.std.proofs.lemmas.Map.Iter.{rest_all, rest_more}
use Rattle.std.specs.Map.Iter.{deref_pair}
use Rattle.og_outline.specs.Known.{known_held}
use Rattle.og_outline.specs.Outlines.{ending_names}
use Rattle.og_outline.proofs.EntryLemmas.{Entry, ending-push}
use Rattle.og_outline.proofs.outline.Outline.ending.Goals as goal

-- the entry of this turn is the first of those that are left
moved : (before left after : List Entry) (e : Entry) → left ≡ e ∷ after → map known_held (before ++ left) ≡ map known_held ((before ++ e ∷ []) ++ after)
moved before left after e more = ap (map known_held) (ap (λ rest. before ++ rest) more ∙ sym (append_assoc before (e ∷ []) after))

pub names-init : goal.names-init
names-init c = (
  [],
  sym (ap (λ o. o.names) c.self.view_is) ∙ ap (map known_held) (sym (c.into_iter-key-iterator.ensures.into_iter_gives ∙ c.iter-key-items.ensures.rest)),
  c.new-names.ensures.items,
)

pub names-preserved-in_ok-push : goal.names-preserved-in_ok-push
names-preserved-in_ok-push c =
    let inv = c.names.invariant in
    let e : Entry = (c.in-Some.key.now, c.in-Some.known.now) in
    let more = rest_more deref_pair c.names.key-iterator c.next.new.self c.next.result (c.in-Some.key, c.in-Some.known) c.in-Some.is c.next.ensures.steps in (
      inv.0 ++ e ∷ [],
      inv.1 ∙ moved inv.0 c.names.key-iterator c.next.new.self e more,
      c.in_ok-push.ensures.items
          ∙ (λ i. inv.2 i ++ c.in_ok-copy.ensures i ∷ [])
          ∙ ap (λ b. ending_names c.args.name.now (map known_held inv.0) ++ (if b then e.0 ∷ [] else [])) c.if-ends_beside.ensures
          ∙ sym (ending-push c.args.name.now inv.0 e),
    )

pub names-preserved : goal.names-preserved
names-preserved c =
    let inv = c.names.invariant in
    let e : Entry = (c.in-Some.key.now, c.in-Some.known.now) in
    let more = rest_more deref_pair c.names.key-iterator c.next.new.self c.next.result (c.in-Some.key, c.in-Some.known) c.in-Some.is c.next.ensures.steps in (
      inv.0 ++ e ∷ [],
      inv.1 ∙ moved inv.0 c.names.key-iterator c.next.new.self e more,
      inv.2
          ∙ sym (append-nil (ending_names c.args.name.now (map known_held inv.0)))
          ∙ ap (λ b. ending_names c.args.name.now (map known_held inv.0) ++ (if b then e.0 ∷ [] else [])) c.if-ends_beside.ensures
          ∙ sym (ending-push c.args.name.now inv.0 e),
    )

pub returns : goal.returns
returns c =
    let inv = c.names.invariant in
    let none = rest_all deref_pair c.names.key-iterator c.next.new.self c.next.result c.in-None.is c.next.ensures.steps in
    inv.2 ∙ ap (ending_names c.args.name.now) (sym (inv.1 ∙ ap (map known_held) (ap (λ rest. inv.0 ++ rest) none ∙ append-nil inv.0)))

use Rattle.std.proofs.Common.{◌≡◌, ◌++◌, ◌∷◌, [], ◌+◌, ℕ, length, take, suc, ap, sym, ◌∙◌, arith}
use Rattle.std.proofs.lemmas.List.{length-append, take_all, take_more}
use Rattle.og_view.specs.Placed.{letters, placed, placed_from}
use Rattle.og_view.proofs.PlacedLemmas.{letters-push, placed_from-push}
use Rattle.og_view.proofs.placed.placed_tables.Goals as goal

-- one more letter than there were tables
more_letters : (n k : ℕ) → n ≡ k + 1 → letters n ≡ letters k ++ 112 ∷ []
more_letters n k e = let more : n ≡ suc k = omega (arith, e) in ap letters more ∙ sym (letters-push k)

-- nothing and a number
nothing_and : (k : ℕ) → k ≡ 0 + k
nothing_and k = omega arith

pub name_of-requires : goal.name_of-requires
name_of-requires c =
    let k = length (take c.tables.table-index c.args.tables.now) in
    (k, c.as_slice.ensures.value ∙ c.in_ok-push.ensures.items ∙ ap (λ text. text ++ 112 ∷ []) c.tables.invariant.0 ∙ sym (more_letters (k + 1) k (omega arith)))

pub tables-preserved : goal.tables-preserved
tables-preserved c =
    let i = c.tables.table-index in
    let before = take i c.args.tables.now in
    let table = c.table-item.result in
    let more = take_more c.args.tables.now i table c.tables-test.true ∙ ap (λ one. before ++ one ∷ []) (sym c.table-item.is) in
    let text = ap (λ text. text ++ 112 ∷ []) c.tables.invariant.0 in
    let count : length (before ++ table ∷ []) ≡ length before + 1 = length-append before (table ∷ []) in (
      c.in_ok-push.ensures.items ∙ text ∙ sym (more_letters (length (before ++ table ∷ [])) (length before) count) ∙ sym (ap (λ tables. letters (length tables)) more),
      c.in_ok-push-2.ensures.ok
          ∙ (λ j. c.tables.invariant.1 j ++ record { name = (c.in_ok-name.ensures ∙ c.as_slice.ensures.value ∙ c.in_ok-push.ensures.items ∙ text ∙ letters-push (length before)) j; schema = c.in_ok-schema.ensures j } ∷ [])
          ∙ ap (λ k. placed_from 0 before ++ placed k table ∷ []) (nothing_and (length before))
          ∙ sym (placed_from-push 0 before table)
          ∙ sym (ap (placed_from 0) more),
    )

pub returns : goal.returns
returns c = c.tables.invariant.1 ∙ ap (placed_from 0) (take_all c.tables.table-index c.args.tables.now c.tables-test.false)

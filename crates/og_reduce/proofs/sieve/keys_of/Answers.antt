use Rattle.std.proofs.Common.{◌∷◌, [], length, slice_index_or, ap, ◌∙◌, arith}
use Rattle.og_reduce.specs.Sieves.{row_meets, row_passes, tests_from}
use Rattle.og_reduce.proofs.SieveLemmas.{row_passes-push}
use Rattle.og_reduce.proofs.sieve.keys_of.Goals as goal
use Rattle.std.proofs.lemmas.List.{length-append}

pub columns-preserved : goal.columns-preserved
columns-preserved c =
    let keys = c.columns.keys.items in
    let one = c.in_ok-of.field-0 in
    let items = c.in_ok-push.ensures.items in (
      omega (arith, ap length items, length-append keys (one ∷ []), c.columns.invariant.0),
      λ k d within.
          let row = (slice_index_or c.args.rows.now k d).0 in
          ap (λ keys. row_passes (tests_from 0 keys) row) items
          ∙ row_passes-push keys one row (c.columns.invariant.1 k d within) (ap (λ n. row_meets row (n, one)) c.columns.invariant.0 ∙ c.in_ok-of.ensures k d within),
    )

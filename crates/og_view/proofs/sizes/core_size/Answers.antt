use Rattle.std.proofs.Common.{◌≡◌, ◌+◌, ◌*◌, ◌-◌, ◌^◌, ◌++◌, ◌∷◌, [], ℕ, fold, take, min, ap, sym, ◌∙◌, arith}
use Rattle.std.proofs.lemmas.List.{take_all, take_more}
use Rattle.std.proofs.lemmas.List.Sums.{fold-append}
use Rattle.og_query.specs.declared.query.From1.{From1}
use Rattle.og_exec.specs.Tables.{sizes_of}
use Rattle.og_db.specs.Deltas.{after_at}
use Rattle.og_db.specs.Held.{rows_of}
use Rattle.og_view.proofs.SizeLemmas.{product-capped}
use Rattle.og_view.proofs.sizes.core_size.Goals as goal

pub tables-init : goal.tables-init
tables-init c = omega arith

pub tables-preserved : goal.tables-preserved
tables-preserved c =
    let sizes = sizes_of (rows_of (after_at c.args.over.now.name.now c.args.over.now.delta.now c.args.over.now.tables.now)) in
    let times : ℕ → From1 → ℕ = λ size table. size * sizes table.name in
    let items = c.as_slice-table-items.result.now in
    let i = c.tables.table-index in
    let table = c.table-item.result in
    let so_far = fold times 1 (take i items) in
    let next : fold times 1 (take (i + 1) items) ≡ so_far * sizes table.name =
    ap (fold times 1) (take_more items i table c.tables-test.true ∙ ap (λ one. take i items ++ one ∷ []) (sym c.table-item.is)) ∙ fold-append times 1 (take i items) (table ∷ []) in
    c.saturating_mul-size.ensures
    ∙ (λ k. min (c.tables.invariant k * c.len_after.ensures k) (2 ^ 64 - 1))
    ∙ product-capped so_far (sizes table.name) (2 ^ 64 - 1)
    ∙ ap (λ n. min n (2 ^ 64 - 1)) (sym next)

pub returns : goal.returns
returns c =
    let sizes = sizes_of (rows_of (after_at c.args.over.now.name.now c.args.over.now.delta.now c.args.over.now.tables.now)) in
    c.tables.invariant
    ∙ ap (λ tables. min (fold (λ size table. size * sizes table.name) 1 tables) (2 ^ 64 - 1))
    (take_all c.tables.table-index c.as_slice-table-items.result.now c.tables-test.false ∙ c.as_slice-table-items.ensures)

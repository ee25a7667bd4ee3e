use Rattle.std.proofs.Common.{◌≡◌, ◌+◌, ◌-◌, ◌^◌, ◌++◌, ◌∷◌, [], ℕ, fold, min, take, ap, sym, ◌∙◌}
use Rattle.std.proofs.lemmas.List.{take_all, take_more}
use Rattle.std.proofs.lemmas.List.Sums.{fold-append}
use Rattle.og_query.specs.Sizes.{combined_size, core_size}
use Rattle.og_query.specs.declared.query.Rest.{Rest}
use Rattle.og_exec.specs.Tables.{sizes_of}
use Rattle.og_db.specs.Deltas.{after_at}
use Rattle.og_db.specs.Held.{rows_of}
use Rattle.og_view.proofs.SizeLemmas.{combined-capped}
use Rattle.og_view.proofs.sizes.size_of.Goals as goal

pub rests-init : goal.rests-init
rests-init c = c.core_size-size.ensures

pub rests-preserved : goal.rests-preserved
rests-preserved c =
    let sizes = sizes_of (rows_of (after_at c.args.over.now.name.now c.args.over.now.delta.now c.args.over.now.tables.now)) in
    let more : ℕ → Rest → ℕ = λ size rest. combined_size rest.op size (core_size sizes rest.core) in
    let items = c.as_slice-rest-items.result.now in
    let i = c.rests.rest-index in
    let rest = c.rest-item.result in
    let first = core_size sizes c.args.query.now.first in
    let so_far = fold more first (take i items) in
    let next : fold more first (take (i + 1) items) ≡ more so_far rest =
    ap (fold more first) (take_more items i rest c.rests-test.true ∙ ap (λ one. take i items ++ one ∷ []) (sym c.rest-item.is)) ∙ fold-append more first (take i items) (rest ∷ []) in
    c.combined_size-size.ensures
    ∙ (λ k. min (combined_size rest.op (c.rests.invariant k) (c.core_size.ensures k)) (2 ^ 64 - 1))
    ∙ combined-capped rest.op so_far (core_size sizes rest.core) (2 ^ 64 - 1)
    ∙ ap (λ n. min n (2 ^ 64 - 1)) (sym next)

pub returns : goal.returns
returns c =
    let sizes = sizes_of (rows_of (after_at c.args.over.now.name.now c.args.over.now.delta.now c.args.over.now.tables.now)) in
    c.rests.invariant
    ∙ ap (λ rests. min (fold (λ size rest. combined_size rest.op size (core_size sizes rest.core)) (core_size sizes c.args.query.now.first) rests) (2 ^ 64 - 1))
    (take_all c.rests.rest-index c.as_slice-rest-items.result.now c.rests-test.false ∙ c.as_slice-rest-items.ensures)

use Rattle.std.proofs.Common.{◌≡◌, ◌++◌, Err, ap, ap₂, subst, sym, ◌∙◌}
use Rattle.std.specs.Prelude.{IfSome}
use Rattle.std.specs.List.{flat_map}
use Rattle.std.proofs.lemmas.Result.{err_from_is_err_and}
use Rattle.og_faults.proofs.CountLemmas.{fault_after}
use Rattle.og_io.specs.declared.sink.PutRefusal.TheVariants as puts
use Rattle.og_rel.specs.Shares.{rows_of}
use Rattle.og_output.specs.Records.{layout}
use Rattle.og_output.proofs.PutLemmas.{layout-parts, none_of, put_after, put_within, rows_text}
use Rattle.og_output.proofs.puts.put_layout.Goals as goal

pub returns-in_err-put-clause-put : goal.returns-in_err-put-clause-put
returns-in_err-put-clause-put g c =
    let p = err_from_is_err_and c.from_residual-in_err-put.result c.from_residual-in_err-put.ensures.1 in
    let header = sym (c.as_slice.ensures.value ∙ c.in_ok-header.ensures) in
    let rows = rows_of c.args.rows.now.lists.items in
    let parts = layout-parts c.args.columns.now rows ∙ ap (λ t. t ++ rows_text rows) header in
    rw (p.1, p.2) (put_within _ _ c.as_slice.result.now _ _ c.in_err-put.field-0.0 parts c.in_err-put.ensures.put)

pub returns-in_err-blocks-clause-put : goal.returns-in_err-blocks-clause-put
returns-in_err-blocks-clause-put g c =
    let p = err_from_is_err_and c.from_residual-in_err-blocks.result c.from_residual-in_err-blocks.ensures.1 in
    let header = sym (c.as_slice.ensures.value ∙ c.in_ok-header.ensures) in
    let rows = rows_of c.args.rows.now.lists.items in
    let parts = layout-parts c.args.columns.now rows ∙ ap (λ t. t ++ rows_text rows) header in
    rw (p.1, p.2) (put_after (g.K.Sink.written c.args.out.now) (g.K.Sink.written c.put.new.out) (g.K.Sink.written c.put.new.out) c.as_slice.result.now (rows_text rows) _ (Err puts.NoMemory) parts c.in_ok-put.ensures.put
    (none_of (g.K.Sink.written c.put.new.out) (rows_text rows)))

pub returns-in-Some-clause-put : goal.returns-in-Some-clause-put
returns-in-Some-clause-put g c =
    let header = sym (c.as_slice.ensures.value ∙ c.in_ok-header.ensures) in
    let rows = rows_of c.args.rows.now.lists.items in
    let texts = ap (flat_map (λ text. text.items)) c.as_slice-in-Some.ensures.value ∙ subst (λ o. IfSome o (λ texts. flat_map (λ text. text.items) texts.items ≡ rows_text rows)) c.in-Some.is c.requires.texts in
    let parts = layout-parts c.args.columns.now rows ∙ ap₂ (λ first rest. first ++ rest) header (sym texts) in
    put_after _ _ _ c.as_slice.result.now _ _ c.put_texts.result parts c.in_ok-put.ensures.put c.put_texts.ensures.put

pub returns-clause-put : goal.returns-clause-put
returns-clause-put g c =
    let header = sym (c.as_slice.ensures.value ∙ c.in_ok-header.ensures) in
    let rows = flat_map (λ b. b.now) c.as_slice-3.result.now in
    let all = ap (flat_map (λ b. b.now)) c.as_slice-3.ensures.value ∙ c.in_ok-blocks.ensures ∙ ap rows_of c.as_slice-2.ensures.value in
    let parts = ap (layout c.args.columns.now) (sym all) ∙ layout-parts c.args.columns.now rows ∙ ap (λ t. t ++ rows_text rows) header in
    put_after _ _ _ c.as_slice.result.now _ _ c.put_blocks.result parts c.in_ok-put.ensures.put c.put_blocks.ensures.put

pub returns-clause-counted : goal.returns-clause-counted
returns-clause-counted g c = fault_after _ _ _ _ c.in_ok-put.ensures.counted c.put_blocks.ensures.counted

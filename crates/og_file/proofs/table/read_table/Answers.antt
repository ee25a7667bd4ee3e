use Rattle.std.proofs.Common.{◌∙◌, ◌∷◌, [], inl, inr, sym}
use Rattle.std.proofs.lemmas.Result.{IfOk-weaker, IfErr-weaker}
use Rattle.csv.specs.Records.{fields_of}
use Rattle.og_file.proofs.TableLemmas.{begins}
use Rattle.og_file.proofs.table.read_table.Goals as goal

pub returns-then-not-branch-clause-fault : goal.returns-then-not-branch-clause-fault
returns-then-not-branch-clause-fault g c = inl (rw c.if-not-branch.true at (c.in_ok-read_next.ensures c.args.bytes.now [] c.reader_of-reader.ensures))

pub returns-then-not-has_names-clause-fault : goal.returns-then-not-has_names-clause-fault
returns-then-not-has_names-clause-fault g c =
    let fields = fields_of c.read_next.new.fields in
    inr (
      fields,
      begins c.args.bytes.now (fields ∷ []) c.read_next.new.reader (rw c.if-not-branch.false at (c.in_ok-read_next.ensures c.args.bytes.now [] c.reader_of-reader.ensures)),
      λ named. cc (sym c.if-not-has_names.true ∙ c.has_names.ensures.1 named),
    )

pub returns-clause-rows : goal.returns-clause-rows
returns-clause-rows g c =
    let fields = fields_of c.read_next.new.fields in
    let has = rw c.if-not-branch.false at (c.in_ok-read_next.ensures c.args.bytes.now [] c.reader_of-reader.ensures) in
    IfOk-weaker c.table_rows.result _ _ (λ rows are. are c.args.bytes.now fields has (c.has_names.ensures.0 c.if-not-has_names.false)) c.table_rows.ensures.rows

pub returns-clause-fault : goal.returns-clause-fault
returns-clause-fault g c =
    let fields = fields_of c.read_next.new.fields in
    let has = rw c.if-not-branch.false at (c.in_ok-read_next.ensures c.args.bytes.now [] c.reader_of-reader.ensures) in
    IfErr-weaker c.table_rows.result _ _ (λ e fault. fault c.args.bytes.now fields has (c.has_names.ensures.0 c.if-not-has_names.false)) c.table_rows.ensures.fault

use Rattle.std.proofs.Common.{rules, ◌+◌, ◌++◌, ◌∷◌, [], ap}
use Rattle.std.proofs.lemmas.Result.{err_from_is_err_and}
use Rattle.csv.specs.Records.{fields_of}
use Rattle.og_file.specs.TableFile.{AreCells}
use Rattle.og_file.proofs.TableLemmas.{next_row, begins, first_fault}
use Rattle.og_file.proofs.table.table_rows.Goals as goal

pub returns-then-not-branch-clause-rows : goal.returns-then-not-branch-clause-rows
returns-then-not-branch-clause-rows g c = λ bytes names has named.
    let inv = c.records.invariant in
    (names, inv.0, rw c.if-not-branch.true at (c.in_ok-read_next.ensures bytes (names ∷ inv.0) (inv.2 bytes names has)), named, inv.1)

pub returns-in_err-row-clause-fault : goal.returns-in_err-row-clause-fault
returns-in_err-row-clause-fault g c =
    let inv = c.records.invariant in
    let fields = fields_of c.read_next.new.fields in
    let given = err_from_is_err_and c.from_residual-in_err-row.result c.from_residual-in_err-row.ensures.1 in
    rw (given.1, given.2) (λ bytes names has named.
    first_fault c.args.schema.now bytes names inv.0 fields c.records.rows.items _ c.in_err-row.field-0.0 (ap (λ n. n + 2) (search rules)) c.in_err-row.ensures.fault named inv.1
    (begins bytes (names ∷ inv.0 ++ fields ∷ []) c.read_next.new.reader (rw c.if-not-branch.false at (c.in_ok-read_next.ensures bytes (names ∷ inv.0) (inv.2 bytes names has)))))

pub records-preserved : goal.records-preserved
records-preserved g c =
    let inv = c.records.invariant in
    let fields = fields_of c.read_next.new.fields in (
      inv.0 ++ fields ∷ [],
      rw c.in_ok-push.ensures.items (next_row (AreCells c.args.schema.now) inv.0 c.records.rows.items fields c.in_ok-row.row inv.1 c.in_ok-row.ensures.row),
      λ bytes names has. rw c.if-not-branch.false at (c.in_ok-read_next.ensures bytes (names ∷ inv.0) (inv.2 bytes names has)),
    )

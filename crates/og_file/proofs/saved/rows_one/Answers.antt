use Rattle.std.proofs.Common.{◌++◌, ◌∷◌, []}
use Rattle.std.proofs.lemmas.Result.{err_from_is_err_and}
use Rattle.csv.specs.Records.{fields_of}
use Rattle.og_file.specs.SavedFile.{IsRow, one}
use Rattle.og_file.proofs.TableLemmas.{next_row, begins}
use Rattle.og_file.proofs.SavedLemmas.{count_more, fault_one}
use Rattle.og_file.proofs.saved.rows_one.Goals as goal

pub returns-then-not-branch-clause-rows : goal.returns-then-not-branch-clause-rows
returns-then-not-branch-clause-rows g c = λ bytes header has.
    let inv = c.records.invariant in
    (inv.0, rw c.if-not-branch.true at (c.in_ok-read_next.ensures bytes (header ∷ inv.0) (inv.3 bytes header has)), inv.1)

pub returns-in_err-add_one-clause-fault : goal.returns-in_err-add_one-clause-fault
returns-in_err-add_one-clause-fault g c =
    let inv = c.records.invariant in
    let fields = fields_of c.read_next.new.fields in
    let given = err_from_is_err_and c.from_residual-in_err-add_one.result c.from_residual-in_err-add_one.ensures.1 in
    rw (given.1, given.2) (λ bytes header count has is.
    fault_one bytes header inv.0 fields c.args.schema.now count c.records.rel c.records.number c.in_err-add_one.field-0.0 inv.2 c.in_err-add_one.ensures.fault is inv.1
    (begins bytes (header ∷ inv.0 ++ fields ∷ []) c.read_next.new.reader (rw c.if-not-branch.false at (c.in_ok-read_next.ensures bytes (header ∷ inv.0) (inv.3 bytes header has)))))

pub records-preserved : goal.records-preserved
records-preserved g c =
    let inv = c.records.invariant in
    let fields = fields_of c.read_next.new.fields in
    let added = c.in_ok-add_one.ensures.added in (
      inv.0 ++ fields ∷ [],
      rw added.2 (next_row (IsRow one c.args.schema.now) inv.0 c.records.rel fields added.0 inv.1 added.1),
      count_more inv.0 fields c.records.number 2 inv.2,
      λ bytes header has. rw c.if-not-branch.false at (c.in_ok-read_next.ensures bytes (header ∷ inv.0) (inv.3 bytes header has)),
    )

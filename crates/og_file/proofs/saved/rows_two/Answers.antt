use Rattle.std.proofs.Common.{◌++◌, ◌∷◌, [], append_assoc, inr, subst}
use Rattle.std.proofs.lemmas.Result.{err_from_is_err_and}
use Rattle.csv.specs.Records.{fields_of}
use Rattle.og_file.specs.Records.{AreAll}
use Rattle.og_file.specs.SavedFile.{IsRow, mark, two}
use Rattle.og_file.proofs.TableLemmas.{next_row, begins}
use Rattle.og_file.proofs.SavedLemmas.{count_more, fault_two, late_record}
use Rattle.og_file.proofs.saved.rows_two.Goals as goal

pub returns-then-not-branch-clause-fault : goal.returns-then-not-branch-clause-fault
returns-then-not-branch-clause-fault g c = λ bytes header has schema.
    let inv = c.records.invariant in
    let all = rw c.if-not-branch.true at (c.in_ok-read_next.ensures bytes (mark ∷ header ∷ inv.0) (inv.3 bytes header has)) in
    inr (inr (header, inv.0, c.args.schema.now, c.records.rel, all, schema, inv.1, inv.2))

pub returns-then-branch-clause-fault : goal.returns-then-branch-clause-fault
returns-then-branch-clause-fault g c = λ bytes header has schema.
    let inv = c.records.invariant in
    let fields = fields_of c.read_next.new.fields in
    let next = fields_of c.read_next-in-Some.new.fields in
    let first = rw c.if-not-branch.false at (c.in_ok-read_next.ensures bytes (mark ∷ header ∷ inv.0) (inv.3 bytes header has)) in
    let second = rw c.if-branch.true at (c.in_ok-read_next-2.ensures bytes (mark ∷ header ∷ inv.0 ++ fields ∷ []) first) in
    late_record bytes header inv.0 fields next c.args.schema.now c.records.rel c.in-Some.said c.records.number inv.2 c.in-Some.ensures.end schema inv.1
    (begins bytes (mark ∷ header ∷ inv.0 ++ fields ∷ []) c.read_next.new.reader first)
    (begins bytes (mark ∷ header ∷ inv.0 ++ fields ∷ next ∷ []) c.read_next-in-Some.new.reader (rw (append_assoc (mark ∷ header ∷ inv.0) (fields ∷ []) (next ∷ [])) at second))

pub returns-in-Some-clause-rows : goal.returns-in-Some-clause-rows
returns-in-Some-clause-rows g c = λ bytes header has.
    let inv = c.records.invariant in
    let fields = fields_of c.read_next.new.fields in
    let first = rw c.if-not-branch.false at (c.in_ok-read_next.ensures bytes (mark ∷ header ∷ inv.0) (inv.3 bytes header has)) in
    let all = rw c.if-branch.false at (c.in_ok-read_next-2.ensures bytes (mark ∷ header ∷ inv.0 ++ fields ∷ []) first) in
    let end = c.in-Some.ensures.end in
    (inv.0, end.0, subst (λ r. AreAll bytes (mark ∷ header ∷ inv.0 ++ r ∷ [])) end.1 all, inv.1, end.2)

pub returns-in_err-add_two-clause-fault : goal.returns-in_err-add_two-clause-fault
returns-in_err-add_two-clause-fault g c =
    let inv = c.records.invariant in
    let fields = fields_of c.read_next.new.fields in
    let given = err_from_is_err_and c.from_residual-in_err-add_two.result c.from_residual-in_err-add_two.ensures.1 in
    rw (given.1, given.2) (λ bytes header has schema.
    fault_two bytes header inv.0 fields c.args.schema.now c.records.rel c.records.number c.in_err-add_two.field-0.0 inv.2 c.in_err-add_two.ensures.fault c.in_default.ensures.none schema inv.1
    (begins bytes (mark ∷ header ∷ inv.0 ++ fields ∷ []) c.read_next.new.reader (rw c.if-not-branch.false at (c.in_ok-read_next.ensures bytes (mark ∷ header ∷ inv.0) (inv.3 bytes header has)))))

pub records-preserved : goal.records-preserved
records-preserved g c =
    let inv = c.records.invariant in
    let fields = fields_of c.read_next.new.fields in
    let added = c.in_ok-add_two.ensures.added in (
      inv.0 ++ fields ∷ [],
      rw added.2 (next_row (IsRow two c.args.schema.now) inv.0 c.records.rel fields added.0 inv.1 added.1),
      count_more inv.0 fields c.records.number 3 inv.2,
      λ bytes header has. rw c.if-not-branch.false at (c.in_ok-read_next.ensures bytes (mark ∷ header ∷ inv.0) (inv.3 bytes header has)),
    )

use Rattle.std.proofs.Common.{◌≤◌, ◌+◌, ◌++◌, ◌∷◌, [], ◌∙◌, ap, length, arith}
use Rattle.std.proofs.lemmas.List.{length_push}
use Rattle.csv.specs.Records.{fields_of}
use Rattle.og_file.proofs.BadRecordLemmas.{none_behind}
use Rattle.og_file.proofs.TableLemmas.{begins}
use Rattle.og_file.proofs.records.record_at.Goals as goal

pub returns-then-not-branch-clause-none : goal.returns-then-not-branch-clause-none
returns-then-not-branch-clause-none c =
    let inv = c.records.invariant in
    let all = rw c.if-not-branch.true at (c.in_ok-read_next.ensures c.args.bytes.now inv.0 inv.1) in
    let less : length inv.0 + 1 ≤ c.args.number = omega (arith, inv.2) in
    none_behind c.args.bytes.now inv.0 c.args.number all less

pub records-preserved : goal.records-preserved
records-preserved c =
    let inv = c.records.invariant in (
      inv.0 ++ fields_of c.read_next.new.fields ∷ [],
      rw c.if-not-branch.false at (c.in_ok-read_next.ensures c.args.bytes.now inv.0 inv.1),
      length_push inv.0 (fields_of c.read_next.new.fields) ∙ ap (λ n. n + 1) inv.2,
    )

pub returns-then-not-branch-2-clause-none : goal.returns-then-not-branch-2-clause-none
returns-then-not-branch-2-clause-none c =
    let inv = c.records.invariant in
    let all = rw c.if-not-branch-2.true at (c.in_ok-read_next-2.ensures c.args.bytes.now inv.0 inv.1) in
    let less : length inv.0 + 1 ≤ c.args.number = omega (arith, inv.2) in
    none_behind c.args.bytes.now inv.0 c.args.number all less

pub returns-clause-found : goal.returns-clause-found
returns-clause-found c =
    let inv = c.records.invariant in
    let fields = fields_of c.read_next-2.new.fields in
    let has = rw c.if-not-branch-2.false at (c.in_ok-read_next-2.ensures c.args.bytes.now inv.0 inv.1) in
    (inv.0, begins c.args.bytes.now (inv.0 ++ fields ∷ []) c.read_next-2.new.reader has, omega (arith, inv.2))

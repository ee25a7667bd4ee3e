use Rattle.std.proofs.Common.{◌∙◌, ◌∷◌, [], inl, subst, sym}
use Rattle.std.proofs.lemmas.Result.{IfOk-weaker, IfErr-weaker}
use Rattle.og_file.specs.Readers.{HasRead}
use Rattle.og_file.proofs.saved.read_saved.Goals as goal

pub returns-then-not-branch-clause-fault : goal.returns-then-not-branch-clause-fault
returns-then-not-branch-clause-fault g c = inl (rw c.if-not-branch.true at (c.in_ok-read_next.ensures c.args.bytes.now [] c.reader_of-reader.ensures))

pub returns-then-is_mark-clause-file : goal.returns-then-is_mark-clause-file
returns-then-is_mark-clause-file g c =
    let has = rw c.if-not-branch.false at (c.in_ok-read_next.ensures c.args.bytes.now [] c.reader_of-reader.ensures) in
    let marked = subst (λ r. HasRead c.args.bytes.now (r ∷ []) c.read_next.new.reader) (c.is_mark.ensures.0 c.if-is_mark.true) has in
    IfOk-weaker c.version_two.result _ _ (λ saved is. is c.args.bytes.now marked) c.version_two.ensures.file

pub returns-then-is_mark-clause-fault : goal.returns-then-is_mark-clause-fault
returns-then-is_mark-clause-fault g c =
    let has = rw c.if-not-branch.false at (c.in_ok-read_next.ensures c.args.bytes.now [] c.reader_of-reader.ensures) in
    let marked = subst (λ r. HasRead c.args.bytes.now (r ∷ []) c.read_next.new.reader) (c.is_mark.ensures.0 c.if-is_mark.true) has in
    IfErr-weaker c.version_two.result _ _ (λ e fault. fault c.args.bytes.now marked) c.version_two.ensures.fault

pub returns-clause-file : goal.returns-clause-file
returns-clause-file g c =
    let has = rw c.if-not-branch.false at (c.in_ok-read_next.ensures c.args.bytes.now [] c.reader_of-reader.ensures) in
    IfOk-weaker c.version_one.result _ _ (λ saved is. is c.args.bytes.now has (λ marked. cc (sym c.if-is_mark.false ∙ c.is_mark.ensures.1 marked))) c.version_one.ensures.file

pub returns-clause-fault : goal.returns-clause-fault
returns-clause-fault g c =
    let has = rw c.if-not-branch.false at (c.in_ok-read_next.ensures c.args.bytes.now [] c.reader_of-reader.ensures) in
    IfErr-weaker c.version_one.result _ _ (λ e fault. fault c.args.bytes.now has (λ marked. cc (sym c.if-is_mark.false ∙ c.is_mark.ensures.1 marked))) c.version_one.ensures.fault

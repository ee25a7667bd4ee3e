use Rattle.std.proofs.Common.{◌∙◌, ◌∷◌, [], ap, inl, inr, take}
use Rattle.std.proofs.lemmas.Result.{IfOk-weaker, IfErr-weaker, err_from_is_err_and}
use Rattle.csv.specs.Records.{fields_of}
use Rattle.og_file.specs.SavedFile.{mark}
use Rattle.og_file.proofs.TableLemmas.{begins}
use Rattle.og_file.proofs.SavedLemmas.{take_whole, two_file, two_count}
use Rattle.og_file.proofs.saved.version_two.Goals as goal

pub returns-then-not-branch-clause-fault : goal.returns-then-not-branch-clause-fault
returns-then-not-branch-clause-fault g c = λ bytes has. inr (inr (inl (rw c.if-not-branch.true at (c.in_ok-read_next.ensures bytes (mark ∷ []) has))))

pub returns-in_default-clause-fault : goal.returns-in_default-clause-fault
returns-in_default-clause-fault g c = λ bytes has.
    let fields = fields_of c.read_next.new.fields in
    let whole = ap (λ n. take n fields) c.len.ensures ∙ take_whole fields in
    let both = rw c.if-not-branch.false at (c.in_ok-read_next.ensures bytes (mark ∷ []) has) in
    inr (inr (inr (fields, begins bytes (mark ∷ fields ∷ []) c.read_next.new.reader both, rw (c.in_default.is, whole) at c.in_ok-schema.ensures.none)))

pub returns-in_err-rel-clause-fault : goal.returns-in_err-rel-clause-fault
returns-in_err-rel-clause-fault g c =
    let fields = fields_of c.read_next.new.fields in
    let whole = ap (λ n. take n fields) c.len.ensures ∙ take_whole fields in
    let schema = rw (c.in-Some.is, whole) at c.in_ok-schema.ensures.schema in
    let given = err_from_is_err_and c.from_residual-in_err-rel.result c.from_residual-in_err-rel.ensures.1 in
    rw (given.1, given.2) (λ bytes has. c.in_err-rel.ensures.fault bytes fields (rw c.if-not-branch.false at (c.in_ok-read_next.ensures bytes (mark ∷ []) has)) schema)

pub returns-clause-file : goal.returns-clause-file
returns-clause-file g c =
    let fields = fields_of c.read_next.new.fields in
    let whole = ap (λ n. take n fields) c.len.ensures ∙ take_whole fields in
    let schema = rw (c.in-Some.is, whole) at c.in_ok-schema.ensures.schema in
    IfOk-weaker c.counted.result _ _ (λ saved same bytes has.
    two_file bytes fields c.in-Some.schema saved.schema c.in_ok-rel.rel saved.rel c.in_ok-rel.said
    (c.in_ok-rel.ensures.rows bytes fields (rw c.if-not-branch.false at (c.in_ok-read_next.ensures bytes (mark ∷ []) has))) schema same) c.counted.ensures.file

pub returns-clause-fault : goal.returns-clause-fault
returns-clause-fault g c =
    let fields = fields_of c.read_next.new.fields in
    let whole = ap (λ n. take n fields) c.len.ensures ∙ take_whole fields in
    let schema = rw (c.in-Some.is, whole) at c.in_ok-schema.ensures.schema in
    IfErr-weaker c.counted.result _ _ (λ e differ bytes has.
    two_count bytes fields c.in-Some.schema c.in_ok-rel.rel c.in_ok-rel.said e
    (c.in_ok-rel.ensures.rows bytes fields (rw c.if-not-branch.false at (c.in_ok-read_next.ensures bytes (mark ∷ []) has))) schema differ) c.counted.ensures.fault

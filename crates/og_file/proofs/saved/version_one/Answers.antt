use Rattle.std.proofs.Common.{◌∷◌, [], inl, inr}
use Rattle.std.proofs.lemmas.Result.{IfOk-weaker, IfErr-weaker, err_from_is_err_and}
use Rattle.csv.specs.Records.{fields_of}
use Rattle.og_file.proofs.TableLemmas.{begins}
use Rattle.og_file.proofs.SavedLemmas.{one_file, one_count}
use Rattle.og_file.proofs.saved.version_one.Goals as goal

pub returns-in_default-clause-fault : goal.returns-in_default-clause-fault
returns-in_default-clause-fault g c = λ bytes has differs.
    let fields = fields_of c.args.fields.now in
    inr (inl (fields, begins bytes (fields ∷ []) c.args.reader.now has, differs, rw c.in_default.is at c.in_ok-schema.ensures.none))

pub returns-in_err-rel-clause-fault : goal.returns-in_err-rel-clause-fault
returns-in_err-rel-clause-fault g c =
    let header = rw c.in-Some.is at c.in_ok-schema.ensures.header in
    let given = err_from_is_err_and c.from_residual-in_err-rel.result c.from_residual-in_err-rel.ensures.1 in
    rw (given.1, given.2) (λ bytes has differs. c.in_err-rel.ensures.fault bytes (fields_of c.args.fields.now) c.in-Some.said has header)

pub returns-clause-file : goal.returns-clause-file
returns-clause-file g c =
    let fields = fields_of c.args.fields.now in
    let header = rw c.in-Some.is at c.in_ok-schema.ensures.header in
    IfOk-weaker c.counted.result _ _ (λ saved same bytes has differs.
    one_file bytes fields c.in-Some.schema saved.schema c.in_ok-rel.rel saved.rel c.in-Some.said (c.in_ok-rel.ensures.rows bytes fields has) header same) c.counted.ensures.file

pub returns-clause-fault : goal.returns-clause-fault
returns-clause-fault g c =
    let fields = fields_of c.args.fields.now in
    let header = rw c.in-Some.is at c.in_ok-schema.ensures.header in
    IfErr-weaker c.counted.result _ _ (λ e differ bytes has differs.
    one_count bytes fields c.in-Some.schema c.in_ok-rel.rel c.in-Some.said e (c.in_ok-rel.ensures.rows bytes fields has) header differ) c.counted.ensures.fault

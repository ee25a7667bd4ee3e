use Rattle.std.proofs.Common.{◌≡◌, ◌∙◌, ◌+◌, sym, subst, length, take}
use Rattle.csv.specs.Records.{fields_of}
use Rattle.og_file.specs.SavedFile.{IsCount}
use Rattle.og_file.proofs.SavedLemmas.{there, end_is, whole, one_more}
use Rattle.og_file.proofs.saved.header_of.Goals as goal

pub returns-in_default-get-clause-none : goal.returns-in_default-get-clause-none
returns-in_default-get-clause-none c = λ columns count h.
    let fields = fields_of c.args.fields.now in
    let long : length fields ≡ c.in-Some.last + 1 = sym c.len.ensures ∙ one_more c.len.result c.in-Some.last c.in-Some.ensures in
    cc (sym (there fields h.0 h.1 c.in-Some.last h.2 long) ∙ sym c.in_default-get.ensures.value)

pub returns-in_default-count_of-clause-none : goal.returns-in_default-count_of-clause-none
returns-in_default-count_of-clause-none c = λ columns count h.
    let fields = fields_of c.args.fields.now in
    let long : length fields ≡ c.in-Some.last + 1 = sym c.len.ensures ∙ one_more c.len.result c.in-Some.last c.in-Some.ensures in
    let same = end_is fields h.0 h.1 c.in-Some-get.field.now c.in-Some.last h.2 long (sym c.in-Some-get.ensures.value) in
    c.in_default-count_of.ensures.none count (subst (λ f. IsCount f count) same h.4)

pub returns-in-Some-2-clause-header : goal.returns-in-Some-2-clause-header
returns-in-Some-2-clause-header c =
    let fields = fields_of c.args.fields.now in
    let long : length fields ≡ c.in-Some.last + 1 = sym c.len.ensures ∙ one_more c.len.result c.in-Some.last c.in-Some.ensures in
    let count = c.in-Some-count_of.ensures.count in
    let schema = rw c.in-Some-2.is at c.in_ok-schema.ensures.schema in
    (take c.in-Some.last fields, c.in-Some-get.field.now, whole fields c.in-Some.last c.in-Some-get.field.now long (sym c.in-Some-get.ensures.value), schema, count)

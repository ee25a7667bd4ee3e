use Rattle.std.proofs.Common.{◌∙◌, sym}
use Rattle.csv.specs.Records.{fields_of}
use Rattle.og_file.proofs.SavedLemmas.{alone, not_alone, end_some, end_none}
use Rattle.og_file.proofs.saved.end_of.Goals as goal

pub returns-in-Some-clause-end : goal.returns-in-Some-clause-end
returns-in-Some-clause-end c =
    let only = alone (fields_of c.args.fields.now) c.in-Some.field.now (sym c.len.ensures ∙ c.if-len-ne1.false) (sym c.in-Some.ensures.value) in
    end_some (fields_of c.args.fields.now) c.in-Some.field.now only c.count_of.result c.count_of.ensures.count

pub returns-in-Some-clause-none : goal.returns-in-Some-clause-none
returns-in-Some-clause-none c =
    let only = alone (fields_of c.args.fields.now) c.in-Some.field.now (sym c.len.ensures ∙ c.if-len-ne1.false) (sym c.in-Some.ensures.value) in
    end_none (fields_of c.args.fields.now) c.in-Some.field.now only c.count_of.result c.count_of.ensures.none

pub returns-in-None-clause-none : goal.returns-in-None-clause-none
returns-in-None-clause-none c = λ _ _. not_alone (fields_of c.args.fields.now) (sym c.len.ensures ∙ c.if-len-ne1.false) (sym c.in-None.ensures.value)

use Rattle.std.proofs.Common.{◌∙◌, Err, sym, ap}
use Rattle.og_value.specs.Words.{is_word}
use Rattle.og_file.proofs.HeaderLemmas.{same_word}
use Rattle.og_file.proofs.header.column_of.Goals as goal

pub returns-in-Err-NotAName-clause-none : goal.returns-in-Err-NotAName-clause-none
returns-in-Err-NotAName-clause-none c = λ column is.
    let same = same_word c.in-Some.word.now is.0 c.in-Some.kind column.kind (sym c.in-Some.ensures.parts ∙ is.3) in
    cc (sym (c.in-Err-NotAName.ensures.not_a_name (ap Err c.in-Err-NotAName.field-0-is)) ∙ ap is_word same ∙ is.1)

use Rattle.std.proofs.Common.{◌∙◌, sym, subst}
use Rattle.og_file.specs.PlainFiles.{CanBeSaved, IsPlainFile}
use Rattle.og_file.specs.Writing.{records_of}
use Rattle.og_file.proofs.ReadBackLemmas.{plain_file}
use Rattle.og_file.proofs.WriteLemmas.{rows_text-plain}
use Rattle.og_file.proofs.write.write_saved.Goals as goal

pub returns-in-Ok : goal.returns-in-Ok
returns-in-Ok g c =
    let columns = c.args.schema.now in
    let rel = c.args.rel.now in
    let made = c.in-Ok.ensures in
    let text = made.text ∙ rows_text-plain (records_of columns rel) in
    let can : CanBeSaved columns rel = record {
      schema = c.bounded.ensures;
      names = made.words;
      kinds = c.requires.fits;
      values = made.cells;
      days = c.some_days.ensures;
      count = made.count;
    } in
    subst (λ bytes. IsPlainFile bytes columns rel) (sym text) (plain_file columns rel can)

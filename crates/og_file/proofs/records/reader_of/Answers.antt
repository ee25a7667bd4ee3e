use Rattle.std.proofs.Common.{◌∙◌, sym, refl, inr}
use Rattle.csv.specs.Reading.{Reached, strip_bom}
use Rattle.og_file.proofs.records.reader_of.Goals as goal

pub returns : goal.returns
unfolding Reached
returns c =
    let made = c.from_reader.ensures in
    let headers = c.has_headers.ensures in
    let flexible = c.flexible.ensures in (
      rw (flexible, headers) at made.trim ∙ c.new.ensures.trim,
      inr (inr (rw (flexible, headers) at made.has_headers, made.headers)),
      rw (flexible, headers) at made.config ∙ c.new.ensures.config,
      strip_bom c.args.bytes.now,
      made.source,
      (sym made.state, refl),
    )

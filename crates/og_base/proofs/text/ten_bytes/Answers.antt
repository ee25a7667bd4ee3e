use Rattle.std.proofs.Common.{FitsSigned, sym, arith, ◌∙◌}
use Rattle.std.specs.Int.{w16}
use Rattle.std.proofs.lemmas.Int.{fits_signed_from_abs, ints, to_z-of_z}
use Rattle.og_base.proofs.TextForms.{date_text-day_bytes, ten-day_bytes}
use Rattle.og_base.proofs.text.ten_bytes.Goals as goal

pub returns : goal.returns
returns c =
    let date = c.args.date in
    let fits : FitsSigned w16 date.year = fits_signed_from_abs w16 date.year (omega (arith, ints, date.year_in)) in
    ten-day_bytes date.year c.unsigned-year.result date.month date.day (c.unsigned-year.ensures ∙ to_z-of_z w16 date.year fits) ∙ sym (date_text-day_bytes date)

use Rattle.std.proofs.Common.{◌≡◌, true, sym, refl, rules}
use Rattle.og_base.proofs.ReadTexts.{read_text, printed_is_read}
use Rattle.og_base.proofs.text.read_ref_day.Goals as goal

pub returns-in_default-clause-refused : goal.returns-in_default-clause-refused
returns-in_default-clause-refused c n h =
    printed_is_read _ h.0 c.in_default.field-0 h.1 (rw c.in_default.is at c.parse_date.ensures)

pub returns-then-not-is_text_of-clause-refused : goal.returns-then-not-is_text_of-clause-refused
returns-then-not-is_text_of-clause-refused c n h =
    let same = read_text _ c.in-Ok.date h.0 h.1 (rw c.in-Ok.is at c.parse_date.ensures) in
    cc (c.is_text_of.ensures.1 (sym same), c.if-not-is_text_of.true)

pub returns-clause-value : goal.returns-clause-value
returns-clause-value c =
    let yes : c.is_text_of.result ≡ true = search rules in
    rw c.day_of.ensures (c.in-Ok.date, c.is_text_of.ensures.0 yes, refl)

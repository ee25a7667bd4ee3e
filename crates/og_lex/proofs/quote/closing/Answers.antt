use Rattle.std.proofs.Common.{◌≡◌, ◌==◌, false, Some, suc, slice_index, subst, sym, ap, ◌∙◌, arith}
use Rattle.memchr.specs.Find.{IsFirstByte, is_byte}
use Rattle.og_lex.proofs.Quotes.{closing-first, closing-none, no_equal}
use Rattle.og_lex.proofs.quote.closing.Goals as goal

pub returns-in_err-first-clause-value : goal.returns-in_err-first-clause-value
returns-in_err-first-clause-value c =
    let none = subst (IsFirstByte (is_byte 39) c.args.z.now) c.in_err-first.was c.memchr.ensures in
    c.from_residual.ensures ∙ sym (closing-none 0 c.args.z.now (λ k l. none k (omega arith) l))

pub returns-then-byte_at-ne39-clause-value : goal.returns-then-byte_at-ne39-clause-value
returns-then-byte_at-ne39-clause-value c =
    let z = c.args.z.now in
    let first = c.in_ok-first.first in
    let found = subst (IsFirstByte (is_byte 39) z) c.in_ok-first.was c.memchr.ensures in
    let other : (slice_index z (suc first) == 39) ≡ false = no_equal (slice_index z (suc first)) 39 (λ e. c.if-byte_at-ne39.true (c.byte_at.ensures.value ∙ ap (slice_index z) (omega arith) ∙ e)) in
    ap Some (omega arith) ∙ sym (closing-first 0 first z found.0.high (λ j l. found.0.before j (omega arith) l) found.1 other)

use Rattle.std.proofs.Common.{◌≡◌, ◌+◌, drop, length, ap, subst, arith}
use Rattle.std.proofs.lemmas.List.{length-drop}
use Rattle.std.proofs.lemmas.Result.{err_from_is_err_and}
use Rattle.og_lex.specs.Grammar.{Reads}
use Rattle.og_lex.proofs.Parts.{one_more, refused_on}
use Rattle.og_lex.proofs.lexer.lex_part.Goals as goal

pub pieces-init : goal.pieces-init
pieces-init c = record {
  read = rw (c.clear.ensures.items, c.split_at.ensures.back) (Reads.stops c.args.from (drop c.args.from c.args.script.now));
  rest = c.split_at.ensures.back;
  within = c.requires;
  forward = omega arith;
}

pub returns-in_err-taken-clause-refused : goal.returns-in_err-taken-clause-refused
returns-in_err-taken-clause-refused c =
    let p = err_from_is_err_and c.from_residual.result c.from_residual.ensures.1 in
    rw (p.1, p.2) (refused_on c.args.from c.pieces.at (drop c.args.from c.args.script.now) c.pieces.rest.now c.pieces.tokens.items c.in_err-taken.field-0.0 c.pieces.invariant.read c.in_err-taken.ensures.refused)

pub returns-then-len-ge-PART-clause-read : goal.returns-then-len-ge-PART-clause-read
returns-then-len-ge-PART-clause-read c =
    let script = c.args.script.now in
    let from = c.args.from in
    let end = c.pieces.at + c.in_ok-taken.taken.len in
    let taken = c.in_ok-taken.ensures.read in
    let more = one_more script (drop from script) from c.pieces.at c.in_ok-taken.taken.len c.pieces.rest.now c.split_at-in-pieces.result.1.now c.pieces.tokens.items c.take_piece.new.tokens.items taken.0
    c.split_at-in-pieces.ensures.back c.pieces.invariant.rest taken.1 taken.2 c.pieces.invariant.read in
    subst (λ x. Reads from (drop from script) c.take_piece.new.tokens.items end x) more.1 more.0

pub pieces-preserved : goal.pieces-preserved
pieces-preserved c =
    let script = c.args.script.now in
    let from = c.args.from in
    let taken = c.in_ok-taken.ensures.read in
    let more = one_more script (drop from script) from c.pieces.at c.in_ok-taken.taken.len c.pieces.rest.now c.split_at-in-pieces.result.1.now c.pieces.tokens.items c.take_piece.new.tokens.items taken.0
    c.split_at-in-pieces.ensures.back c.pieces.invariant.rest taken.1 taken.2 c.pieces.invariant.read in
    let len : length c.pieces.rest.now ≡ length (drop c.pieces.at script) = ap length c.pieces.invariant.rest in
    record {
      read = more.0;
      rest = more.1;
      within = omega (arith, c.in_ok-taken.ensures.within.1, len, length-drop c.pieces.at script, c.pieces.invariant.within);
      forward = omega (arith, c.pieces.invariant.forward);
    }

use Rattle.std.proofs.Common.{rules, arith, subst, ◌≡◌, ◌≤◌, ◌+◌, suc, Some, length, slice_get}
use Rattle.og_parse.specs.Script.{pieces}
use Rattle.og_parse.specs.Tokens.{lexemes_of}
use Rattle.og_locate.proofs.PieceLemmas.{found_in, passed_more, passed_none}
use Rattle.og_locate.proofs.numbered.piece_at.Goals as goal

pub parts-init : goal.parts-init
parts-init c = record {
  passed = (0, passed_none c.args.script.now, omega (arith, c.saturating_sub-before.ensures));
  within = omega arith;
}

pub returns-in_default : goal.returns-in_default
returns-in_default c =
    let script = c.args.script.now in
    let passed = c.parts.invariant.passed in
    let within : suc c.parts.at ≤ length script = search rules in
    let found : slice_get (pieces (lexemes_of script c.as_slice.result.now)) c.parts.before ≡ Some c.pass_pieces.new.piece.items = search rules in
    found_in script c.parts.at c.in-Ok.end c.args.number passed.0 c.parts.before c.lex_part.new.tokens.items c.pass_pieces.new.piece.items within passed.1 passed.2 c.in-Ok.ensures.read c.in-Ok.ensures.ends
    (subst (λ ts. slice_get (pieces (lexemes_of script ts)) c.parts.before ≡ Some c.pass_pieces.new.piece.items) c.as_slice.ensures.value found)

pub parts-preserved : goal.parts-preserved
parts-preserved c =
    let script = c.args.script.now in
    let passed = c.parts.invariant.passed in
    let within : suc c.parts.at ≤ length script = search rules in
    let left : length (pieces (lexemes_of script c.as_slice.result.now)) + c.in-Some.left ≡ c.parts.before = search rules in
    let count = subst (λ ts. length (pieces (lexemes_of script ts)) + c.in-Some.left ≡ c.parts.before) c.as_slice.ensures.value left in
    record {
      passed = (
        passed.0 + length (pieces (lexemes_of script c.lex_part.new.tokens.items)),
        passed_more script c.parts.at c.in-Ok.end passed.0 c.lex_part.new.tokens.items within passed.1 c.in-Ok.ensures.read c.in-Ok.ensures.ends,
        omega (arith, count, passed.2),
      );
      within = c.in-Ok.ensures.within.1;
    }

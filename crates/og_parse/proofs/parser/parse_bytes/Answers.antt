use Rattle.std.proofs.Common.{rules, ◌≡◌, ◌+◌, drop, length, ap, subst, arith}
use Rattle.std.proofs.lemmas.Result.{err_from_is_err_and}
use Rattle.og_parse.specs.Script.{AreGood, HasFirstFault, OrNoMemory, pieces}
use Rattle.og_parse.specs.Tokens.{lexemes_of}
use Rattle.og_lex.proofs.Parts.{refused_on, refused_first}
use Rattle.og_parse.proofs.Parts.{all_parts, begun, one_more_part, refused_part}
use Rattle.og_parse.proofs.parser.parse_bytes.Goals as goal

pub parts-init : goal.parts-init
parts-init c = record {
  begun = rw c.new-stmts.ensures (begun c.args.script.now);
  within = omega arith;
}

pub returns-in_err-at-clause-refused : goal.returns-in_err-at-clause-refused
returns-in_err-at-clause-refused c =
    let p = err_from_is_err_and c.from_residual.result c.from_residual.ensures.1 in
    let script = c.args.script.now in
    let b = c.parts.invariant.begun in
    rw (p.1, p.2) (refused_first script c.in_err-at.field-0.0 (refused_on 0 c.parts.at script (drop c.parts.at script) b.done c.in_err-at.field-0.0 b.read c.in_err-at.ensures.refused))

pub parts-preserved : goal.parts-preserved
parts-preserved c = record {
  begun = one_more_part c.args.script.now c.parts.at c.in_ok-at.at c.parts.stmts c.in-Ok.more c.append.new.self c.lex_part.new.tokens.items c.parts.invariant.begun c.in_ok-at.ensures.read c.in_ok-at.ensures.ends
      (subst (λ ts. AreGood c.args.script.now (pieces (lexemes_of c.args.script.now ts)) c.in-Ok.more) c.as_slice.ensures.value c.in-Ok.ensures.good) c.in_ok-append-in-Ok.ensures;
  within = c.in_ok-at.ensures.within.1;
}

pub returns-in-Err-clause-refused : goal.returns-in-Err-clause-refused
returns-in-Err-clause-refused c =
    let script = c.args.script.now in
    let number : c.len.result + 1 ≡ length c.parts.stmts + 1 = ap (λ n. n + 1) c.len.ensures in
    refused_part script c.parts.at c.in_ok-at.at c.parts.stmts c.lex_part.new.tokens.items c.in-Err.refusal c.refused_as.result c.parts.invariant.begun c.in_ok-at.ensures.read c.in_ok-at.ensures.ends
    (subst (λ n. OrNoMemory (HasFirstFault script n (pieces (lexemes_of script c.lex_part.new.tokens.items))) c.in-Err.refusal) number
    (subst (λ ts. OrNoMemory (HasFirstFault script (c.len.result + 1) (pieces (lexemes_of script ts))) c.in-Err.refusal) c.as_slice.ensures.value c.in-Err.ensures.fault))
    c.refused_as.ensures

pub returns-clause-tree : goal.returns-clause-tree
returns-clause-tree c =
    let end : c.parts.at ≡ length c.args.script.now = search rules in
    all_parts c.args.script.now c.parts.at c.parts.stmts end c.parts.invariant.begun

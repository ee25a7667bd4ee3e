use Rattle.std.proofs.Common.{rules, arith, ap, sym, ◌∙◌, ◌≡◌, ◌-◌, suc, length, slice_get}
use Rattle.og_parse.specs.Script.{pieces}
use Rattle.og_parse.specs.Tokens.{lexemes_of}
use Rattle.og_parse.proofs.Scripts.{shorter, some_len}
use Rattle.og_locate.proofs.PieceLemmas.{first_is, later_is, one_more}
use Rattle.og_locate.proofs.numbered.pass_pieces.Goals as goal

pub returns-then-left-eq0-clause-found : goal.returns-then-left-eq0-clause-found
returns-then-left-eq0-clause-found c =
    sym c.pieces.invariant.same
    ∙ ap (slice_get (pieces (lexemes_of c.args.script.now c.pieces.rest.now))) c.if-left-eq0.true
    ∙ first_is c.args.script.now c.pieces.rest.now c.next_piece.new.piece.items (search rules) c.in_ok-next_piece.ensures.piece

pub pieces-smaller : goal.pieces-smaller
pieces-smaller c =
    shorter (length c.next_piece.new.piece.items) c.len.result _ _ (some_len c.args.script.now c.pieces.rest.now c.next_piece.new.piece.items (search rules) c.in_ok-next_piece.ensures.piece) (search rules) c.split_at.ensures.back_len

pub pieces-preserved : goal.pieces-preserved
pieces-preserved c =
    let before : suc (c.pieces.left - 1) ≡ c.pieces.left = omega (arith, c.if-left-eq0.false) in
    let front = c.in_ok-next_piece.ensures.piece in
    record {
      same =
          sym (later_is c.args.script.now c.pieces.rest.now c.split_at.result.1.now c.next_piece.new.piece.items c.len.result (c.pieces.left - 1) (search rules) front (search rules) c.split_at.ensures.back)
          ∙ ap (slice_get (pieces (lexemes_of c.args.script.now c.pieces.rest.now))) before
          ∙ c.pieces.invariant.same;
      count = omega (arith, before, c.pieces.invariant.count, one_more c.args.script.now c.pieces.rest.now c.split_at.result.1.now c.next_piece.new.piece.items c.len.result (search rules) front (search rules) c.split_at.ensures.back);
    }

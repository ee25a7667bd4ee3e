use Rattle.std.proofs.Common.{rules, length, subst}
use Rattle.std.proofs.lemmas.Result.{err_from_is_err_and}
use Rattle.og_parse.specs.Script.{pieces, IsGood, HasFault, OrNoMemory}
use Rattle.og_parse.specs.Tokens.{lexemes_of}
use Rattle.og_parse.proofs.Scripts.{no_pieces, some_len, shorter, counted, one_more_piece, leads_all, faulty_piece}
use Rattle.og_parse.proofs.parser.statements.Goals as goal

pub pieces-smaller : goal.pieces-smaller
pieces-smaller c =
    shorter (length c.next_piece.new.piece.items) c.len.result _ _ (some_len c.args.script.now c.pieces.rest.now c.next_piece.new.piece.items (search rules) c.in_ok-next_piece.ensures.piece) (search rules) c.split_at.ensures.back_len

pub pieces-preserved : goal.pieces-preserved
pieces-preserved c = (
  one_more_piece c.args.script.now c.args.first (pieces (lexemes_of c.args.script.now c.args.tokens.now)) c.pieces.rest.now c.split_at.result.1.now c.next_piece.new.piece.items c.len.result c.pieces.stmts _ c.pieces.number c.in_ok-read_piece.field-0 (search rules) c.in_ok-next_piece.ensures.piece (search rules) c.split_at.ensures.back (search rules) (subst (λ p. IsGood c.args.script.now p c.in_ok-read_piece.field-0) c.as_slice.ensures.value c.in_ok-read_piece.ensures.good) c.pieces.invariant.0,
  counted (length c.next_piece.new.piece.items) c.len.result _ _ _ _ _ (some_len c.args.script.now c.pieces.rest.now c.next_piece.new.piece.items (search rules) c.in_ok-next_piece.ensures.piece) (search rules) c.split_at.ensures.back_len c.pieces.invariant.1,
)

pub returns-clause-good : goal.returns-clause-good
returns-clause-good c = leads_all c.args.script.now c.args.first (pieces (lexemes_of c.args.script.now c.args.tokens.now)) (pieces (lexemes_of c.args.script.now c.pieces.rest.now)) c.pieces.stmts c.pieces.number (no_pieces c.args.script.now c.pieces.rest.now (search rules)) c.pieces.invariant.0

pub returns-in_err-read_piece-clause-fault : goal.returns-in_err-read_piece-clause-fault
returns-in_err-read_piece-clause-fault c =
    let q = err_from_is_err_and c.from_residual-in_err-read_piece.result c.from_residual-in_err-read_piece.ensures.1 in
    rw (q.1, q.2) (faulty_piece c.args.script.now c.args.first (pieces (lexemes_of c.args.script.now c.args.tokens.now)) c.pieces.rest.now c.next_piece.new.piece.items c.pieces.stmts c.pieces.number c.in_err-read_piece.field-0.0 (search rules) c.in_ok-next_piece.ensures.piece (subst (λ p. OrNoMemory (HasFault c.args.script.now c.pieces.number p) c.in_err-read_piece.field-0.0) c.as_slice.ensures.value c.in_err-read_piece.ensures.fault) c.pieces.invariant.0)

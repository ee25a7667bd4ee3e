use Rattle.std.proofs.Common.{◌∙◌, ◌+◌, [], ◌∷◌, drop, ap, sym}
use Rattle.std.proofs.lemmas.List.{append-nil}
use Rattle.og_lex.specs.Front.{with_front, lex_from}
use Rattle.og_lex.proofs.Lexing.{with_front-append, lex_from-skip, lex_from-token, lex_from-bad, token_at, IsErrorOf-refusal_at}
use Rattle.og_lex.proofs.Parts.{reads_skip, reads_token, refused_at, ends_with}
use Rattle.og_lex.proofs.lexer.take_piece.Goals as goal

pub returns-in-Skip-clause-taken : goal.returns-in-Skip-clause-taken
returns-in-Skip-clause-taken c =
    ap (with_front c.args.tokens.now.items) (lex_from-skip c.args.at c.in-Skip.len c.args.z.now c.requires.some (sym c.in-Skip.ensures.value) c.in-Skip.ensures.within.0 c.in-Skip.ensures.within.1)

pub returns-in_ok-push-in-Piece-clause-taken : goal.returns-in_ok-push-in-Piece-clause-taken
returns-in_ok-push-in-Piece-clause-taken c =
    ap (with_front c.args.tokens.now.items) (lex_from-token c.args.at c.in-Piece.len c.in-Piece.kind c.args.z.now c.requires.some (sym c.in-Piece.ensures.value) c.in-Piece.ensures.within.0 c.in-Piece.ensures.within.1)
    ∙ rw c.in_ok-push-in-Piece.ensures.items (with_front-append c.args.tokens.now.items (token_at c.in-Piece.kind c.args.at c.in-Piece.len ∷ []) (lex_from (c.args.at + c.in-Piece.len) 0 (drop c.in-Piece.len c.args.z.now)))

pub returns-in-Bad-clause-fault : goal.returns-in-Bad-clause-fault
returns-in-Bad-clause-fault c =
    rw c.refusal_at.ensures (IsErrorOf-refusal_at c.args.at c.in-Bad.fault _ (lex_from-bad c.args.at c.in-Bad.fault c.args.z.now c.requires.some (sym c.in-Bad.ensures.value)))

pub returns-in-Skip-clause-read : goal.returns-in-Skip-clause-read
returns-in-Skip-clause-read c = ([], sym (append-nil c.args.tokens.now.items), reads_skip c.args.at c.in-Skip.len c.args.z.now (sym c.in-Skip.ensures.value))

pub returns-in_ok-push-in-Piece-clause-read : goal.returns-in_ok-push-in-Piece-clause-read
returns-in_ok-push-in-Piece-clause-read c =
    (token_at c.in-Piece.kind c.args.at c.in-Piece.len ∷ [], c.in_ok-push-in-Piece.ensures.items, reads_token c.args.at c.in-Piece.len c.in-Piece.kind c.args.z.now (sym c.in-Piece.ensures.value))

pub returns-in_ok-push-in-Piece-clause-ends : goal.returns-in_ok-push-in-Piece-clause-ends
returns-in_ok-push-in-Piece-clause-ends c e =
    rw c.in_ok-push-in-Piece.ensures.items (ends_with c.args.tokens.now.items c.in-Piece.kind c.args.at c.in-Piece.len (sym c.is_semicolon.ensures ∙ e))

pub returns-in-Bad-clause-refused : goal.returns-in-Bad-clause-refused
returns-in-Bad-clause-refused c = rw c.refusal_at.ensures (refused_at c.args.at c.args.z.now c.in-Bad.fault c.requires.some (sym c.in-Bad.ensures.value))

use Rattle.std.proofs.Common.{◌∙◌, sym}
use Rattle.og_lex.proofs.HasTexts.{has_text-within, has_text-quoted}
use Rattle.og_lex.proofs.quote.has_text.Goals as goal

pub returns-then-end-script : goal.returns-then-end-script
returns-then-end-script c = (
  λ e. has_text-within c.args.script.now c.args.token.now c.if-end-script.true.1 (sym c.is_quoted.ensures ∙ e),
  λ had. c.is_quoted.ensures ∙ has_text-quoted c.args.script.now c.args.token.now had,
)

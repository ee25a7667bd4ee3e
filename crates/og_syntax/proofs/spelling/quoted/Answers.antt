use Rattle.std.proofs.Common.{rules, sym, subst, ◌≡◌, true, false}
use Rattle.og_lex.specs.Grammar.{HasText, IsTextAt}
use Rattle.og_syntax.proofs.LiteralRules.{quoted_read, no_quoted_read}
use Rattle.og_syntax.proofs.spelling.quoted.Goals as goal

pub returns-then-not-has_text : goal.returns-then-not-has_text
returns-then-not-has_text c =
    no_quoted_read c.args.reading.now.script.now c.args.lexemes.now c.in_ok-lexeme.lexeme c.in_ok-lexeme.rest.now c.in_ok-lexeme.ensures
    (λ had. let there : c.has_text.result ≡ true = c.has_text.ensures.1 (subst (HasText c.args.reading.now.script.now) (sym c.text_token-token.ensures) had) in
    let not_there : c.has_text.result ≡ false = search rules in cc)

pub returns : goal.returns
returns c =
    quoted_read c.args.reading.now.script.now c.args.lexemes.now c.in_ok-lexeme.lexeme _ c.in_ok-lexeme.rest.now c.in_ok-lexeme.ensures
    (subst (λ token. IsTextAt c.args.reading.now.script.now token c.in_ok-text_of.field-0) c.text_token-token.ensures c.in_ok-text_of.ensures.content)

use Rattle.std.proofs.Common.{◌∙◌, ap, sym, false}
use Rattle.std.proofs.lemmas.Result.{IfOk-weaker}
use Rattle.og_lex.specs.Bytes.{quoted}
use Rattle.og_lex.specs.Front.{single_quotes}
use Rattle.og_lex.proofs.Quotes.{single_quotes-doubled}
use Rattle.og_lex.proofs.Tokens.{inner-quoted}
use Rattle.og_lex.proofs.quote.text_of.Goals as goal

pub returns : goal.returns
returns c =
    let had = c.requires in
    let inner = inner-quoted c.args.script.now c.args.token.now.start c.args.token.now.end had.0 had.1.within had.1.between in
    record {
      content = IfOk-weaker c.singled.result _ _ (λ content e. record {
        within = had.1.within;
        between = had.1.between ∙ ap quoted (sym (e ∙ (ap (single_quotes false) inner ∙ single_quotes-doubled had.0)));
      }) c.singled.ensures;
    }

use Rattle.std.proofs.Common.{rules, ap, codes, ◌≡◌, ◌∙◌}
use Rattle.std.proofs.lemmas.Result.{IfOk-weaker}
use Rattle.clap.specs.Words.{App, app_of, new_app, with_subcommand}
use Rattle.og_words.specs.Shape.{plain, run, at, load}
use Rattle.og_words.proofs.shape.ongq_command.Goals as goal

pub returns : goal.returns
returns c =
    let plain_is : app_of c.subcommand_required-plain.result ≡ plain (new_app (codes "ongq")) = search rules in
    let one_is : app_of c.in_ok-one.one ≡ with_subcommand (plain (new_app (codes "ongq"))) run.top =
    c.in_ok-one.ensures run c.run_command.ensures.shape c.run_command.ensures.local ∙ ap (λ (a : App). with_subcommand a run.top) plain_is in
    let two_is : app_of c.in_ok-two.two ≡ with_subcommand (with_subcommand (plain (new_app (codes "ongq"))) run.top) at.top =
    c.in_ok-two.ensures at c.at_command.ensures.shape c.at_command.ensures.local ∙ ap (λ (a : App). with_subcommand a at.top) one_is in
    IfOk-weaker c.with_subcommand-3.result _ _ (λ r h. h ∙ ap (λ (a : App). with_subcommand a load.top) two_is) (c.with_subcommand-3.ensures load c.load_command.ensures.shape c.load_command.ensures.local)

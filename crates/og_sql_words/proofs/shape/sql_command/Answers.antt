use Rattle.std.proofs.Common.{ap, codes, ◌≡◌, ◌∙◌}
use Rattle.std.proofs.lemmas.Result.{IfOk-weaker}
use Rattle.clap.specs.Words.{App, app_of, new_app, with_rule}
use Rattle.og_sql_words.specs.Shape.{explain, option, plain}
use Rattle.og_sql_words.proofs.shape.sql_command.Goals as goal

pub returns : goal.returns
returns c =
    let two_is : app_of c.in_ok-two.two ≡ with_rule (with_rule (plain (new_app (codes "ongq-sql"))) explain) (option (codes "live")) =
    c.in_ok-two.ensures ∙ ap (λ (a : App). with_rule a (option (codes "live"))) c.in_ok-one.ensures in
    let three_is : app_of c.in_ok-three.three ≡ with_rule (with_rule (with_rule (plain (new_app (codes "ongq-sql"))) explain) (option (codes "live"))) (option (codes "shard-by")) =
    c.in_ok-three.ensures ∙ ap (λ (a : App). with_rule a (option (codes "shard-by"))) two_is in
    IfOk-weaker c.with_option-3.result _ _ (λ r h. h ∙ ap (λ (a : App). with_rule a (option (codes "citus"))) three_is) c.with_option-3.ensures

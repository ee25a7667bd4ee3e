use Rattle.std.proofs.Common.{pos, ap, sym, ◌∙◌}
use Rattle.std.specs.Option.{option_map}
use Rattle.std.proofs.lemmas.Result.{on_ok_weaker}
use Rattle.og_reduce.specs.Sieves.{is_among}
use Rattle.og_reduce.proofs.SieveLemmas.{column-beyond, column-within}
use Rattle.og_reduce.proofs.sieve.Keys.add_at.Goals as goal

pub returns-in-Some-clause-added : goal.returns-in-Some-clause-added
returns-in-Some-clause-added c =
    let there = sym c.get.ensures ∙ ap (option_map (λ v. v.now)) c.in-Some.is in
    on_ok_weaker c.add.result (λ added. ap (is_among c.add.new.self) (column-within c.args.row.now c.args.column (pos 0) _ there) ∙ added (pos 0)) c.add.ensures.added

pub returns-in-None-clause-added : goal.returns-in-None-clause-added
returns-in-None-clause-added c =
    let none = sym c.get.ensures ∙ ap (option_map (λ v. v.now)) c.in-None.is in
    on_ok_weaker c.add-in-None.result (λ added. ap (is_among c.add-in-None.new.self) (column-beyond c.args.row.now c.args.column (pos 0) none) ∙ added (pos 0)) c.add-in-None.ensures.added

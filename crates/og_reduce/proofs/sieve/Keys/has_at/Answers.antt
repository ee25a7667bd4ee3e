use Rattle.std.proofs.Common.{pos, ap, sym, ◌∙◌}
use Rattle.std.specs.Option.{option_map}
use Rattle.og_reduce.specs.Sieves.{is_among}
use Rattle.og_reduce.proofs.SieveLemmas.{column-beyond, column-within}
use Rattle.og_reduce.proofs.sieve.Keys.has_at.Goals as goal

pub returns-in-Some : goal.returns-in-Some
returns-in-Some c =
    c.has.ensures (pos 0) ∙ sym (ap (is_among c.args.self.now) (column-within c.args.row.now c.args.column (pos 0) _ (sym c.get.ensures ∙ ap (option_map (λ v. v.now)) c.in-Some.is)))

pub returns-in-None : goal.returns-in-None
returns-in-None c =
    c.has-in-None.ensures (pos 0) ∙ sym (ap (is_among c.args.self.now) (column-beyond c.args.row.now c.args.column (pos 0) (sym c.get.ensures ∙ ap (option_map (λ v. v.now)) c.in-None.is)))

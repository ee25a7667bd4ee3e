use Rattle.std.proofs.Common.{◌≡◌, [], ◌∷◌, ap, sym, ◌∙◌, rules}
use Rattle.og_rel.specs.Shares.{rows_of}
use Rattle.og_rel.proofs.WorkerLemmas.{set_of-permutation}
use Rattle.og_output.proofs.OrderedLemmas.{rows_of-more}
use Rattle.og_output.proofs.sights.put_in_order.Goals as goal

pub returns : goal.returns
returns g c =
    let pushed : c.push.new.self.items ≡ c.in_ok-rows.rows ∷ [] = search rules in
    ap rows_of pushed ∙ rows_of-more [] c.in_ok-rows.rows ∙ c.in_ok-rows.ensures
    ∙ sym (set_of-permutation c.order_of_sights.ensures.exact _ _ c.in_ok-parts.ensures)

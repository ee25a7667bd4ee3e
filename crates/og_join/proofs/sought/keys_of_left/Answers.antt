use Rattle.std.proofs.Common.{◌≡◌, true, List, [], get_or, subst, sym, rules}
use Rattle.std.specs.List.{All, list_any}
use Rattle.std.specs.Ordering.{eq_by_cmp}
use Rattle.std.proofs.lemmas.List.{get_or_default, take_all}
use Rattle.og_base.specs.Ranges.{Range, holds_day}
use Rattle.og_rel.specs.Relations.{present}
use Rattle.og_rel.proofs.PresentLemmas.{present-more}
use Rattle.og_join.proofs.SoughtLemmas.{keys_more}
use Rattle.og_join.proofs.sought.keys_of_left.Goals as goal

pub rows-preserved : goal.rows-preserved
rows-preserved g c d r =
    let at = g.R.Instant.meaning in
    let left = c.args.left.now in
    let p : g.row.R.Denot × List Range = get_or left c.rows.i (c.row.result.now, []) in
    let key_is = c.in_ok-key.ensures d r in
    subst (All (λ x. list_any (λ k. eq_by_cmp g.Q.Key.Ord.cmp k (g.Q.Keys.left_of c.args.keys.now x)) c.push.new.self.items ≡ true))
    (sym (present-more at left c.rows.i p d (search rules) (get_or_default left c.rows.i (c.row.result.now, []) p (search rules))))
    (keys_more g.met.Q.Key.Ord.total (g.Q.Keys.left_of c.args.keys.now) c.rows.found.items c.push.new.self.items c.in_ok-key.key _ (at p.0 d) (holds_day p.1 d) c.in_ok-push.ensures.items
    (subst (λ row. g.Q.Keys.left_of c.args.keys.now (at row d) ≡ c.in_ok-key.key) (c.row.ensures (c.row.result.now, [])) key_is) (c.rows.invariant d r))

pub returns : goal.returns
returns g c d r =
    subst (λ rel. All (λ x. list_any (λ k. eq_by_cmp g.Q.Key.Ord.cmp k (g.Q.Keys.left_of c.args.keys.now x)) c.rows.found.items ≡ true) (present g.R.Instant.meaning rel d))
    (take_all c.rows.i c.args.left.now (search rules)) (c.rows.invariant d r)

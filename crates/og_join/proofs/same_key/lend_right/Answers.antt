use Rattle.std.proofs.Common.{◌≡◌, ◌+◌, ◌<◌, ◌≤◌, ℤ, List, get_or, length, map, take, refl, sym, subst, ap, ◌∙◌, rules, arith}
use Rattle.std.specs.List.{Contains, list_any}
use Rattle.std.proofs.lemmas.List.{get_or-map, length-map, map-append, take_all}
use Rattle.std.proofs.lemmas.List.Elements.{All-same, All-push, Contains-get_or}
use Rattle.og_base.specs.Calendar.{IsRefDay}
use Rattle.og_base.specs.Ranges.{Range}
use Rattle.og_rel.specs.Relations.{present}
use Rattle.og_rel.specs.declared.pair.Pair.{Pair}
use Rattle.og_ops.specs.Lending.{lent}
use Rattle.og_join.specs.Sought.{IsSought}
use Rattle.og_join.proofs.SoughtLemmas.{found_with, found_without, length-pushed}
use Rattle.og_join.proofs.same_key.lend_right.Goals as goal

pub rows-preserved : goal.rows-preserved
rows-preserved g c =
    let pair_of : Pair g.row.R.Denot → g.row.R.Denot × List Range = λ q. (q.row, q.days) in
    let right = map pair_of c.args.right.now in
    let i = c.rows.pair-index in
    let p = pair_of c.pair-item.result in
    let within : i < length right = subst (λ n. i < n) (sym (length-map c.args.right.now pair_of)) c.rows-test.true in
    let is : p ≡ get_or right i p = ap pair_of c.pair-item.is ∙ sym (get_or-map pair_of c.args.right.now i c.pair-item.result p c.rows-test.true) in
    record {
      keys = All-same (λ s. (d : ℤ) → IsRefDay d → g.Q.Keys.right_of c.args.keys.now (g.R.Instant.meaning s.row.now d) ≡ s.key.key) _ _ c.in_ok-push.ensures.items
          (All-push (λ s. (d : ℤ) → IsRefDay d → g.Q.Keys.right_of c.args.keys.now (g.R.Instant.meaning s.row.now d) ≡ s.key.key) _ _ c.rows.invariant.keys c.in_ok-key.ensures);
      spans = All-same (λ s. g.S.Spans.right_of c.args.spans.now s.row.now ≡ s.key.span) _ _ c.in_ok-push.ensures.items
          (All-push (λ s. g.S.Spans.right_of c.args.spans.now s.row.now ≡ s.key.span) _ _ c.rows.invariant.spans (search rules));
      found = λ t d r of_sought.
          found_with g.R.Instant.meaning t d right i p c.rows.rows.items c.push.new.self.items _ within is c.in_ok-push.ensures.items refl (c.rows.invariant.found t d r of_sought);
      among = All-same (Contains right) _ _ (ap (λ rows. lent rows) c.in_ok-push.ensures.items ∙ map-append (λ q. (q.row.now, q.days.now)) c.rows.rows.items _)
          (All-push (Contains right) _ p c.rows.invariant.among (subst (Contains right) (sym is) (Contains-get_or right i p within)));
      size = subst (λ n. n ≤ i + 1) (sym (length-pushed _ _ _ c.in_ok-push.ensures.items)) (omega (arith, c.rows.invariant.size));
    }

pub rows-preserved-then-not-has : goal.rows-preserved-then-not-has
rows-preserved-then-not-has g c =
    let at = g.R.Instant.meaning in
    let pair_of : Pair g.row.R.Denot → g.row.R.Denot × List Range = λ q. (q.row, q.days) in
    let right = map pair_of c.args.right.now in
    let i = c.rows.pair-index in
    let p = pair_of c.pair-item.result in
    let within : i < length right = subst (λ n. i < n) (sym (length-map c.args.right.now pair_of)) c.rows-test.true in
    let is : p ≡ get_or right i p = ap pair_of c.pair-item.is ∙ sym (get_or-map pair_of c.args.right.now i c.pair-item.result p c.rows-test.true) in
    record {
      keys = c.rows.invariant.keys;
      spans = c.rows.invariant.spans;
      found = λ t d r of_sought.
          found_without at t d right i p (list_any t (present at (lent c.rows.rows.items) d)) within is
          (λ passes. c.has.ensures c.if-not-has.true (subst (IsSought g.Q.Key.Ord.cmp c.args.sought.now) (c.in_ok-key.ensures d r) (of_sought (at p.0 d) passes)))
          (c.rows.invariant.found t d r of_sought);
      among = c.rows.invariant.among;
      size = omega (arith, c.rows.invariant.size);
    }

pub returns : goal.returns
returns g c =
    let pair_of : Pair g.row.R.Denot → g.row.R.Denot × List Range = λ q. (q.row, q.days) in
    let right = map pair_of c.args.right.now in
    let long = length-map c.args.right.now pair_of in
    let all : take c.rows.pair-index right ≡ right = take_all c.rows.pair-index right (omega (arith, long, c.rows-test.false)) in
    record {
      keys = c.rows.invariant.keys;
      spans = c.rows.invariant.spans;
      found = λ t d r of_sought. c.rows.invariant.found t d r of_sought ∙ ap (λ rel. list_any t (present g.R.Instant.meaning rel d)) all;
      among = c.rows.invariant.among;
      size = omega (arith, long, c.rows.invariant.size, c.rows.auto.pair-index-end);
    }

use Rattle.std.proofs.Common.{◌≡◌, ◌≤◌, ◌||◌, ◌⊎◌, inl, inr, Bool, true, false, length, get_or, refl, ap, sym, ◌∙◌, arith}
use Rattle.std.specs.List.{list_any}
use Rattle.og_join.specs.Tried.{rows_pass}
use Rattle.og_join.proofs.PlaceTests.{at_both-get, at_both-past, list_any-push}
use Rattle.og_join.proofs.row_pairs.add_rows.Goals as goal
use Rattle.og_join.proofs.row_pairs.add_rows.Goals.{else-i-left-via-then-i-left+else-j-right, else-i-left-via-else-i-left}

pub returns-in_ok-push-clause-rows : goal.returns-in_ok-push-clause-rows
returns-in_ok-push-clause-rows c t =
    let left = c.args.left.now in
    let right = c.args.right.now in
    list_any-push (λ p. t p.0 p.1) c.args.rows.now.items c.push.new.self.items _ (rows_pass t left right c.args.place) c.in_ok-push.ensures.items
    (sym (at_both-get (λ a b. t a.row b.row) left right c.args.place.0 c.args.place.1 _ _ (search arith) (search arith) (ap (get_or left c.args.place.0) c.index-left-i.is) (ap (get_or right c.args.place.1) c.index-right-j.is)))

pub returns-else-i-left-clause-rows : goal.returns-else-i-left-clause-rows
returns-else-i-left-clause-rows c t =
    let past : (length c.args.left.now ≤ c.args.place.0) ⊎ (length c.args.right.now ≤ c.args.place.1) =
    elim c.else-i-left.branch [ else-i-left-via-then-i-left+else-j-right w ↦ inr (search arith) | else-i-left-via-else-i-left w ↦ inl (search arith) ] in
    sym (ap (λ b. list_any (λ p. t p.0 p.1) c.args.rows.now.items || b) (at_both-past (λ a b. t a.row b.row) c.args.left.now c.args.right.now c.args.place.0 c.args.place.1 past) ∙ or_false _)
  where
    or_false : (b : Bool) → (b || false) ≡ b
    or_false true = refl
    or_false false = refl

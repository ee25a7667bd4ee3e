use Rattle.std.proofs.Common.{◌≡◌, ◌*◌, ◌≤◌, ◌∙◌, sym, subst, length, arith, IsPermutation}
use Rattle.std.specs.List.{list_any}
use Rattle.std.proofs.lemmas.List.Sorted.{list_any-IsPermutation, length_permutation}
use Rattle.og_join.specs.Overlaps.{overlaps}
use Rattle.og_join.specs.Tried.{rows_pass}
use Rattle.og_join.proofs.BlockLemmas.{pairs_of_places, places_size}
use Rattle.og_join.proofs.row_pairs.row_pairs.Goals as goal

pub returns-clause-rows : goal.returns-clause-rows
returns-clause-rows c t =
    let rising = c.in_ok-rising.rising in
    let pairs = c.in_ok-pairs.pairs.items in
    let given = c.as_slice.result.now in
    let right = c.args.right.now in
    let lent = c.as_slice-right.result.now in
    let moved = subst (λ ys. IsPermutation c.in_ok-places.places.items (overlaps (λ o. o.lo) (λ o. o.hi) 0 0 rising ys)) c.as_slice-right.ensures.same
    (subst (λ xs. IsPermutation c.in_ok-places.places.items (overlaps (λ o. o.lo) (λ o. o.hi) 0 0 xs lent)) c.as_slice-left.ensures.same c.in_ok-places.ensures) in
    let rows = subst (λ ys. list_any (λ p. t p.0 p.1) pairs ≡ list_any (rows_pass t rising ys) given) c.as_slice-right.ensures.same
    (subst (λ xs. list_any (λ p. t p.0 p.1) pairs ≡ list_any (rows_pass t xs lent) given) c.as_slice-left.ensures.same (c.in_ok-pairs.ensures.rows t)) in
    sym (list_any-IsPermutation (λ p. t p.0 p.1) pairs c.sort_unstable.new.self.items c.sort_unstable.ensures.permutation) ∙ rows
    ∙ pairs_of_places t c.args.left.now rising right c.in_ok-places.places.items given c.in_ok-rising.ensures c.as_slice.ensures.value moved

pub returns-clause-size : goal.returns-clause-size
returns-clause-size c =
    let rising = c.in_ok-rising.rising in
    let right = c.args.right.now in
    let sorted = c.sort_unstable.new.self.items in
    let lent = c.as_slice-right.result.now in
    let moved = subst (λ ys. IsPermutation c.in_ok-places.places.items (overlaps (λ o. o.lo) (λ o. o.hi) 0 0 rising ys)) c.as_slice-right.ensures.same
    (subst (λ xs. IsPermutation c.in_ok-places.places.items (overlaps (λ o. o.lo) (λ o. o.hi) 0 0 xs lent)) c.as_slice-left.ensures.same c.in_ok-places.ensures) in
    let most = places_size rising right c.in_ok-places.places.items c.as_slice.result.now c.as_slice.ensures.value moved in
    let same = length_permutation c.in_ok-pairs.pairs.items sorted c.sort_unstable.ensures.permutation in
    let all : length sorted ≤ length rising * length right = omega (arith, same, c.in_ok-pairs.ensures.size, most) in
    subst (λ n. length sorted ≤ n * length right) (length_permutation c.args.left.now rising c.in_ok-rising.ensures) all

use Rattle.std.proofs.Common.{◌≡◌, ◌+◌, ◌<◌, ◌≤◌, length, take, drop, sym, ap, ◌∙◌, arith, length-drop, length-append}
use Rattle.std.proofs.lemmas.List.{drop_all, length-take-le}
use Rattle.og_io.proofs.Fronts.{take-drop_all, drop-copied}
use Rattle.og_io.proofs.memory.MemSourceSource.next.Goals as goal

pub returns-clause-bytes : goal.returns-clause-bytes
returns-clause-bytes c =
    let n = c.min-count.result in
    let at = c.self.inside.at in
    let xs = c.self.inside.bytes.items in
    let whole = take-drop_all at c.deref.result.now ∙ ap (drop at) c.deref.ensures.value in
    let copied : c.copy_from_slice.new.self ≡ take n (drop at xs) = c.copy_from_slice.ensures.after ∙ ap (take n) whole in
    let fits : n ≤ length (drop at xs) = omega (arith, ap length whole) in (
      ap (λ v. v.left) (sym c.self.view_is) ∙ drop-copied at n xs (drop n c.args.buf.now) c.copy_from_slice.new.self fits copied,
      λ zero room.
          let long : length c.copy_from_slice.new.self ≡ n = ap length copied ∙ length-take-le n (drop at xs) fits in
          let some : 0 < length c.args.buf.now =
          omega (arith, length-append c.copy_from_slice.new.self (drop n c.args.buf.now), length-drop n c.args.buf.now) in
          drop_all (at + n) xs (omega (arith, c.self.invariant, ap length whole, length-drop at xs)),
    )

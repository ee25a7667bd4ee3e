use Rattle.std.proofs.Common.{◌≡◌, ◌∙◌, ◌++◌, ◌∷◌, []}
use Rattle.og_base.specs.Told.{IsPrefix}
use Rattle.og_base.proofs.SetTexts.{put_first, put_next, IsPrefix-more}
use Rattle.og_base.proofs.set_text.put_set.Goals as goal
use Rattle.og_base.proofs.set_text.put_set.Goals.{then-i-gt0+in_ok-push-2, else-i-gt0}

pub returns-in_err-put_range-clause-kept : goal.returns-in_err-put_range-clause-kept
returns-in_err-put_range-clause-kept c =
    let before : IsPrefix c.args.out.now.items c.if-i-gt0.out.items = elim c.if-i-gt0.branch [
      | then-i-gt0+in_ok-push-2 w ↦
          let comma : c.if-i-gt0.out.items ≡ c.each.out.items ++ 44 ∷ [] = cc (w.out-is, w.in_ok-push-2.ensures.items) in
          IsPrefix-more _ _ _ (_, c.each.invariant) (_, comma)
      | else-i-gt0 w ↦
          let same : c.if-i-gt0.out.items ≡ c.each.out.items = cc (w.out-is) in
          (_, same ∙ c.each.invariant)
    ] in
    IsPrefix-more _ _ _ before c.put_range.ensures.kept

pub each-preserved : goal.each-preserved
each-preserved c =
    c.in_ok-put_range.ensures.written
    ∙ elim c.if-i-gt0.branch [
      | then-i-gt0+in_ok-push-2 w ↦
          let comma : c.if-i-gt0.out.items ≡ c.each.out.items ++ 44 ∷ [] = cc (w.out-is, w.in_ok-push-2.ensures.items) in
          put_next _ _ _ _ c.each.i c.range.result c.each.invariant comma w.if-i-gt0.true c.range.ensures
      | else-i-gt0 w ↦
          let same : c.if-i-gt0.out.items ≡ c.each.out.items = cc (w.out-is) in
          put_first _ _ _ _ c.each.i c.range.result c.each.invariant same w.if-i-gt0.false c.range.ensures
    ]

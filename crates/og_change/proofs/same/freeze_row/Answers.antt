use Rattle.std.proofs.Common.{◌≡◌, Bool, true, [], ◌∷◌, if◌then◌else◌, sym, ap, ◌∙◌}
use Rattle.og_base.specs.Ranges.{holds_day}
use Rattle.og_base.proofs.SetOpLemmas.{holds_day-all}
use Rattle.og_ops.proofs.RowLemmas.{pushed_rows}
use Rattle.og_change.proofs.same.freeze_row.Goals as goal

-- a row that is frozen is the row of the day, where it is present
one : {F : Type 0} (x y : F) (held there : Bool) → held ≡ true → there ≡ true → x ≡ y → (if held then x ∷ [] else []) ≡ (if there then y ∷ [] else [])
one x y held there h t e = rw (h, t) (ap (λ z. z ∷ []) e)

pub returns-in_ok-push : goal.returns-in_ok-push
returns-in_ok-push g c e r =
    let at = g.R.Instant.meaning in
    let there = holds_day c.args.days.now c.args.d in
    pushed_rows at c.args.frozen.now c.push.new.self c.in_ok-still.still c.in_ok-all.field-0 e (if there then at c.args.row.now c.args.d ∷ [] else []) c.in_ok-push.ensures.pushed
    (one (at c.in_ok-still.still e) (at c.args.row.now c.args.d) (holds_day c.in_ok-all.field-0 e) there
    (ap (λ days. holds_day days e) c.in_ok-all.ensures ∙ holds_day-all e r) (sym c.contains.ensures ∙ c.if-contains.true) (c.in_ok-still.ensures e r))

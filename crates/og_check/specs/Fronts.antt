-- What loops have checked so far, before the rest. Beside private functions alone.
use Rattle.std.specs.Prelude.{◌++◌, List, [], ◌∷◌, map}
use Rattle.og_check.specs.Steps.{Checked, ◌>>=◌, pure}

-- the front of a list before the rest that is checked
abbrev pub with_front : {A : Type 0} → List A → Checked (List A) → Checked (List A)
with_front front rest = do xs ← rest; pure (front ++ xs)

-- the fronts of two lists before the rest that is checked, whose pairs are parted
abbrev pub with_fronts : {A B : Type 0} → List A → List B → Checked (List (A × B)) → Checked (List A × List B)
with_fronts left right rest = do xs ← rest; pure (left ++ map (λ x. x.0) xs, right ++ map (λ x. x.1) xs)

-- pairs that are checked, as two lists
abbrev pub parted : {A B : Type 0} → Checked (List (A × B)) → Checked (List A × List B)
parted = with_fronts [] []

-- two lists with a pair that is checked, parted, at their ends
abbrev pub with_pair : {A B : Type 0} → List A → List B → Checked (A × B) → Checked (List A × List B)
with_pair left right pair = do x ← pair; pure (left ++ x.0 ∷ [], right ++ x.1 ∷ [])

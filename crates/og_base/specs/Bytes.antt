-- Bytes round a separator.
use Rattle.std.specs.Prelude.{◌≡◌, ◌≢◌, ◌++◌, ℕ, List, [], ◌∷◌, ⊤}

-- the byte is not among them
abbrev pub Lacks : ℕ → List ℕ → Type 0
Lacks b [] = ⊤
Lacks b (x ∷ xs) = (x ≢ b) × Lacks b xs

-- the text is cut at its first such byte
pub record IsCutAt (b : ℕ) (text before after : List ℕ) : Type 0 where
  pub joined : text ≡ before ++ b ∷ after
  pub first : Lacks b before

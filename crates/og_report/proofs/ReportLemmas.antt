-- How a message is put together.
use Rattle.std.proofs.Common.{◌≡◌, ◌++◌, ℕ, List, codes, sym, ◌∙◌}
use Rattle.std.specs.Fmt.{decimal}
use Rattle.std.proofs.lemmas.List.{append_assoc}

-- from its end
pub placed : (line column : ℕ) (rest : List ℕ) → decimal line ++ (codes ":" ++ (decimal column ++ (codes ": " ++ rest))) ≡ decimal line ++ codes ":" ++ decimal column ++ codes ": " ++ rest
placed line column rest =
    sym (append_assoc (decimal line ++ codes ":" ++ decimal column) (codes ": ") rest
    ∙ append_assoc (decimal line ++ codes ":") (decimal column) (codes ": " ++ rest)
    ∙ append_assoc (decimal line) (codes ":") (decimal column ++ (codes ": " ++ rest)))

-- The lines of faults.
use Rattle.std.proofs.Common.{◌≡◌, ◌++◌, ℕ, List, [], ◌∷◌, codes, sym, ◌∙◌}
use Rattle.std.specs.Fmt.{decimal}
use Rattle.std.proofs.lemmas.List.{append_assoc}
use Rattle.og_faults.specs.Lines.{numbered, numbered_between}

-- a line that is put together from its end
pub line-between : (words : List ℕ) (n : ℕ) (found between wanted : List ℕ) → words ++ (decimal n ++ (codes ": " ++ (found ++ (between ++ (wanted ++ 10 ∷ []))))) ≡ numbered_between words n found between wanted
line-between words n found between wanted =
    sym (append_assoc (words ++ decimal n ++ codes ": " ++ found ++ between) wanted (10 ∷ [])
    ∙ append_assoc (words ++ decimal n ++ codes ": " ++ found) between (wanted ++ 10 ∷ [])
    ∙ append_assoc (words ++ decimal n ++ codes ": ") found (between ++ (wanted ++ 10 ∷ []))
    ∙ append_assoc (words ++ decimal n) (codes ": ") (found ++ (between ++ (wanted ++ 10 ∷ [])))
    ∙ append_assoc words (decimal n) (codes ": " ++ (found ++ (between ++ (wanted ++ 10 ∷ [])))))

-- and one that begins with more than words
pub line-after : (words first between : List ℕ) (n : ℕ) → words ++ (first ++ (between ++ (decimal n ++ 10 ∷ []))) ≡ numbered (words ++ first ++ between) n
line-after words first between n =
    sym (append_assoc (words ++ first ++ between) (decimal n) (10 ∷ [])
    ∙ append_assoc (words ++ first) between (decimal n ++ 10 ∷ [])
    ∙ append_assoc words first (between ++ (decimal n ++ 10 ∷ [])))

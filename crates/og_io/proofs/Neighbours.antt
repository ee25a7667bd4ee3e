-- The folder of a name.
use Rattle.std.proofs.Common.{◌≡◌, ◌≢◌, ℕ, ◌+◌, ◌<◌, List, ◌∷◌, ◌++◌, [], length, get_or, take, drop, sym, ap, ◌∙◌, inl, inr, refl, arith, take-append-drop, length-drop}
use Rattle.std.proofs.lemmas.List.{get_or-drop, take_more}
use Rattle.og_io.specs.Neighbours.{IsFolderOf}

-- up to the last slash
pub folder_to_slash : (name : List ℕ) (at : ℕ) → at < length name → get_or name at 0 ≡ 47
    → ((i : ℕ) → at < i → i < length name → get_or name i 0 ≢ 47) → IsFolderOf name (take (at + 1) name)
folder_to_slash name at within slash none = record {
  last = drop (at + 1) name;
  name_is = sym (take-append-drop (at + 1) name);
  one_part = λ i b. λ e. none (at + 1 + i) (omega arith) (omega (arith, b, length-drop (at + 1) name)) (sym (get_or-drop (at + 1) name i 0) ∙ e);
  ended = inr (take at name, take_more name at 0 within ∙ ap (λ b. take at name ++ b ∷ []) slash);
}

-- no slash
pub no_folder : (name : List ℕ) → ((i : ℕ) → i < length name → get_or name i 0 ≢ 47) → IsFolderOf name []
no_folder name none = record { last = name; name_is = refl; one_part = none; ended = inl refl }

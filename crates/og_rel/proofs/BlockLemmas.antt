-- Blocks of a list: the chunks that std gives of it.
use Rattle.std.proofs.Common.{◌≡◌, ◌++◌, List, [], ◌∷◌, length, refl, sym, ap, ◌∙◌, arith}
use Rattle.std.specs.Iterator.{Yields, Drains}
use Rattle.std.specs.List.{flat_map}
use Rattle.std.specs.Slice.Iter.{chunks_rest, chunks_steps}
use Rattle.std.specs.declared.slice.Chunks.{Chunks}
use Rattle.std.proofs.lemmas.List.{append_assoc, append-nil}
use Rattle.std.proofs.lemmas.List.Concat.{flat_map-cons}
use denote.Ref.{Bor}

module _ {A : Type 0} where
  -- the chunks that came, and what is left
  flat_map-yields : (s t : Chunks A) (xs : List (Bor (List A))) → Yields chunks_steps s xs t → flat_map (λ b. b.now) xs ++ chunks_rest t ≡ chunks_rest s
  flat_map-yields s t [] y = ap chunks_rest (sym y)
  flat_map-yields s t (x ∷ xs) y =
      ap (λ ys. ys ++ chunks_rest t) (flat_map-cons (λ b. b.now) x xs) ∙ append_assoc x.now (flat_map (λ b. b.now) xs) (chunks_rest t)
      ∙ ap (λ ys. x.now ++ ys) (flat_map-yields y.0 t xs y.2) ∙ sym y.1.1.0

  -- all chunks, one after the other, are the list
  pub flat_map-chunks : (s : Chunks A) (blocks : List (Bor (List A))) → Drains chunks_steps s blocks → flat_map (λ b. b.now) blocks ≡ chunks_rest s
  flat_map-chunks s blocks drained =
      let none = drained.1.2.1.0 in
      sym (append-nil (flat_map (λ b. b.now) blocks))
      ∙ ap (λ ys. flat_map (λ b. b.now) blocks ++ ys) (sym (nothing (chunks_rest drained.1.0) none)) ∙ flat_map-yields s drained.1.0 blocks drained.1.1
    where
      nothing : (ys : List A) → length ys ≡ 0 → ys ≡ []
      nothing [] e = refl
      nothing (y ∷ ys) e = absurd (omega (arith, e))

-- What is left where a file was not replaced, and which paths are taken.
use Rattle.std.proofs.Common.{◌≡◌, ◌⊎◌, ◌+◌, ℕ, List, Bool, true, false, None, sym, ◌∙◌, subst, inl, inr, refl, arith}
use Rattle.std.proofs.lemmas.Slice.Eq.{bytes_eq-Decides}
use Rattle.std.proofs.lemmas.Bool.{cases_lt, false≢true}
use Rattle.std.specs.Bool.{Decides}
use Rattle.std.specs.Str.{bytes_eq}
use Rattle.og_base.specs.Told.{Rose}
use Rattle.og_io.specs.Folders.{Folder, IsSame, IsSameBut}
use Rattle.og_io.specs.Replacing.{IsSameButKept, AreTaken}
use Rattle.og_io.specs.Neighbours.{IsNumbered}

decided : (b : Bool) (P : Type 0) → Decides b P → P ⊎ ¬ P
decided true P d = inl (d.0 refl)
decided false P d = inr (λ p. false≢true (d.1 p))

-- two paths are one or not
pub same_or_not : (xs ys : List ℕ) → (xs ≡ ys) ⊎ ¬ (xs ≡ ys)
same_or_not xs ys = decided (bytes_eq xs ys) (xs ≡ ys) (bytes_eq-Decides xs ys)

-- the new file is removed, or its removal failed
pub kept_back : (other name : List ℕ) (first old made now : Folder) (kept kept_now : ℕ)
    → IsSame first old → old other ≡ None → IsSameBut other old made
    → ((path : List ℕ) → ¬ (path ≡ other) → ¬ (path ≡ name) → now path ≡ made path)
    → now name ≡ made name → ¬ (other ≡ name)
    → (now other ≡ None) ⊎ Rose kept kept_now
    → IsSameButKept first now kept kept_now
kept_back other name first old made now kept kept_now before free make rest unmoved apart left path =
    elim (same_or_not path other) [
      | inl e ↦ subst (λ p. (now p ≡ first p) ⊎ ((first p ≡ None) × Rose kept kept_now)) (sym e) (elim left [
        | inl gone ↦ inl (gone ∙ sym (sym (before other) ∙ free))
        | inr rose ↦ inr (sym (before other) ∙ free, rose)
      ])
      | inr apart_o ↦ inl (elim (same_or_not path name) [
        | inl e ↦ subst (λ p. now p ≡ first p) (sym e) (unmoved ∙ make name (λ s. apart (sym s)) ∙ before name)
        | inr other_one ↦ rest path apart_o other_one ∙ make path apart_o ∙ before path
      ])
    ]

-- one path more is taken
pub one_more_taken : (name path : List ℕ) (count : ℕ) (files : Folder) → AreTaken name count files
    → IsNumbered name count path → ((path ≡ name) ⊎ (¬ (files path ≡ None))) → AreTaken name (count + 1) files
one_more_taken name path count files taken numbered that number within =
    elim (cases_lt number count) [
      | inl below ↦ taken number below
      | inr above ↦ subst (λ n. (p : List ℕ) × IsNumbered name n p × ((p ≡ name) ⊎ (¬ (files p ≡ None)))) (omega (arith, within, above)) (path, numbered, that)
    ]

-- What becomes of each name at a DROP.
use Rattle.std.proofs.Common.{◌≡◌, ℕ, Bool, true, false, cond, not, List, [], ◌∷◌, Option, Some, None, if◌then◌else◌, refl, sym, ap, ◌∙◌, subst}
use Rattle.std.specs.Cmp.Lexicographic.{same_text}
use Rattle.std.specs.List.{AllByRecursion, IsDistinct}
use Rattle.std.specs.Map.{lookup, keys_of}
use Rattle.std.specs.Str.{bytes_eq}
use Rattle.std.proofs.lemmas.Map.Keys.{IsDistinct-head, IsDistinct-tail}
use Rattle.og_view.specs.Views.{Seen}
use Rattle.og_session.specs.Following.{lasting, view_ends}
use Rattle.og_session.specs.Names.{Views}

-- no view has the name where no key is it
none_lookup : (n : List ℕ) (views : Views) → AllByRecursion (λ key. bytes_eq n key ≡ false) (keys_of views) → lookup (bytes_eq n) views ≡ None
none_lookup n [] all = refl
none_lookup n (v ∷ views) all = ap (λ b. cond b (Some v.1) (lookup (bytes_eq n) views)) all.0 ∙ none_lookup n views all.1

-- the view of a name that is the key of the first is that one alone
pub none_behind : (n : List ℕ) (v : List ℕ × Seen) (views : Views) → IsDistinct bytes_eq (keys_of (v ∷ views)) → bytes_eq n v.0 ≡ true → lookup (bytes_eq n) views ≡ None
none_behind n v views apart is =
    none_lookup n views (subst (λ k. AllByRecursion (λ key. bytes_eq k key ≡ false) (keys_of views)) (sym (same_text n v.0 (sym is))) (IsDistinct-head bytes_eq v.0 (keys_of views) apart))

module _ (name : List ℕ) where
  -- a view of a name, unless it ends
  abbrev pub kept_view : List ℕ → Option Seen → Option Seen
  kept_view n None = None
  kept_view n (Some s) = if view_ends name (n, s) then None else Some s

  -- the lasting view of a name
  pub lookup-lasting : (views : Views) → IsDistinct bytes_eq (keys_of views) → (n : List ℕ) → lookup (bytes_eq n) (lasting name views) ≡ kept_view n (lookup (bytes_eq n) views)
  lookup-lasting [] apart n = refl
  lookup-lasting (v ∷ views) apart n =
      at (bytes_eq n v.0) refl (view_ends name v) refl (lookup-lasting views (IsDistinct-tail bytes_eq v.0 (keys_of views) apart) n)
    where
      ends_same : bytes_eq n v.0 ≡ true → view_ends name (n, v.1) ≡ view_ends name v
      ends_same is = ap (λ k. view_ends name (k, v.1)) (same_text n v.0 (sym is))

      at : (b : Bool) → bytes_eq n v.0 ≡ b → (e : Bool) → view_ends name v ≡ e → lookup (bytes_eq n) (lasting name views) ≡ kept_view n (lookup (bytes_eq n) views)
          → lookup (bytes_eq n) (cond (not e) (v ∷ lasting name views) (lasting name views)) ≡ kept_view n (cond b (Some v.1) (lookup (bytes_eq n) views))
      at true is true ends rest =
          rest ∙ ap (kept_view n) (none_behind n v views apart is) ∙ sym (ap (λ e. if e then None else Some v.1) (ends_same is ∙ ends))
      at true is false ends rest =
          ap (λ b. cond b (Some v.1) (lookup (bytes_eq n) (lasting name views))) is ∙ sym (ap (λ e. if e then None else Some v.1) (ends_same is ∙ ends))
      at false is true ends rest = rest
      at false is false ends rest = ap (λ b. cond b (Some v.1) (lookup (bytes_eq n) (lasting name views))) is ∙ rest

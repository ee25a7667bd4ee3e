-- The names of columns, one after the other.
use Rattle.std.proofs.Common.{◌≡◌, ◌∙◌, ℕ, zero, suc, ◌<◌, List, [], ◌∷◌, ◌++◌, Some, None, length, map, sym, ap, ap₂, slice_get, arith}
use Rattle.std.proofs.lemmas.List.{map-append}
use Rattle.csv.specs.Records.{field_at}
use Rattle.og_value.specs.Words.{folded}
use Rattle.og_value.specs.declared.schema.Column.{Column}
use Rattle.og_file.specs.Records.{Record}
use Rattle.og_file.specs.TableFile.{HasNames}

-- one name more
pub next_name : (cs : List Column) (fs : Record) (c : Column) (f : List ℕ) → HasNames cs fs → folded f ≡ c.name → HasNames (cs ++ c ∷ []) (fs ++ f ∷ [])
next_name cs fs c f has is =
    map-append folded fs (f ∷ []) ∙ ap₂ (λ xs y. xs ++ y ∷ []) has is ∙ sym (map-append (λ c. c.name) cs (c ∷ []))

-- the name of a column
pub name_at : (cs : List Column) (fs : Record) (i : ℕ) (c : Column) (f : List ℕ) → HasNames cs fs → slice_get cs i ≡ Some c → field_at fs i ≡ Some f → folded f ≡ c.name
unfolding field_at
name_at [] fs i c f has is at = cc is
name_at (c1 ∷ cs) [] i c f has is at = cc at
name_at (c1 ∷ cs) (f1 ∷ fs) zero c f has is at =
    let same : c1 ≡ c = cc is in
    let one : f1 ≡ f = cc at in
    let first : folded f1 ≡ c1.name = cc has in
    ap folded (sym one) ∙ first ∙ ap (λ c. c.name) same
name_at (c1 ∷ cs) (f1 ∷ fs) (suc i) c f has is at = name_at cs fs i c f (let rest : map folded fs ≡ map (λ c. c.name) cs = cc has in rest) is at

none_below : (i : ℕ) → i < 0 → ⊥
none_below i less = omega (arith, less)

below : (i n : ℕ) → suc i < suc n → i < n
below i n less = omega (arith, less)

-- a column has a name
pub no_name : (cs : List Column) (fs : Record) (i : ℕ) → HasNames cs fs → i < length cs → field_at fs i ≡ None → ⊥
unfolding field_at
no_name [] fs i has less none = none_below i less
no_name (c ∷ cs) [] i has less none = cc has
no_name (c ∷ cs) (f ∷ fs) zero has less none = cc none
no_name (c ∷ cs) (f ∷ fs) (suc i) has less none = no_name cs fs i (let rest : map folded fs ≡ map (λ c. c.name) cs = cc has in rest) (below i (length cs) less) none

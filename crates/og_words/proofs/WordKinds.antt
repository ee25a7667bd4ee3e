-- Words that clap is asked about have a form, or clap refuses them; and those of each form are asked about.
use Rattle.std.proofs.Common.{◌≡◌, ◌⊎◌, inl, inr, ◌&&◌, ◌||◌, ◌≤◌, ◌∙◌, ℕ, List, [], ◌∷◌, Bool, true, false, eqb, not, codes, refl, sym, ap, ap₂, subst, length, map, nat_le, arith, Bor}
use Rattle.std.specs.List.{list_all, starts_with}
use Rattle.std.specs.Str.{bytes_eq}
use Rattle.std.proofs.lemmas.Bool.Decides.{Decides-eqb}
use Rattle.std.proofs.lemmas.Slice.Eq.{bytes_eq-Decides, starts_is}
use Rattle.std.proofs.lemmas.Bool.{le-leb, leb-true}
use Rattle.std.proofs.lemmas.List.{length-map}
use Rattle.std.proofs.lemmas.List.Folds.{list_all-map}
use Rattle.og_words.specs.Grammar.{is_value}
use Rattle.og_words.specs.Shape.{are_asked, is_asked, is_name}
use Rattle.og_words.proofs.Forms.{Form, Kind, Told, apart_load, at_both, at_told, joined, joined_load, load_alone, load_apart, load_joined, load_told, option, run_alone, run_apart, run_joined, run_told, value, word, words}

both : (a b : Bool) → (a && b) ≡ true → (a ≡ true) × (b ≡ true)
both true b h = (refl, h)
both false b h = cc

either : (a b : Bool) → (a || b) ≡ true → (a ≡ true) ⊎ (b ≡ true)
either true b h = inl refl
either false b h = inr h

-- the kind of a word
abbrev AKind : List ℕ → Type 0
AKind w = (k : Kind) × (w ≡ word k)

value_kind : (w : List ℕ) → is_value w ≡ true → AKind w
value_kind [] h = cc
value_kind (c ∷ f) h = (value c f (by_bool (eqb c 45) h), refl)
  where
    by_bool : (x : Bool) → not x ≡ true → x ≡ false
    by_bool true e = cc
    by_bool false e = refl

kind_of : (w : List ℕ) → is_asked w ≡ true → AKind w
kind_of w h = by (either (is_value w) _ h)
  where
    by_option : (bytes_eq w (codes "--workers") ≡ true) ⊎ (starts_with eqb w (codes "--workers=") ≡ true) → AKind w
    by_option (inl same) = (option, (bytes_eq-Decides w (codes "--workers")).0 same)
    by_option (inr begun) = (joined _, (starts_is Decides-eqb w (codes "--workers=") _ refl).0 begun)

    by : (is_value w ≡ true) ⊎ ((bytes_eq w (codes "--workers") || starts_with eqb w (codes "--workers=")) ≡ true) → AKind w
    by (inl is) = value_kind w is
    by (inr other) = by_option (either (bytes_eq w (codes "--workers")) _ other)

kinds_of : (ws : List (List ℕ)) → list_all is_asked ws ≡ true → (ks : List Kind) × (ws ≡ map word ks)
kinds_of [] h = ([], refl)
kinds_of (w ∷ ws) h =
    let p = both (is_asked w) (list_all is_asked ws) h in
    let k = kind_of w p.0 in
    let ks = kinds_of ws p.1 in
    (k.0 ∷ ks.0, ap₂ (λ x xs. x ∷ xs) k.1 ks.1)

-- words that are asked about are refused, or have a form
pub asked_told : (ws : List (List ℕ)) → are_asked ws ≡ true → Told ws
asked_told [] h = cc
asked_told (first ∷ rest) h = by (either (bytes_eq first (codes "run")) _ named.0)
  where
    named : (is_name first ≡ true) × ((nat_le (length rest) 3 && list_all is_asked rest) ≡ true)
    named = both (is_name first) _ h

    rest_is : (nat_le (length rest) 3 ≡ true) × (list_all is_asked rest ≡ true)
    rest_is = both (nat_le (length rest) 3) _ named.1

    ks : (ks : List Kind) × (rest ≡ map word ks)
    ks = kinds_of rest rest_is.1

    few : length ks.0 ≤ 3
    few = omega (arith, ap length ks.1, length-map ks.0 word, leb-true (length rest) 3 rest_is.0)

    same : (name : List ℕ) → bytes_eq first name ≡ true → first ∷ rest ≡ name ∷ map word ks.0
    same name e = ap₂ (λ x xs. x ∷ xs) ((bytes_eq-Decides first name).0 e) ks.1

    by_two : (bytes_eq first (codes "at") ≡ true) ⊎ (bytes_eq first (codes "load") ≡ true) → Told (first ∷ rest)
    by_two (inl e) = subst Told (sym (same (codes "at") e)) (at_told ks.0 few)
    by_two (inr e) = subst Told (sym (same (codes "load") e)) (load_told ks.0 few)

    by : (bytes_eq first (codes "run") ≡ true) ⊎ ((bytes_eq first (codes "at") || bytes_eq first (codes "load")) ≡ true) → Told (first ∷ rest)
    by (inl e) = subst Told (sym (same (codes "run") e)) (run_told ks.0 few)
    by (inr other) = by_two (either (bytes_eq first (codes "at")) _ other)

pub form_asked : (f : Form) → are_asked (words f) ≡ true
form_asked run_alone = refl
form_asked (run_apart v vs h) = simp h
form_asked (run_joined v) = refl
form_asked (at_both f fs d ds h k) = simp (h, k)
form_asked (load_alone n ns h) = simp h
form_asked (apart_load v vs n ns h k) = simp (h, k)
form_asked (joined_load v n ns h) = simp h
form_asked (load_apart n ns v vs h k) = simp (h, k)
form_asked (load_joined n ns v h) = simp h

-- whether words that are lent are asked about, by the first and the others
pub asked_rest : (ws rest : List (Bor (List ℕ))) (first : Bor (List ℕ)) (r : Bool) → ws ≡ first ∷ rest → is_name first.now ≡ true → length rest ≤ 3 → r ≡ list_all (λ (w : Bor (List ℕ)). is_asked w.now) rest
    → r ≡ are_asked (map (λ (w : Bor (List ℕ)). w.now) ws)
asked_rest ws rest first r e named few all =
    all ∙ sym (list_all-map is_asked (λ (w : Bor (List ℕ)). w.now) rest)
    ∙ sym (rw (e, named) (ap (λ b. b && list_all is_asked (map (λ (w : Bor (List ℕ)). w.now) rest)) (le-leb (length (map (λ (w : Bor (List ℕ)). w.now) rest)) 3 (omega (arith, few, length-map rest (λ (w : Bor (List ℕ)). w.now))))))

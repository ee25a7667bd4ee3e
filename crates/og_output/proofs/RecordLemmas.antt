-- Records, one more after the others, and which name is held at a place.
use Rattle.std.proofs.Common.{◌≡◌, ◌<◌, ◌+◌, ◌++◌, ◌∷◌, ◌∙◌, ℕ, zero, suc, false, List, [], Some, length, map, take, get_or, refl, sym, ap, arith, append_assoc}
use Rattle.std.specs.List.{AllByRecursion, IsDistinct}
use Rattle.std.specs.Option.{option_map}
use Rattle.std.specs.Bool.{one_answer}
use Rattle.std.specs.Str.{bytes_eq}
use Rattle.std.proofs.lemmas.Map.Keys.{IsDistinct-head, IsDistinct-tail}
use Rattle.std.proofs.lemmas.Slice.Eq.{bytes_eq-Decides}
use Rattle.std.proofs.lemmas.List.{append-nil, flat_map_more, map-append, take_more}
use Rattle.csv.specs.Writing.{default_writer, row_text}
use Rattle.og_db.specs.Held.{Held, described, found, known_of}
use Rattle.og_output.specs.Records.{records}

-- one record more
pub records-push : (rows : List (List (List ℕ))) (row : List (List ℕ)) → records (rows ++ row ∷ []) ≡ records rows ++ row_text default_writer row
unfolding records
records-push rows row = sym (flat_map_more (row_text default_writer) [] rows row)

-- one record alone
pub records-one : (row : List (List ℕ)) → records (row ∷ []) ≡ row_text default_writer row
unfolding records
records-one row = append-nil (row_text default_writer row)

-- some records and those of a list's elements up to a place, and of one more
pub records-more : {A : Type 0} (front : List (List (List ℕ))) (f : A → List (List ℕ)) (xs : List A) (i : ℕ) (other : A) → i < length xs
    → records (front ++ map f (take (i + 1) xs)) ≡ records (front ++ map f (take i xs)) ++ row_text default_writer (f (get_or xs i other))
records-more front f xs i other within =
    let row = f (get_or xs i other) in
    ap (λ ys. records (front ++ map f ys)) (take_more xs i other within)
    ∙ ap (λ rows. records (front ++ rows)) (map-append f (take i xs) (get_or xs i other ∷ []))
    ∙ ap records (sym (append_assoc front (map f (take i xs)) (row ∷ [])))
    ∙ records-push (front ++ map f (take i xs)) row

-- a text that another is apart from is apart from it
apart_back : (left right : List ℕ) → bytes_eq left right ≡ false → bytes_eq right left ≡ false
apart_back left right apart =
    let decides = bytes_eq-Decides left right in
    one_answer (bytes_eq right left) (bytes_eq left right) (bytes_eq-Decides right left) (λ e. sym (decides.0 e), λ e. decides.1 (sym e)) ∙ apart

module _ {V : Type 0} where
  -- a name that all others are apart from is apart from the one at a place
  apart_at : (db : List (Held V)) (i : ℕ) (other : Held V) (name : List ℕ) → i < length db → AllByRecursion (λ key. bytes_eq name key ≡ false) (map (λ h. h.name) db)
      → bytes_eq name (get_or db i other).name ≡ false
  apart_at [] i other name within all = absurd (omega (arith, within))
  apart_at (h ∷ hs) zero other name within all = all.0
  apart_at (h ∷ hs) (suc i) other name within all = apart_at hs i other name (omega (arith, within)) all.1

  -- where names are apart, what is found under the name at a place is what is there
  found_at : (db : List (Held V)) (i : ℕ) (other : Held V) → i < length db → IsDistinct bytes_eq (map (λ h. h.name) db)
      → found db (get_or db i other).name ≡ Some (get_or db i other)
  found_at [] i other within apart = absurd (omega (arith, within))
  found_at (h ∷ hs) zero other within apart = rw ((bytes_eq-Decides h.name h.name).1 refl) refl
  found_at (h ∷ hs) (suc i) other within apart =
      let name = (get_or hs i other).name in
      let here = apart_at hs i other h.name (omega (arith, within)) (IsDistinct-head bytes_eq h.name (map (λ h. h.name) hs) apart) in
      rw (apart_back h.name name here) (found_at hs i other (omega (arith, within)) (IsDistinct-tail bytes_eq h.name (map (λ h. h.name) hs) apart))

  -- where names are apart, a name is what is held at its place
  pub what_at : (db : List (Held V)) (i : ℕ) (other : Held V) (name : List ℕ) → i < length db → IsDistinct bytes_eq (map (λ h. h.name) db) → name ≡ (get_or db i other).name
      → option_map (λ k. k.0) (known_of db name) ≡ Some (get_or db i other).what
  what_at db i other name within apart is = ap (λ h. option_map (λ k. k.0) (option_map described h)) (ap (found db) is ∙ found_at db i other within apart)

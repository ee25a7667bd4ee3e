-- Combinations of rows: how many there are, tests of some of them, and two tables in either order.
use Rattle.std.proofs.Common.{◌≡◌, ◌++◌, ◌+◌, ◌*◌, ◌&&◌, ℕ, suc, Bool, List, [], ◌∷◌, length, map, filter, sym, ap, ap₂, ◌∙◌, arith}
use Rattle.std.specs.List.{flat_map, list_any}
use Rattle.std.proofs.lemmas.List.{append-nil, length-append, length-map}
use Rattle.og_base.proofs.SetMembers.{list_any-map, list_any-filter}
use Rattle.og_rel.proofs.AlgebraLemmas.{or_false, any_across, list_any-flat_map}
use Rattle.og_query.specs.Combinations.{combinations}

-- n and m times n
once_more : (m n : ℕ) → n + m * n ≡ suc m * n
once_more m n = grind (arith)

module _ {U : Type 0} where
  -- one row with each of the rests, for each of the rows
  abbrev joins : List (List U) → List (List U) → List (List U)
  joins rests rows = flat_map (λ row. map (λ rest. row ++ rest) rests) rows

  -- so many as the rows times the rests
  length-joins : (rests rows : List (List U)) → length (joins rests rows) ≡ length rows * length rests
  length-joins rests [] = grind (arith)
  length-joins rests (row ∷ rows) =
      length-append (map (λ rest. row ++ rest) rests) (joins rests rows)
      ∙ ap₂ (λ m n. m + n) (length-map rests (λ rest. row ++ rest)) (length-joins rests rows)
      ∙ once_more (length rows) (length rests)

  -- a list of combinations is as long as the product of the lengths
  pub length-combinations : (rows : List (List U)) (more : List (List (List U))) → length (combinations (rows ∷ more)) ≡ length rows * length (combinations more)
  length-combinations rows more = length-joins (combinations more) rows

module _ {U : Type 0} where
  -- of some combination: of some row with some combination of the rest
  pub list_any-combinations : (p : List U → Bool) (rows : List (List U)) (more : List (List (List U)))
      → list_any p (combinations (rows ∷ more)) ≡ list_any (λ row. list_any (λ rest. p (row ++ rest)) (combinations more)) rows
  list_any-combinations p rows more =
      list_any-flat_map p (λ row. map (λ rest. row ++ rest) (combinations more)) rows
      ∙ (λ i. list_any (λ row. list_any-map p (λ rest. row ++ rest) (combinations more) i) rows)

  -- of some combination of two lists: of some row with some other
  pub list_any-of_two : (p : List U → Bool) (xs ys : List (List U)) → list_any p (combinations (xs ∷ ys ∷ [])) ≡ list_any (λ x. list_any (λ y. p (x ++ y)) ys) xs
  list_any-of_two p xs ys =
      list_any-combinations p xs (ys ∷ [])
      ∙ (λ i. list_any (λ x. list_any-combinations (λ rest. p (x ++ rest)) ys [] i) xs)
      ∙ (λ i. list_any (λ x. list_any (λ y. (or_false (p (x ++ (y ++ []))) ∙ ap (λ z. p (x ++ z)) (append-nil y)) i) ys) xs)

-- what passes of the one list is mapped to what passes of the other, where their rows are joined the other way round
pub either_order : {U W : Type 0} (p : W → Bool) (k l : List U → Bool) (f g : List U → W) (xs ys : List (List U))
    → ((x y : List U) → k (x ++ y) ≡ l (y ++ x)) → ((x y : List U) → f (x ++ y) ≡ g (y ++ x))
    → list_any p (map f (filter k (combinations (xs ∷ ys ∷ [])))) ≡ list_any p (map g (filter l (combinations (ys ∷ xs ∷ []))))
either_order {U = U} {W = W} p k l f g xs ys kept mapped =
    tested k f (xs ∷ ys ∷ [])
    ∙ list_any-of_two (λ r. k r && p (f r)) xs ys
    ∙ (λ i. list_any (λ x. list_any (λ y. kept x y i && p (mapped x y i)) ys) xs)
    ∙ any_across (λ x y. l (y ++ x) && p (g (y ++ x))) xs ys
    ∙ sym (list_any-of_two (λ r. l r && p (g r)) ys xs)
    ∙ sym (tested l g (ys ∷ xs ∷ []))
  where
    tested : (k : List U → Bool) (f : List U → W) (lists : List (List (List U)))
        → list_any p (map f (filter k (combinations lists))) ≡ list_any (λ r. k r && p (f r)) (combinations lists)
    tested k f lists = list_any-map p f (filter k (combinations lists)) ∙ list_any-filter (λ r. p (f r)) k (combinations lists)

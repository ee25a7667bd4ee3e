-- What holds at each sort holds of every sort.
use Rattle.std.proofs.Common.{◌≡◌, ℕ, zero, suc, Bool, true, false, List, [], ◌∷◌, ◌&&◌, Option, Some, None, refl, subst}
use Rattle.std.proofs.lemmas.Option.{same_Some}
use Rattle.og_syntax.specs.declared.lexeme.Sort.{Sort}
use Rattle.og_syntax.specs.declared.lexeme.Sort.TheVariants as k

-- all sorts
abbrev pub sorts : List Sort
sorts =
    k.And ∷ k.As ∷ k.Before ∷ k.Common ∷ k.Contains ∷ k.Create ∷ k.Date ∷ k.Delete ∷ k.Drop ∷
    k.During ∷ k.Empty ∷ k.End ∷ k.Equals ∷ k.Except ∷ k.Exists ∷ k.Explain ∷ k.Finishes ∷
    k.From ∷ k.Greatest ∷ k.Import ∷ k.Insert ∷ k.Int ∷ k.Intersect ∷ k.Into ∷ k.Join ∷ k.Keep ∷
    k.Least ∷ k.Live ∷ k.Meets ∷ k.Not ∷ k.Of ∷ k.On ∷ k.Ongoing ∷ k.Open ∷ k.Or ∷ k.Overlaps ∷
    k.Period ∷ k.Print ∷ k.Save ∷ k.Select ∷ k.Set ∷ k.Start ∷ k.Starts ∷ k.Table ∷ k.Tables ∷
    k.Text ∷ k.To ∷ k.Union ∷ k.Update ∷ k.Valid ∷ k.Values ∷ k.Where ∷ k.Name ∷ k.Number ∷
    k.Quoted ∷ k.LeftParen ∷ k.RightParen ∷ k.Comma ∷ k.Semicolon ∷ k.Dot ∷ k.Star ∷ k.Equal ∷
    k.NotEqual ∷ k.LessEqual ∷ k.GreaterEqual ∷ k.Less ∷ k.Greater ∷ k.Nothing ∷ []

-- whether the test is true at each of these sorts
abbrev pub everywhere_in : (Sort → Bool) → List Sort → Bool
everywhere_in h [] = true
everywhere_in h (a ∷ listed) = h a && everywhere_in h listed

-- whether the test is true at each sort
abbrev pub everywhere : (Sort → Bool) → Bool
everywhere h = everywhere_in h sorts

-- the sort at a place of a list
abbrev pub sort_in : List Sort → ℕ → Option Sort
sort_in [] n = None
sort_in (a ∷ listed) zero = Some a
sort_in (a ∷ listed) (suc n) = sort_in listed n

-- the first of two that hold
left_true : (a b : Bool) → (a && b) ≡ true → a ≡ true
left_true true b e = refl
left_true false b e = e

-- the second of two that hold
right_true : (a b : Bool) → (a && b) ≡ true → b ≡ true
right_true true b e = e
right_true false b e = cc

-- what holds at each sort of a list holds of the sort at each of its places
holds_in : (h : Sort → Bool) (listed : List Sort) → everywhere_in h listed ≡ true → (n : ℕ) (a : Sort) → sort_in listed n ≡ Some a → h a ≡ true
holds_in h [] e n a found = cc
holds_in h (b ∷ listed) e zero a found = subst (λ x. h x ≡ true) (same_Some b a found) (left_true (h b) _ e)
holds_in h (b ∷ listed) e (suc n) a found = holds_in h listed (right_true (h b) _ e) n a found

-- what holds at each sort holds of every sort
pub every_sort : (h : Sort → Bool) → everywhere h ≡ true → (a : Sort) → h a ≡ true
every_sort h e k.And = holds_in h sorts e 0 _ refl
every_sort h e k.As = holds_in h sorts e 1 _ refl
every_sort h e k.Before = holds_in h sorts e 2 _ refl
every_sort h e k.Common = holds_in h sorts e 3 _ refl
every_sort h e k.Contains = holds_in h sorts e 4 _ refl
every_sort h e k.Create = holds_in h sorts e 5 _ refl
every_sort h e k.Date = holds_in h sorts e 6 _ refl
every_sort h e k.Delete = holds_in h sorts e 7 _ refl
every_sort h e k.Drop = holds_in h sorts e 8 _ refl
every_sort h e k.During = holds_in h sorts e 9 _ refl
every_sort h e k.Empty = holds_in h sorts e 10 _ refl
every_sort h e k.End = holds_in h sorts e 11 _ refl
every_sort h e k.Equals = holds_in h sorts e 12 _ refl
every_sort h e k.Except = holds_in h sorts e 13 _ refl
every_sort h e k.Exists = holds_in h sorts e 14 _ refl
every_sort h e k.Explain = holds_in h sorts e 15 _ refl
every_sort h e k.Finishes = holds_in h sorts e 16 _ refl
every_sort h e k.From = holds_in h sorts e 17 _ refl
every_sort h e k.Greatest = holds_in h sorts e 18 _ refl
every_sort h e k.Import = holds_in h sorts e 19 _ refl
every_sort h e k.Insert = holds_in h sorts e 20 _ refl
every_sort h e k.Int = holds_in h sorts e 21 _ refl
every_sort h e k.Intersect = holds_in h sorts e 22 _ refl
every_sort h e k.Into = holds_in h sorts e 23 _ refl
every_sort h e k.Join = holds_in h sorts e 24 _ refl
every_sort h e k.Keep = holds_in h sorts e 25 _ refl
every_sort h e k.Least = holds_in h sorts e 26 _ refl
every_sort h e k.Live = holds_in h sorts e 27 _ refl
every_sort h e k.Meets = holds_in h sorts e 28 _ refl
every_sort h e k.Not = holds_in h sorts e 29 _ refl
every_sort h e k.Of = holds_in h sorts e 30 _ refl
every_sort h e k.On = holds_in h sorts e 31 _ refl
every_sort h e k.Ongoing = holds_in h sorts e 32 _ refl
every_sort h e k.Open = holds_in h sorts e 33 _ refl
every_sort h e k.Or = holds_in h sorts e 34 _ refl
every_sort h e k.Overlaps = holds_in h sorts e 35 _ refl
every_sort h e k.Period = holds_in h sorts e 36 _ refl
every_sort h e k.Print = holds_in h sorts e 37 _ refl
every_sort h e k.Save = holds_in h sorts e 38 _ refl
every_sort h e k.Select = holds_in h sorts e 39 _ refl
every_sort h e k.Set = holds_in h sorts e 40 _ refl
every_sort h e k.Start = holds_in h sorts e 41 _ refl
every_sort h e k.Starts = holds_in h sorts e 42 _ refl
every_sort h e k.Table = holds_in h sorts e 43 _ refl
every_sort h e k.Tables = holds_in h sorts e 44 _ refl
every_sort h e k.Text = holds_in h sorts e 45 _ refl
every_sort h e k.To = holds_in h sorts e 46 _ refl
every_sort h e k.Union = holds_in h sorts e 47 _ refl
every_sort h e k.Update = holds_in h sorts e 48 _ refl
every_sort h e k.Valid = holds_in h sorts e 49 _ refl
every_sort h e k.Values = holds_in h sorts e 50 _ refl
every_sort h e k.Where = holds_in h sorts e 51 _ refl
every_sort h e k.Name = holds_in h sorts e 52 _ refl
every_sort h e k.Number = holds_in h sorts e 53 _ refl
every_sort h e k.Quoted = holds_in h sorts e 54 _ refl
every_sort h e k.LeftParen = holds_in h sorts e 55 _ refl
every_sort h e k.RightParen = holds_in h sorts e 56 _ refl
every_sort h e k.Comma = holds_in h sorts e 57 _ refl
every_sort h e k.Semicolon = holds_in h sorts e 58 _ refl
every_sort h e k.Dot = holds_in h sorts e 59 _ refl
every_sort h e k.Star = holds_in h sorts e 60 _ refl
every_sort h e k.Equal = holds_in h sorts e 61 _ refl
every_sort h e k.NotEqual = holds_in h sorts e 62 _ refl
every_sort h e k.LessEqual = holds_in h sorts e 63 _ refl
every_sort h e k.GreaterEqual = holds_in h sorts e 64 _ refl
every_sort h e k.Less = holds_in h sorts e 65 _ refl
every_sort h e k.Greater = holds_in h sorts e 66 _ refl
every_sort h e k.Nothing = holds_in h sorts e 67 _ refl

-- The items of SELECT, one after the other.
use Rattle.std.proofs.Common.{◌≡◌, ◌+◌, ◌++◌, ◌<◌, ◌≤◌, ℕ, suc, List, [], ◌∷◌, Ok, Err, length, drop, get_or, refl, ap, sym, subst, ◌∙◌, append_assoc, length-append, arith}
use Rattle.std.proofs.lemmas.List.{map-append, drop_all}
use Rattle.og_value.specs.declared.schema.Column.{Column}
use Rattle.og_syntax.specs.declared.tree.ItemText.{ItemText}
use Rattle.og_query.specs.declared.expression.Expr.{Expr}
use Rattle.og_query.specs.declared.expression.Expr.TheVariants as e
use Rattle.og_check.specs.declared.refusal.CheckRefusal.{CheckRefusal}
use Rattle.og_check.specs.Fronts.{with_fronts, with_pair}
use Rattle.og_check.specs.Steps.{Checked, ◌>>=◌, pure, in_order}
use Rattle.og_check.specs.Sight.{Sight}
use Rattle.og_check.specs.Cores.{Shown, star_from, item_of, items_from, exprs_of, columns_of}
use Rattle.og_check.proofs.OkLemmas.{ok_same, same_fault, where_ok}
use Rattle.og_check.proofs.Parts.{left}
use Rattle.og_check.proofs.StepLemmas.{fronts-more, fronts-done}

-- both columns and those after them
star_from-append : (place : ℕ) (cs ds : List Column) → star_from place (cs ++ ds) ≡ star_from place cs ++ star_from (place + length cs) ds
star_from-append place [] ds = ap (λ k. star_from k ds) (omega arith)
star_from-append place (c ∷ cs) ds = ap (λ xs. (e.Column place, c) ∷ xs) (star_from-append (place + 1) cs ds ∙ ap (λ k. star_from (place + 1) cs ++ star_from k ds) (omega arith))

-- as many as there are columns
length-star_from : (place : ℕ) (cs : List Column) → length (star_from place cs) ≡ length cs
length-star_from place [] = refl
length-star_from place (c ∷ cs) = ap (λ k. suc k) (length-star_from (place + 1) cs)

-- as many expressions
count_of : (xs : List Shown) → length (exprs_of xs) ≡ length xs
count_of [] = refl
count_of (x ∷ xs) = ap (λ k. suc k) (count_of xs)

-- with these columns, those after them are left
fronts-star : (xs : List Expr) (ys : List Column) (cs ds : List Column)
    → with_fronts (xs ++ exprs_of (star_from (length xs) cs)) (ys ++ columns_of (star_from (length xs) cs)) (pure (star_from (length (xs ++ exprs_of (star_from (length xs) cs))) ds))
    ≡ with_fronts xs ys (pure (star_from (length xs) (cs ++ ds)))
fronts-star xs ys cs ds =
    let s = star_from (length xs) cs in
    let count : length (xs ++ exprs_of s) ≡ length xs + length cs =
    length-append xs (exprs_of s) ∙ ap (λ k. length xs + k) (count_of s ∙ length-star_from (length xs) cs) in
    let t = star_from (length xs + length cs) ds in
    ap (λ k. with_fronts (xs ++ exprs_of s) (ys ++ columns_of s) (pure (star_from k ds))) count
    ∙ (λ i. Ok (append_assoc xs (exprs_of s) (exprs_of t) i, append_assoc ys (columns_of s) (columns_of t) i))
    ∙ (λ i. Ok (xs ++ sym (map-append (λ x. x.0) s t) i, ys ++ sym (map-append (λ x. x.1) s t) i))
    ∙ ap (λ zs. with_fronts xs ys (pure zs)) (sym (star_from-append (length xs) cs ds))

-- the first of two lists
abbrev first_of : Checked (List Expr × List Column) → List Expr
first_of (Ok x) = x.0
first_of (Err e) = []

-- the second of two lists
abbrev second_of : Checked (List Expr × List Column) → List Column
second_of (Ok x) = x.1
second_of (Err e) = []

-- the same where the lists with these columns are given
pub star_next : (xs : List Expr) (ys : List Column) (cs ds zs : List Column) (xs1 : List Expr) (ys1 : List Column)
    → zs ≡ cs ++ ds → with_fronts xs ys (pure (star_from (length xs) cs)) ≡ Ok (xs1, ys1)
    → with_fronts xs1 ys1 (pure (star_from (length xs1) ds)) ≡ with_fronts xs ys (pure (star_from (length xs) zs))
star_next xs ys cs ds zs xs1 ys1 f g =
    (λ i. with_fronts (first i) (second i) (pure (star_from (length (first i)) ds))) ∙ fronts-star xs ys cs ds ∙ ap (λ k. with_fronts xs ys (pure (star_from (length xs) k))) (sym f)
  where
    first : xs1 ≡ xs ++ exprs_of (star_from (length xs) cs)
    first = ap first_of (sym g)

    second : ys1 ≡ ys ++ columns_of (star_from (length xs) cs)
    second = ap second_of (sym g)

-- with the item at a place, those after it are left
items_next : (sight : Sight) (xs : List Expr) (ys : List Column) (list : List ItemText) (i : ℕ) (x : ItemText) (y : Shown) → i < length list → x ≡ get_or list i x → item_of sight (i + 1) x ≡ Ok y
    → with_fronts (xs ++ y.0 ∷ []) (ys ++ y.1 ∷ []) (in_order (items_from sight (i + 1 + 1) (drop (i + 1) list))) ≡ with_fronts xs ys (in_order (items_from sight (i + 1) (drop i list)))
items_next sight xs ys list i x y h e g =
    sym (fronts-more xs ys y (in_order (items_from sight (i + 1 + 1) (drop (i + 1) list))))
    ∙ ap (λ p. with_fronts xs ys (do y ← p; zs ← in_order (items_from sight (i + 1 + 1) (drop (i + 1) list)); pure (y ∷ zs))) (sym g)
    ∙ ap (λ zs. with_fronts xs ys (in_order (items_from sight (i + 1) zs))) (sym (left list i x h e))

-- the same where the lists with the item are given
pub items_added : (sight : Sight) (xs : List Expr) (ys : List Column) (list : List ItemText) (i : ℕ) (x : ItemText) (xs1 : List Expr) (ys1 : List Column) → i < length list → x ≡ get_or list i x
    → with_pair xs ys (item_of sight (i + 1) x) ≡ Ok (xs1, ys1)
    → with_fronts xs1 ys1 (in_order (items_from sight (i + 1 + 1) (drop (i + 1) list))) ≡ with_fronts xs ys (in_order (items_from sight (i + 1) (drop i list)))
items_added sight xs ys list i x xs1 ys1 h e g =
    where_ok (item_of sight (i + 1) x) (λ y. pure (xs ++ y.0 ∷ [], ys ++ y.1 ∷ [])) (xs1, ys1) (λ y k same.
    subst (λ z. with_fronts z.0 z.1 (in_order (items_from sight (i + 1 + 1) (drop (i + 1) list))) ≡ with_fronts xs ys (in_order (items_from sight (i + 1) (drop i list))))
    (ok_same (xs ++ y.0 ∷ [], ys ++ y.1 ∷ []) (xs1, ys1) same) (items_next sight xs ys list i x y h e k)) g

-- a fault, and the rest is not looked at
pub items_stop : (sight : Sight) (xs : List Expr) (ys : List Column) (list : List ItemText) (i : ℕ) (x : ItemText) (fault : CheckRefusal) → i < length list → x ≡ get_or list i x
    → with_pair xs ys (item_of sight (i + 1) x) ≡ Err fault → with_fronts xs ys (in_order (items_from sight (i + 1) (drop i list))) ≡ Err fault
items_stop sight xs ys list i x fault h e g =
    ap (λ zs. with_fronts xs ys (in_order (items_from sight (i + 1) zs))) (left list i x h e)
    ∙ ap (λ p. with_fronts xs ys (do y ← p; zs ← in_order (items_from sight (i + 1 + 1) (drop (i + 1) list)); pure (y ∷ zs))) (same_fault (item_of sight (i + 1) x) (λ y. (xs ++ y.0 ∷ [], ys ++ y.1 ∷ [])) fault g)

-- nothing is left at the end
pub items_done : (sight : Sight) (xs : List Expr) (ys : List Column) (list : List ItemText) (i : ℕ) → length list ≤ i → with_fronts xs ys (in_order (items_from sight (i + 1) (drop i list))) ≡ Ok (xs, ys)
items_done sight xs ys list i h = ap (λ zs. with_fronts xs ys (in_order (items_from sight (i + 1) zs))) (drop_all i list h) ∙ fronts-done xs ys

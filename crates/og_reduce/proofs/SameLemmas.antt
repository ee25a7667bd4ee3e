-- Columns that a condition says are equal have one value.
use Rattle.std.proofs.Common.{◌≡◌, ◌<◌, ◌+◌, ℕ, Bool, true, false, List, Ordering, Less, Equal, Greater, slice_index_or, take, length, refl, sym, ap, ◌∙◌, ◌++◌, ◌∷◌, []}
use Rattle.std.specs.Cmp.Lexicographic.{same_text, texts_ties}
use Rattle.std.specs.List.{list_all}
use Rattle.std.proofs.lemmas.Bool.{and_parts}
use Rattle.std.proofs.lemmas.List.{take_more}
use Rattle.std.proofs.lemmas.List.Folds.{list_all-append}
use Rattle.og_base.proofs.SetLemmas.{days_exact}
use Rattle.og_value.specs.declared.term.Cmp.TheVariants as cmp
use Rattle.og_value.specs.declared.value.FixedValue.{FixedValue}
use Rattle.og_value.specs.declared.value.FixedValue.TheVariants as f
use Rattle.og_query.specs.Conditions.{allows, compares}
use Rattle.og_query.specs.declared.condition.Cond.{Cond}

-- where equality is allowed, the two are in one place
tied : (o : Ordering) → allows cmp.Eq o ≡ true → o ≡ Equal
tied Less e = cc e
tied Equal e = refl
tied Greater e = cc e

-- whether two are in one place
abbrev is_tied : Ordering → Bool
is_tied Equal = true
is_tied _ = false

-- values that compare as equal are
pub same_value : (x y : FixedValue) → compares cmp.Eq x y ≡ true → x ≡ y
same_value (f.Int m) (f.Int n) e = ap f.Int (days_exact.exact m n (tied _ e))
same_value (f.Text s) (f.Text t) e = ap f.Text (same_text s t (sym (texts_ties s t ∙ ap is_tied (tied _ e))))
same_value (f.Date a) (f.Date b) e = ap f.Date (days_exact.exact a b (tied _ e))
same_value (f.Int m) (f.Text t) e = cc e
same_value (f.Int m) (f.Date b) e = cc e
same_value (f.Int m) (f.Period q) e = cc e
same_value (f.Text s) (f.Int n) e = cc e
same_value (f.Text s) (f.Date b) e = cc e
same_value (f.Text s) (f.Period q) e = cc e
same_value (f.Date a) (f.Int n) e = cc e
same_value (f.Date a) (f.Text t) e = cc e
same_value (f.Date a) (f.Period q) e = cc e
same_value (f.Period p) (f.Int n) e = cc e
same_value (f.Period p) (f.Text t) e = cc e
same_value (f.Period p) (f.Date b) e = cc e
same_value (f.Period p) (f.Period q) e = cc e

-- the first conditions and one more hold
pub holds_more : (holds : Cond → Bool) (parts : List Cond) (k : ℕ) (part : Cond) → k < length parts → part ≡ slice_index_or parts k part → list_all holds (take (k + 1) parts) ≡ true
    → (list_all holds (take k parts) ≡ true) × (holds part ≡ true)
holds_more holds parts k part within is all =
    let both =
    and_parts (list_all holds (take k parts)) _
    (sym (ap (list_all holds) (take_more parts k part within ∙ ap (λ one. take k parts ++ one ∷ []) (sym is)) ∙ list_all-append holds (take k parts) (part ∷ [])) ∙ all) in
    (both.0, (and_parts (holds part) true both.1).0)

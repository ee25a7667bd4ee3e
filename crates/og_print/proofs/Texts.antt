-- The bytes of words, one after the other.
use Rattle.std.proofs.Common.{◌≡◌, ◌<◌, ◌+◌, ℕ, Bool, true, false, List, [], ◌∷◌, ◌++◌, length, drop, get_or, refl, sym, ap, ◌∙◌}
use Rattle.std.proofs.lemmas.List.{drop_more}
use Rattle.og_syntax.specs.declared.lexeme.Sort.{Sort}
use Rattle.og_print.specs.Words.{Word, with_word, with_words, each, separator_words, parted, Plain}

-- words, and then those after them
pub with_words_append : (z : List ℕ) (us vs : List Word) → with_words z (us ++ vs) ≡ with_words (with_words z us) vs
with_words_append z [] vs = refl
with_words_append z (w ∷ us) vs = with_words_append (with_word z w) us vs

-- one more part, after those before it
pub one_more : {A : Type 0} (is_first : Bool) (sort : Sort) (f : A → List Word) (z mid out start : List ℕ) (xs : List A) (i : ℕ) (x d : A)
    → i < length xs → x ≡ get_or xs i d → mid ≡ with_words z (separator_words is_first sort) → out ≡ with_words mid (f x)
    → with_words z (parted is_first sort f (drop i xs)) ≡ start → with_words out (parted false sort f (drop (i + 1) xs)) ≡ start
one_more true sort f z mid out start xs i x d within is e g before =
    let same : f x ≡ f (get_or xs i d) = ap f is in
    ap (λ o. with_words o (parted false sort f (drop (i + 1) xs))) (g ∙ ap (λ m. with_words m (f x)) e ∙ ap (with_words z) same)
    ∙ sym (with_words_append z (f (get_or xs i d)) (parted false sort f (drop (i + 1) xs)))
    ∙ ap (λ ys. with_words z (parted true sort f ys)) (sym (drop_more xs i d within)) ∙ before
one_more false sort f z mid out start xs i x d within is e g before =
    let same : f x ≡ f (get_or xs i d) = ap f is in
    ap (λ o. with_words o (parted false sort f (drop (i + 1) xs))) (g ∙ ap (λ m. with_words m (f x)) e ∙ ap (with_words (with_words z (Plain sort ∷ []))) same)
    ∙ sym (with_words_append (with_words z (Plain sort ∷ [])) (f (get_or xs i d)) (parted false sort f (drop (i + 1) xs)))
    ∙ ap (λ ys. with_words z (parted false sort f ys)) (sym (drop_more xs i d within)) ∙ before

-- one more thing
pub one_more_each : {A : Type 0} (f : A → List Word) (z out start : List ℕ) (xs : List A) (i : ℕ) (x d : A)
    → i < length xs → x ≡ get_or xs i d → out ≡ with_words z (f x) → with_words z (each f (drop i xs)) ≡ start → with_words out (each f (drop (i + 1) xs)) ≡ start
one_more_each f z out start xs i x d within is e before =
    ap (λ o. with_words o (each f (drop (i + 1) xs))) (e ∙ ap (λ x. with_words z (f x)) is)
    ∙ sym (with_words_append z (f (get_or xs i d)) (each f (drop (i + 1) xs)))
    ∙ ap (λ ys. with_words z (each f ys)) (sym (drop_more xs i d within)) ∙ before

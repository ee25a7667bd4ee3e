-- What words are, by the first of them.
use Rattle.std.proofs.Common.{Option, None, Some, IfNone, ◌≡◌, ◌⊎◌, inl, inr, ◌++◌, ℕ, ℤ, List, [], ◌∷◌, codes, arith, refl, sym, subst, ap}
use Rattle.std.specs.Int.{IsInRange}
use Rattle.std.proofs.lemmas.Str.Parse.{digit_from_value}
use Rattle.og_words.specs.Grammar.{IsCommand, IsGiven, IsOption, IsRows, IsNumber, IsFile, IsDay, run, at, load_before, load_after, given, absent}
use Rattle.og_words.specs.declared.command.Command.{Command}
use Rattle.og_words.specs.declared.command.Command.TheVariants as commands

-- the option has one value
pub one_value : (words : List (List ℕ)) (v w : List ℕ) → IsGiven words v → IsGiven words w → v ≡ w
one_value words v w (inl h) (inl k) = cc
one_value words v w (inl h) (inr k) = cc
one_value words v w (inr h) (inl k) = cc
one_value words v w (inr h) (inr k) = cc

pub option_is : (words : List (List ℕ)) (v : List ℕ) (n : ℕ) → IsGiven words v → IsNumber 2 64 v n → IsOption words n
option_is words v n h k = given v h k

-- words with a value of the option that is no number of workers are no option
pub option_none : (words : List (List ℕ)) (v : List ℕ) → IsGiven words v → ((n : ℕ) → ¬ IsNumber 2 64 v n) → (n : ℕ) → ¬ IsOption words n
option_none words v h none n (given w k is) = none n (subst (λ x. IsNumber 2 64 x n) (one_value words w v k h) is)
option_none words v (inl h) none n (absent e f) = cc
option_none words v (inr h) none n (absent e f) = cc

pub run_is : (rest : List (List ℕ)) (n : ℕ) → IsOption rest n → IsCommand (codes "run" ∷ rest) (commands.Run n)
run_is rest n h = run rest n refl h refl

pub run_none : (rest : List (List ℕ)) → ((n : ℕ) → ¬ IsOption rest n) → (c : Command) → ¬ IsCommand (codes "run" ∷ rest) c
run_none rest none c (run option n e h k) = none n (subst (λ x. IsOption x n) (the_rest option e) h)
  where
    the_rest : (option : List (List ℕ)) → codes "run" ∷ rest ≡ codes "run" ∷ option → option ≡ rest
    the_rest option e = cc
run_none rest none c (at file text day e f g k) = cc
run_none rest none c (load_before option n rows workers e f g k) = cc
run_none rest none c (load_after option n rows workers e f g k) = cc

pub at_is : (file text : List ℕ) (day : ℤ) → IsFile file → IsDay text day → IsCommand (codes "at" ∷ file ∷ text ∷ []) (commands.At file day)
at_is file text day h k = at file text day refl h k refl

-- no words begin with two words that differ
at_no_run : (rest other : List (List ℕ)) → codes "at" ∷ rest ≡ codes "run" ∷ other → ⊥
at_no_run rest other e = cc

at_no_load : (rest other : List (List ℕ)) → codes "at" ∷ rest ≡ codes "load" ∷ other → ⊥
at_no_load rest other e = cc

load_no_run : (rest other : List (List ℕ)) → codes "load" ∷ rest ≡ codes "run" ∷ other → ⊥
load_no_run rest other e = cc

-- what stands after the first word
after_at : (rest other : List (List ℕ)) → codes "at" ∷ rest ≡ codes "at" ∷ other → rest ≡ other
after_at rest other e = cc

after_load : (rest other : List (List ℕ)) → codes "load" ∷ rest ≡ codes "load" ∷ other → rest ≡ other
after_load rest other e = cc

-- the words after `at` are a file and a day
pub at_parts : (rest : List (List ℕ)) (c : Command) → IsCommand (codes "at" ∷ rest) c → (file : List ℕ) × (text : List ℕ) × (rest ≡ file ∷ text ∷ []) × IsFile file × ((day : ℤ) × IsDay text day)
at_parts rest c (run option n e h k) = absurd (at_no_run rest option e)
at_parts rest c (at file text day e f g k) = (file, text, after_at rest (file ∷ text ∷ []) e, f, (day, g))
at_parts rest c (load_before option n rows workers e f g k) = absurd (at_no_load rest (option ++ n ∷ []) e)
at_parts rest c (load_after option n rows workers e f g k) = absurd (at_no_load rest (n ∷ option) e)

pub at_no_file : (file text : List ℕ) → ¬ IsFile file → (c : Command) → ¬ IsCommand (codes "at" ∷ file ∷ text ∷ []) c
at_no_file file text none c h =
    let p = at_parts (file ∷ text ∷ []) c h in
    let e : p.0 ≡ file = let q = p.2 in cc in
    none (subst IsFile e p.3)

pub at_no_day : (file text : List ℕ) → ((day : ℤ) → ¬ IsDay text day) → (c : Command) → ¬ IsCommand (codes "at" ∷ file ∷ text ∷ []) c
at_no_day file text none c h =
    let p = at_parts (file ∷ text ∷ []) c h in
    let e : p.1 ≡ text = let q = p.2 in cc in
    none p.4.0 (subst (λ t. IsDay t p.4.0) e p.4.1)

-- words do not end before their last one
no_last : (xs : List (List ℕ)) (x : List ℕ) → [] ≡ xs ++ x ∷ [] → ⊥
no_last [] x e = cc
no_last (y ∷ xs) x e = cc

-- words have one last word, and one list of words before it
pub same_ends : (xs ys : List (List ℕ)) (x y : List ℕ) → xs ++ x ∷ [] ≡ ys ++ y ∷ [] → (xs ≡ ys) × (x ≡ y)
same_ends [] [] x y e = (refl, cc)
same_ends [] (b ∷ ys) x y e = absurd (no_last ys y cc)
same_ends (a ∷ xs) [] x y e = absurd (no_last xs x cc)
same_ends (a ∷ xs) (b ∷ ys) x y e = let h = same_ends xs ys x y cc in let k = h.0 in (cc, h.1)

-- a number begins with a digit
pub number_front : (most highest : ℕ) (b : ℕ) (bs : List ℕ) (n : ℕ) → IsNumber most highest (b ∷ bs) n → IsInRange 48 57 b
number_front most highest b bs n h = digit_from_value b h.digits.1.0

-- the option is no number
pub not_rows : (v word : List ℕ) (n : ℕ) → IsRows word n → (word ≡ codes "--workers") ⊎ (word ≡ codes "--workers=" ++ v) → ⊥
not_rows v word n h (inl e) = let d = number_front 6 200_000 45 _ n (subst (λ w. IsRows w n) e h) in omega (arith, d)
not_rows v word n h (inr e) = let d = number_front 6 200_000 45 _ n (subst (λ w. IsRows w n) e h) in omega (arith, d)

pub load_is_after : (n : List ℕ) (after : List (List ℕ)) (rows workers : ℕ) → IsRows n rows → IsOption after workers → IsCommand (codes "load" ∷ n ∷ after) (commands.Load rows workers)
load_is_after n after rows workers h k = load_after after n rows workers refl h k refl

pub load_is_before : (rest before : List (List ℕ)) (n : List ℕ) (rows workers : ℕ) → rest ≡ before ++ n ∷ [] → IsRows n rows → IsOption before workers → IsCommand (codes "load" ∷ rest) (commands.Load rows workers)
load_is_before rest before n rows workers e h k = load_before before n rows workers (ap (λ r. codes "load" ∷ r) e) k h refl

-- what the words after `load` are
data IsLoad (rest : List (List ℕ)) : Type 0 where
  is_before : (option : List (List ℕ)) (n : List ℕ) (rows workers : ℕ) → rest ≡ option ++ n ∷ [] → IsOption option workers → IsRows n rows → IsLoad rest
  is_after : (option : List (List ℕ)) (n : List ℕ) (rows workers : ℕ) → rest ≡ n ∷ option → IsOption option workers → IsRows n rows → IsLoad rest

load_parts : (rest : List (List ℕ)) (c : Command) → IsCommand (codes "load" ∷ rest) c → IsLoad rest
load_parts rest c (run option n e h k) = absurd (load_no_run rest option e)
load_parts rest c (at file text day e f g k) = absurd (at_no_load (file ∷ text ∷ []) rest (sym e))
load_parts rest c (load_before option n rows workers e f g k) = is_before option n rows workers (after_load rest (option ++ n ∷ []) e) f g
load_parts rest c (load_after option n rows workers e f g k) = is_after option n rows workers (after_load rest (n ∷ option) e) g f

nothing_loads : IsLoad [] → ⊥
nothing_loads (is_before option n rows workers e f g) = no_last option n e
nothing_loads (is_after option n rows workers e f g) = cc

pub load_nothing : (c : Command) → ¬ IsCommand (codes "load" ∷ []) c
load_nothing c h = nothing_loads (load_parts [] c h)

no_option_after : (n : List ℕ) (after : List (List ℕ)) (rows : ℕ) → IsRows n rows → ((w : ℕ) → ¬ IsOption after w) → IsLoad (n ∷ after) → ⊥
no_option_after n after rows h none (is_before option m r w e (given v (inl f) g) k) = not_rows [] n rows h (inl cc)
no_option_after n after rows h none (is_before option m r w e (given v (inr f) g) k) = not_rows v n rows h (inr cc)
no_option_after n after rows h none (is_before option m r w e (absent f g) k) = none 1 (absent (cc) refl)
no_option_after n after rows h none (is_after option m r w e f g) = none w (subst (λ o. IsOption o w) (cc) f)

-- after N stand words that are no option
pub load_no_option_after : (n : List ℕ) (after : List (List ℕ)) (rows : ℕ) → IsRows n rows → ((w : ℕ) → ¬ IsOption after w) → (c : Command) → ¬ IsCommand (codes "load" ∷ n ∷ after) c
load_no_option_after n after rows h none c k = no_option_after n after rows h none (load_parts (n ∷ after) c k)

no_rows : (first last : List ℕ) (before after : List (List ℕ)) → first ∷ after ≡ before ++ last ∷ [] → ((n : ℕ) → ¬ IsRows first n) → ((n : ℕ) → ¬ IsRows last n) → IsLoad (first ∷ after) → ⊥
no_rows first last before after e none lacking (is_before option m r w f g k) = lacking r (subst (λ x. IsRows x r) (sym (same_ends before option last m cc).1) k)
no_rows first last before after e none lacking (is_after option m r w f g k) = none r (subst (λ x. IsRows x r) (cc) k)

-- neither the first word nor the last is N
pub load_no_rows : (first last : List ℕ) (before after : List (List ℕ)) → first ∷ after ≡ before ++ last ∷ [] → ((n : ℕ) → ¬ IsRows first n) → ((n : ℕ) → ¬ IsRows last n) → (c : Command) → ¬ IsCommand (codes "load" ∷ first ∷ after) c
load_no_rows first last before after e none lacking c k = no_rows first last before after e none lacking (load_parts (first ∷ after) c k)

no_option_before : (first last : List ℕ) (before after : List (List ℕ)) → first ∷ after ≡ before ++ last ∷ [] → ((n : ℕ) → ¬ IsRows first n) → ((w : ℕ) → ¬ IsOption before w) → IsLoad (first ∷ after) → ⊥
no_option_before first last before after e none lacking (is_before option m r w f g k) = lacking w (subst (λ o. IsOption o w) (sym (same_ends before option last m cc).0) g)
no_option_before first last before after e none lacking (is_after option m r w f g k) = none r (subst (λ x. IsRows x r) (cc) k)

-- before N stand words that are no option
pub load_no_option_before : (first last : List ℕ) (before after : List (List ℕ)) → first ∷ after ≡ before ++ last ∷ [] → ((n : ℕ) → ¬ IsRows first n) → ((w : ℕ) → ¬ IsOption before w) → (c : Command) → ¬ IsCommand (codes "load" ∷ first ∷ after) c
load_no_option_before first last before after e none lacking c k = no_option_before first last before after e none lacking (load_parts (first ∷ after) c k)

-- words with another first word are no command
pub no_first : (first : List ℕ) (rest : List (List ℕ)) → (first ≡ codes "run" → ⊥) → (first ≡ codes "at" → ⊥) → (first ≡ codes "load" → ⊥) → (c : Command) → ¬ IsCommand (first ∷ rest) c
no_first first rest a b d c (run o n e h k) = a cc
no_first first rest a b d c (at file text day e f g k) = b cc
no_first first rest a b d c (load_before option n rows workers e f g k) = d cc
no_first first rest a b d c (load_after option n rows workers e f g k) = d cc

pub no_words : (c : Command) → ¬ IsCommand [] c
no_words c (run o n e h k) = cc
no_words c (at file text day e f g k) = cc
no_words c (load_before option n rows workers e f g k) = cc
no_words c (load_after option n rows workers e f g k) = cc

-- words that are no option, and are not empty
pub not_given : (words : List (List ℕ)) → (words ≡ [] → ⊥) → ((v : List ℕ) → ¬ IsGiven words v) → (n : ℕ) → ¬ IsOption words n
not_given words some none n (given v h k) = none v h
not_given words some none n (absent e f) = some e

pub if_none : {T : Type 0} (o : Option T) (P : Type 0) → P → IfNone o P
if_none None P p = p
if_none (Some t) P p = tt

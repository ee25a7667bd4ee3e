-- Words are at most one command.
use Rattle.std.proofs.Common.{◌≡◌, inl, inr, ◌++◌, ℕ, ℤ, List, [], ◌∷◌, codes, refl, sym, subst, ap, ap₂, ◌∙◌}
use Rattle.og_base.specs.Calendar.{IsDayText, IsRefDayText}
use Rattle.og_words.specs.Grammar.{IsCommand, IsGiven, IsOption, IsNumber, IsRows, IsDay, run, at, load_before, load_after, given, absent}
use Rattle.og_words.specs.declared.command.Command.{Command}
use Rattle.og_words.specs.declared.command.Command.TheVariants as commands
use Rattle.og_words.proofs.Readings.{one_value, not_rows, same_ends}

one_number : (most highest : ℕ) (v w : List ℕ) (n m : ℕ) → v ≡ w → IsNumber most highest v n → IsNumber most highest w m → n ≡ m
one_number most highest v w n m e h k = cc (h.number, k.number)

one_option : (o p : List (List ℕ)) (n m : ℕ) → o ≡ p → IsOption o n → IsOption p m → n ≡ m
one_option o p n m e (given v h is) (given w k too) = one_number 2 64 v w n m (one_value p v w (subst (λ x. IsGiven x v) e h) k) is too
one_option o p n m e (given v (inl h) is) (absent f g) = cc
one_option o p n m e (given v (inr h) is) (absent f g) = cc
one_option o p n m e (absent f g) (given v (inl h) is) = cc
one_option o p n m e (absent f g) (given v (inr h) is) = cc
one_option o p n m e (absent f g) (absent h k) = cc

-- a day text is that of one day
abbrev pub OneDay : Type 0
OneDay = (s : List ℕ) (m n : ℤ) → IsDayText s m → IsDayText s n → m ≡ n

one_ref_day : OneDay → (s t : List ℕ) (m n : ℤ) → s ≡ t → IsDay s m → IsDay t n → m ≡ n
one_ref_day one_day s t m n e h k = one_day t m n (inr (inr (subst (λ x. IsRefDayText x m) e h.text))) (inr (inr k.text))

-- the option or nothing before N, and after it
before_and_after : (o p : List (List ℕ)) (n m : List ℕ) (r s w v : ℕ) → o ++ n ∷ [] ≡ m ∷ p → IsOption o w → IsRows n r → IsRows m s → IsOption p v → (r ≡ s) × (w ≡ v)
before_and_after o p n m r s w v e (given x (inl f) g) h k l = absurd (not_rows [] m s k (inl (first o p n m x e f)))
  where
    first : (o p : List (List ℕ)) (n m x : List ℕ) → o ++ n ∷ [] ≡ m ∷ p → o ≡ codes "--workers" ∷ x ∷ [] → m ≡ codes "--workers"
    first o p n m x e f = cc
before_and_after o p n m r s w v e (given x (inr f) g) h k l = absurd (not_rows x m s k (inr (first o p n m x e f)))
  where
    first : (o p : List (List ℕ)) (n m x : List ℕ) → o ++ n ∷ [] ≡ m ∷ p → o ≡ (codes "--workers=" ++ x) ∷ [] → m ≡ codes "--workers=" ++ x
    first o p n m x e f = cc
before_and_after o p n m r s w v e (absent f g) h k l =
    let whole : n ∷ [] ≡ m ∷ p = subst (λ x. x ++ n ∷ [] ≡ m ∷ p) f e in
    (one_number 6 200_000 n m r s (cc) h k, one_option [] p w v (cc) (absent refl g) l)

pub one_command : OneDay → (words : List (List ℕ)) (c d : Command) → IsCommand words c → IsCommand words d → c ≡ d
one_command one_day words c d (run o n e h k) (run p m f i l) = k ∙ ap commands.Run (one_option o p n m (cc) h i) ∙ sym l
one_command one_day words c d (run o n e h k) (at file text day f g i l) = cc
one_command one_day words c d (run o n e h k) (load_before p m r w f g i l) = cc
one_command one_day words c d (run o n e h k) (load_after p m r w f g i l) = cc
one_command one_day words c d (at file text day f g i l) (run o n e h k) = cc
one_command one_day words c d (at file text day e f g k) (at other more later h i j l) = k ∙ ap₂ commands.At (cc) (one_ref_day one_day text more day later (cc) g j) ∙ sym l
one_command one_day words c d (at file text day e f g k) (load_before p m r w h i j l) = cc
one_command one_day words c d (at file text day e f g k) (load_after p m r w h i j l) = cc
one_command one_day words c d (load_before o n r w e f g k) (run p m h i l) = cc
one_command one_day words c d (load_before o n r w e f g k) (at file text day h i j l) = cc
one_command one_day words c d (load_before o n r w e f g k) (load_before p m s v h i j l) =
    let ends = same_ends o p n m cc in
    k ∙ ap₂ commands.Load (one_number 6 200_000 n m r s ends.1 g j) (one_option o p w v ends.0 f i) ∙ sym l
one_command one_day words c d (load_before o n r w e f g k) (load_after p m s v h i j l) =
    let same = before_and_after o p n m r s w v (cc) f g i j in k ∙ ap₂ commands.Load same.0 same.1 ∙ sym l
one_command one_day words c d (load_after o n r w e f g k) (run p m h i l) = cc
one_command one_day words c d (load_after o n r w e f g k) (at file text day h i j l) = cc
one_command one_day words c d (load_after o n r w e f g k) (load_before p m s v h i j l) =
    let same = before_and_after p o m n s r v w (cc) i j f g in k ∙ ap₂ commands.Load (sym same.0) (sym same.1) ∙ sym l
one_command one_day words c d (load_after o n r w e f g k) (load_after p m s v h i j l) =
    k ∙ ap₂ commands.Load (one_number 6 200_000 n m r s (cc) f i) (one_option o p w v (cc) g j) ∙ sym l

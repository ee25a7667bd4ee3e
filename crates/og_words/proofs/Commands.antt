-- A command has the words of a form, and clap says it of them.
use Rattle.std.proofs.Common.{◌≡◌, inl, inr, ◌∙◌, ◌++◌, ℕ, ℤ, List, [], ◌∷◌, true, false, eqb, not, Bool, Some, codes, refl, sym, subst, ap, ap₂, arith}
use Rattle.std.proofs.lemmas.Bool.{ne_eqb}
use Rattle.std.specs.Str.{IsUtf8}
use Rattle.og_base.specs.Calendar.{IsRefDayText}
use Rattle.og_words.specs.Grammar.{IsCommand, IsDay, IsFile, IsNumber, IsRows, is_value, run, at, load_before, load_after, given, absent}
use Rattle.og_words.specs.Said.{IsSaid, said_at, said_load, said_run}
use Rattle.og_words.specs.declared.command.Command.{Command}
use Rattle.og_words.specs.declared.command.Command.TheVariants as commands
use Rattle.og_words.proofs.Readings.{number_front}
use Rattle.og_words.proofs.SaidCommands.{by_at, by_load, by_run, same_some}
use Rattle.og_words.proofs.Forms.{Form, apart_load, at_both, joined_load, load_alone, load_apart, load_joined, run_alone, run_apart, run_joined, said_by, words}

-- a value begins with a byte that is no `-`
abbrev Value : List ℕ → Type 0
Value v = (b : ℕ) × (bs : List ℕ) × (v ≡ b ∷ bs) × (eqb b 45 ≡ false)

value_parts : (v : List ℕ) → is_value v ≡ true → Value v
value_parts [] h = cc
value_parts (b ∷ bs) h = (b, bs, refl, by_bool (eqb b 45) h)
  where
    by_bool : (x : Bool) → not x ≡ true → x ≡ false
    by_bool true e = cc
    by_bool false e = refl

number_parts : (most highest : ℕ) (v : List ℕ) (n : ℕ) → IsNumber most highest v n → Value v
number_parts most highest [] n h = absurd (omega (arith, h.digits.0))
number_parts most highest (b ∷ bs) n h = let d = number_front most highest b bs n h in (b, bs, refl, ne_eqb b 45 (λ e. omega (arith, d, e)))

-- ---- from a command to the form of its words

-- the words have a form of which clap says the command
abbrev pub Formed : List (List ℕ) → Command → Type 0
Formed ws c = (f : Form) × (ws ≡ words f) × IsSaid (said_by f) c

run_apart_formed : (v : List ℕ) (n : ℕ) → IsNumber 2 64 v n → Formed (codes "run" ∷ codes "--workers" ∷ v ∷ []) (commands.Run n)
run_apart_formed v n h =
    let p = number_parts 2 64 v n h in
    (run_apart p.0 p.1 p.3, ap (λ x. codes "run" ∷ codes "--workers" ∷ x ∷ []) p.2, said_run n refl (subst (λ x. IsNumber 2 64 x n) p.2 h) refl)

at_formed : (file text : List ℕ) (day : ℤ) → IsFile file → IsDay text day → Formed (codes "at" ∷ file ∷ text ∷ []) (commands.At file day)
at_formed file text day h k =
    let p = value_parts file h.value in
    let q = value_parts text k.value in
    (at_both p.0 p.1 q.0 q.1 p.3 q.3, ap₂ (λ x y. codes "at" ∷ x ∷ y ∷ []) p.2 q.2, said_at file text day refl (sym (ap Some p.2)) h.utf8 (sym (ap Some q.2)) k.text refl)

load_alone_formed : (n : List ℕ) (rows : ℕ) → IsRows n rows → Formed (codes "load" ∷ n ∷ []) (commands.Load rows 1)
load_alone_formed n rows h =
    let p = number_parts 6 200_000 n rows h in
    (load_alone p.0 p.1 p.3, ap (λ x. codes "load" ∷ x ∷ []) p.2, said_load n rows 1 refl (sym (ap Some p.2)) h refl refl)

apart_load_formed : (v n : List ℕ) (rows workers : ℕ) → IsNumber 2 64 v workers → IsRows n rows → Formed (codes "load" ∷ codes "--workers" ∷ v ∷ n ∷ []) (commands.Load rows workers)
apart_load_formed v n rows workers k h =
    let q = number_parts 2 64 v workers k in
    let p = number_parts 6 200_000 n rows h in
    (apart_load q.0 q.1 p.0 p.1 q.3 p.3, ap₂ (λ x y. codes "load" ∷ codes "--workers" ∷ x ∷ y ∷ []) q.2 p.2, said_load n rows workers refl (sym (ap Some p.2)) h (subst (λ x. IsNumber 2 64 x workers) q.2 k) refl)

load_apart_formed : (n v : List ℕ) (rows workers : ℕ) → IsRows n rows → IsNumber 2 64 v workers → Formed (codes "load" ∷ n ∷ codes "--workers" ∷ v ∷ []) (commands.Load rows workers)
load_apart_formed n v rows workers h k =
    let q = number_parts 2 64 v workers k in
    let p = number_parts 6 200_000 n rows h in
    (load_apart p.0 p.1 q.0 q.1 p.3 q.3, ap₂ (λ x y. codes "load" ∷ x ∷ codes "--workers" ∷ y ∷ []) p.2 q.2, said_load n rows workers refl (sym (ap Some p.2)) h (subst (λ x. IsNumber 2 64 x workers) q.2 k) refl)

joined_load_formed : (v n : List ℕ) (rows workers : ℕ) → IsNumber 2 64 v workers → IsRows n rows → Formed (codes "load" ∷ (codes "--workers=" ++ v) ∷ n ∷ []) (commands.Load rows workers)
joined_load_formed v n rows workers k h =
    let p = number_parts 6 200_000 n rows h in
    (joined_load v p.0 p.1 p.3, ap (λ x. codes "load" ∷ (codes "--workers=" ++ v) ∷ x ∷ []) p.2, said_load n rows workers refl (sym (ap Some p.2)) h k refl)

load_joined_formed : (n v : List ℕ) (rows workers : ℕ) → IsRows n rows → IsNumber 2 64 v workers → Formed (codes "load" ∷ n ∷ (codes "--workers=" ++ v) ∷ []) (commands.Load rows workers)
load_joined_formed n v rows workers h k =
    let p = number_parts 6 200_000 n rows h in
    (load_joined p.0 p.1 v p.3, ap (λ x. codes "load" ∷ x ∷ (codes "--workers=" ++ v) ∷ []) p.2, said_load n rows workers refl (sym (ap Some p.2)) h k refl)

-- the same of other words and another command
moved : (ws vs : List (List ℕ)) (c d : Command) → ws ≡ vs → c ≡ d → Formed vs d → Formed ws c
moved ws vs c d e k h = subst (λ x. Formed x c) (sym e) (subst (λ x. Formed vs x) (sym k) h)

pub command_formed : (ws : List (List ℕ)) (c : Command) → IsCommand ws c → Formed ws c
command_formed ws c (run option n e (absent f g) k) =
    moved ws _ c _ (e ∙ ap (λ o. codes "run" ∷ o) f) (k ∙ ap commands.Run g) (run_alone, refl, said_run 1 refl refl refl)
command_formed ws c (run option n e (given v (inl f) g) k) = moved ws _ c _ (e ∙ ap (λ o. codes "run" ∷ o) f) k (run_apart_formed v n g)
command_formed ws c (run option n e (given v (inr f) g) k) =
    moved ws _ c _ (e ∙ ap (λ o. codes "run" ∷ o) f) k (run_joined v, refl, said_run n refl g refl)
command_formed ws c (at file text day e f g k) = moved ws _ c _ e k (at_formed file text day f g)
command_formed ws c (load_before option n r w e (absent f g) h k) =
    moved ws _ c _ (e ∙ ap (λ o. codes "load" ∷ o ++ n ∷ []) f) (k ∙ ap (commands.Load r) g) (load_alone_formed n r h)
command_formed ws c (load_before option n r w e (given v (inl f) g) h k) =
    moved ws _ c _ (e ∙ ap (λ o. codes "load" ∷ o ++ n ∷ []) f) k (apart_load_formed v n r w g h)
command_formed ws c (load_before option n r w e (given v (inr f) g) h k) =
    moved ws _ c _ (e ∙ ap (λ o. codes "load" ∷ o ++ n ∷ []) f) k (joined_load_formed v n r w g h)
command_formed ws c (load_after option n r w e h (absent f g) k) =
    moved ws _ c _ (e ∙ ap (λ o. codes "load" ∷ n ∷ o) f) (k ∙ ap (commands.Load r) g) (load_alone_formed n r h)
command_formed ws c (load_after option n r w e h (given v (inl f) g) k) =
    moved ws _ c _ (e ∙ ap (λ o. codes "load" ∷ n ∷ o) f) k (load_apart_formed n v r w h g)
command_formed ws c (load_after option n r w e h (given v (inr f) g) k) =
    moved ws _ c _ (e ∙ ap (λ o. codes "load" ∷ n ∷ o) f) k (load_joined_formed n v r w h g)

-- ---- from what clap says of a form to the command

-- a word without `-` at its front
plain_file : (b : ℕ) (bs file : List ℕ) → eqb b 45 ≡ false → Some (b ∷ bs) ≡ Some file → IsUtf8 file → IsFile (b ∷ bs)
plain_file b bs file h e u = record { value = ap not h; utf8 = subst IsUtf8 (same_some _ file e) u }

plain_day : (b : ℕ) (bs text : List ℕ) (day : ℤ) → eqb b 45 ≡ false → Some (b ∷ bs) ≡ Some text → IsRefDayText text day → IsDay (b ∷ bs) day
plain_day b bs text day h e t = record { value = ap not h; text = subst (λ x. IsRefDayText x day) (same_some _ text e) t }

the_rows : (v n : List ℕ) (rows : ℕ) → Some v ≡ Some n → IsRows n rows → IsRows v rows
the_rows v n rows e h = subst (λ x. IsRows x rows) (same_some v n e) h

pub form_command : (f : Form) (c : Command) → IsSaid (said_by f) c → IsCommand (words f) c
form_command run_alone c h = let p = by_run _ c refl h in run [] p.0 refl (absent refl p.1) p.2
form_command (run_apart v vs i) c h = let p = by_run _ c refl h in run _ p.0 refl (given (v ∷ vs) (inl refl) p.1) p.2
form_command (run_joined v) c h = let p = by_run _ c refl h in run _ p.0 refl (given v (inr refl) p.1) p.2
form_command (at_both f fs d ds i j) c h =
    let p = by_at _ c refl h in
    at (f ∷ fs) (d ∷ ds) p.2 refl (plain_file f fs p.0 i p.3 p.4) (plain_day d ds p.1 p.2 j p.5 p.6) (p.7 ∙ ap (λ x. commands.At x p.2) (same_some _ p.0 p.3))
form_command (load_alone n ns i) c h =
    let p = by_load _ c refl h in load_after [] (n ∷ ns) p.1 p.2 refl (the_rows _ p.0 p.1 p.3 p.4) (absent refl p.5) p.6
form_command (apart_load v vs n ns i j) c h =
    let p = by_load _ c refl h in load_before _ (n ∷ ns) p.1 p.2 refl (given (v ∷ vs) (inl refl) p.5) (the_rows _ p.0 p.1 p.3 p.4) p.6
form_command (joined_load v n ns i) c h =
    let p = by_load _ c refl h in load_before _ (n ∷ ns) p.1 p.2 refl (given v (inr refl) p.5) (the_rows _ p.0 p.1 p.3 p.4) p.6
form_command (load_apart n ns v vs i j) c h =
    let p = by_load _ c refl h in load_after _ (n ∷ ns) p.1 p.2 refl (the_rows _ p.0 p.1 p.3 p.4) (given (v ∷ vs) (inl refl) p.5) p.6
form_command (load_joined n ns v i) c h =
    let p = by_load _ c refl h in load_after _ (n ∷ ns) p.1 p.2 refl (the_rows _ p.0 p.1 p.3 p.4) (given v (inr refl) p.5) p.6

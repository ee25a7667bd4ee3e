-- Any words are a command, or none.
use Rattle.std.proofs.Common.{◌≡◌, ◌⊎◌, ◌≤◌, ◌++◌, ◌∷◌, [], ℕ, List, true, codes, length, refl, sym, ap, subst, inl, inr}
use Rattle.std.specs.Str.{IsUtf8}
use Rattle.std.specs.Str.Parse.{IsNumeral, digits_value}
use Rattle.og_base.specs.Calendar.{IsRefDayText}
use Rattle.og_base.proofs.Choices.{Or, at_most, by_bool, goes_on, numeral, same_text, utf8}
use Rattle.og_words.specs.Grammar.{IsCommand, IsDay, IsFile, IsGiven, IsNumber, IsOption, IsRows, absent, is_value}
use Rattle.og_words.specs.declared.command.Command.{Command}
use Rattle.og_words.specs.declared.command.Command.TheVariants as commands
use Rattle.og_words.proofs.Readings.{at_is, at_no_day, at_no_file, at_parts, load_is_after, load_is_before, load_no_option_after, load_no_option_before, load_no_rows, load_nothing, no_first, no_words, not_given, option_is, option_none, run_is, run_none}

-- one of them, or none of them
abbrev pub OneOrNone : {T : Type 0} (P : T → Type 0) → Type 0
OneOrNone {T} P = ((t : T) × P t) ⊎ ((t : T) → P t → ⊥)

-- ---- words

value : (word : List ℕ) → Or (is_value word ≡ true)
value word = by_bool (is_value word) (λ h. h, λ h. h)

a_file : (word : List ℕ) → Or (IsFile word)
a_file word = by (value word) (utf8 word)
  where
    by : Or (is_value word ≡ true) → Or (IsUtf8 word) → Or (IsFile word)
    by (inl a) (inl b) = inl (record { value = a; utf8 = b })
    by (inr out) b = inr (λ h. out h.value)
    by (inl a) (inr out) = inr (λ h. out h.utf8)

a_day : (word : List ℕ) → OneOrNone (IsRefDayText word) → OneOrNone (IsDay word)
a_day word day = by (value word) day
  where
    by : Or (is_value word ≡ true) → OneOrNone (IsRefDayText word) → OneOrNone (IsDay word)
    by (inl a) (inl day) = inl (day.0, record { value = a; text = day.1 })
    by (inr out) day = inr (λ d h. out h.value)
    by (inl a) (inr out) = inr (λ d h. out d h.text)

a_number : (most highest : ℕ) (word : List ℕ) → OneOrNone (IsNumber most highest word)
a_number most highest word = by (numeral word) (at_most (length word) most) (at_most 1 (digits_value 10 word)) (at_most (digits_value 10 word) highest)
  where
    by : Or (IsNumeral 10 word) → Or (length word ≤ most) → Or (1 ≤ digits_value 10 word) → Or (digits_value 10 word ≤ highest) → OneOrNone (IsNumber most highest word)
    by (inl a) (inl b) (inl c) (inl d) = inl (digits_value 10 word, record { digits = a; few = b; number = refl; positive = c; bounded = d })
    by (inr out) b c d = inr (λ n h. out h.digits)
    by (inl a) (inr out) c d = inr (λ n h. out h.few)
    by (inl a) (inl b) (inr out) d = inr (λ n h. out (subst (λ x. 1 ≤ x) h.number h.positive))
    by (inl a) (inl b) (inl c) (inr out) = inr (λ n h. out (subst (λ x. x ≤ highest) h.number h.bounded))

-- ---- the option

given_value : (words : List (List ℕ)) → OneOrNone (IsGiven words)
given_value [] = inr nothing
  where
    nothing : (v : List ℕ) → IsGiven [] v → ⊥
    nothing v (inl h) = cc h
    nothing v (inr h) = cc h
given_value (w ∷ []) = by (goes_on (codes "--workers=") w)
  where
    other : ((v : List ℕ) × (w ≡ codes "--workers=" ++ v) → ⊥) → (v : List ℕ) → IsGiven (w ∷ []) v → ⊥
    other out v (inl h) = cc h
    other out v (inr h) = out (v, let joined : w ≡ codes "--workers=" ++ v = cc h in joined)

    by : Or ((v : List ℕ) × (w ≡ codes "--workers=" ++ v)) → OneOrNone (IsGiven (w ∷ []))
    by (inl h) = inl (h.0, inr (ap (λ x. x ∷ []) h.1))
    by (inr out) = inr (other out)
given_value (w ∷ v ∷ []) = by (same_text w (codes "--workers"))
  where
    other : (w ≡ codes "--workers" → ⊥) → (x : List ℕ) → IsGiven (w ∷ v ∷ []) x → ⊥
    other out x (inl h) = out (let same : w ≡ codes "--workers" = cc h in same)
    other out x (inr h) = cc h

    by : Or (w ≡ codes "--workers") → OneOrNone (IsGiven (w ∷ v ∷ []))
    by (inl same) = inl (v, inl (ap (λ x. x ∷ v ∷ []) same))
    by (inr out) = inr (other out)
given_value (w ∷ v ∷ x ∷ more) = inr too_many
  where
    too_many : (y : List ℕ) → IsGiven (w ∷ v ∷ x ∷ more) y → ⊥
    too_many y (inl h) = cc h
    too_many y (inr h) = cc h

an_option : (words : List (List ℕ)) → OneOrNone (IsOption words)
an_option [] = inl (1, absent refl refl)
an_option (w ∷ ws) = by (given_value (w ∷ ws))
  where
    with_value : (v : List ℕ) → IsGiven (w ∷ ws) v → OneOrNone (IsNumber 2 64 v) → OneOrNone (IsOption (w ∷ ws))
    with_value v h (inl n) = inl (n.0, option_is (w ∷ ws) v n.0 h n.1)
    with_value v h (inr out) = inr (option_none (w ∷ ws) v h out)

    by : OneOrNone (IsGiven (w ∷ ws)) → OneOrNone (IsOption (w ∷ ws))
    by (inl v) = with_value v.0 v.1 (a_number 2 64 v.0)
    by (inr out) = inr (not_given (w ∷ ws) (λ e. cc e) out)

-- ---- commands

run_of : (rest : List (List ℕ)) → OneOrNone (IsCommand (codes "run" ∷ rest))
run_of rest = by (an_option rest)
  where
    by : OneOrNone (IsOption rest) → OneOrNone (IsCommand (codes "run" ∷ rest))
    by (inl n) = inl (commands.Run n.0, run_is rest n.0 n.1)
    by (inr out) = inr (run_none rest out)

-- each text is that of a reference day, or of none
abbrev pub DayOrNone : Type 0
DayOrNone = (text : List ℕ) → OneOrNone (IsRefDayText text)

not_two : (rest : List (List ℕ)) → ((file text : List ℕ) → rest ≡ file ∷ text ∷ [] → ⊥) → (c : Command) → IsCommand (codes "at" ∷ rest) c → ⊥
not_two rest out c h = let p = at_parts rest c h in out p.0 p.1 p.2

at_of : DayOrNone → (rest : List (List ℕ)) → OneOrNone (IsCommand (codes "at" ∷ rest))
at_of days [] = inr (not_two [] (λ file text e. cc e))
at_of days (file ∷ []) = inr (not_two (file ∷ []) (λ f text e. cc e))
at_of days (file ∷ text ∷ []) = by (a_file file) (a_day text (days text))
  where
    by : Or (IsFile file) → OneOrNone (IsDay text) → OneOrNone (IsCommand (codes "at" ∷ file ∷ text ∷ []))
    by (inl is) (inl day) = inl (commands.At file day.0, at_is file text day.0 is day.1)
    by (inr out) day = inr (at_no_file file text out)
    by (inl is) (inr out) = inr (at_no_day file text out)
at_of days (file ∷ text ∷ word ∷ more) = inr (not_two (file ∷ text ∷ word ∷ more) (λ f t e. cc e))

-- words have a last word
last_of : (x : List ℕ) (xs : List (List ℕ)) → (before : List (List ℕ)) × (last : List ℕ) × (x ∷ xs ≡ before ++ last ∷ [])
last_of x [] = ([], x, refl)
last_of x (y ∷ ys) = let h = last_of y ys in (x ∷ h.0, h.1, ap (λ l. x ∷ l) h.2)

-- the words after `load` where the first is no N
load_at_last : (n : List ℕ) (after before : List (List ℕ)) (last : List ℕ) → n ∷ after ≡ before ++ last ∷ [] → ((r : ℕ) → IsRows n r → ⊥) → OneOrNone (IsCommand (codes "load" ∷ n ∷ after))
load_at_last n after before last e none = by (a_number 6 200_000 last) (an_option before)
  where
    by : OneOrNone (IsRows last) → OneOrNone (IsOption before) → OneOrNone (IsCommand (codes "load" ∷ n ∷ after))
    by (inl r) (inl w) = inl (commands.Load r.0 w.0, load_is_before (n ∷ after) before last r.0 w.0 e r.1 w.1)
    by (inr out) w = inr (load_no_rows n last before after e none out)
    by (inl r) (inr out) = inr (load_no_option_before n last before after e none out)

load_of : (rest : List (List ℕ)) → OneOrNone (IsCommand (codes "load" ∷ rest))
load_of [] = inr load_nothing
load_of (n ∷ after) = by (a_number 6 200_000 n) (an_option after)
  where
    by : OneOrNone (IsRows n) → OneOrNone (IsOption after) → OneOrNone (IsCommand (codes "load" ∷ n ∷ after))
    by (inl r) (inl w) = inl (commands.Load r.0 w.0, load_is_after n after r.0 w.0 r.1 w.1)
    by (inl r) (inr out) = inr (load_no_option_after n after r.0 r.1 out)
    by (inr none) w = let l = last_of n after in load_at_last n after l.0 l.1 l.2 none

pub command_or_none : DayOrNone → (words : List (List ℕ)) → OneOrNone (IsCommand words)
command_or_none days [] = inr no_words
command_or_none days (first ∷ rest) = by (same_text first (codes "run")) (same_text first (codes "at")) (same_text first (codes "load"))
  where
    from : (word : List ℕ) → first ≡ word → OneOrNone (IsCommand (word ∷ rest)) → OneOrNone (IsCommand (first ∷ rest))
    from word same h = subst (λ x. OneOrNone (IsCommand (x ∷ rest))) (sym same) h

    by : Or (first ≡ codes "run") → Or (first ≡ codes "at") → Or (first ≡ codes "load") → OneOrNone (IsCommand (first ∷ rest))
    by (inl run) b c = from (codes "run") run (run_of rest)
    by (inr a) (inl at) c = from (codes "at") at (at_of days rest)
    by (inr a) (inr b) (inl load) = from (codes "load") load (load_of rest)
    by (inr a) (inr b) (inr c) = inr (no_first first rest a b c)

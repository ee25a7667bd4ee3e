-- The forms of the words that clap takes.
use Rattle.std.proofs.Common.{◌≡◌, ◌⊎◌, inl, inr, ℕ, List, [], ◌∷◌, true, false, eqb, codes, refl, Some, None, Bool, not, length, ◌==◌, ◌≤◌, map, arith, ◌++◌}
use Rattle.clap.specs.Words.{Text, fault_of, subcommand_of}
use Rattle.clap.proofs.OnLiterals.{clap_on_literals}
use Rattle.og_words.specs.Shape.{ongq}
use Rattle.og_words.specs.Said.{Said, said_of}

-- a word that clap is asked about: a value, the option, or the option with its value in it
pub data Kind : Type 0 where
  value : (c : ℕ) (f : List ℕ) → eqb c 45 ≡ false → Kind
  option : Kind
  joined : List ℕ → Kind

abbrev pub word : Kind → Text
word (value c f h) = c ∷ f
word option = codes "--workers"
word (joined v) = codes "--workers=" ++ v

-- words that clap takes
pub data Form : Type 0 where
  run_alone : Form
  run_apart : (v : ℕ) (vs : List ℕ) → eqb v 45 ≡ false → Form
  run_joined : List ℕ → Form
  at_both : (f : ℕ) (fs : List ℕ) (d : ℕ) (ds : List ℕ) → eqb f 45 ≡ false → eqb d 45 ≡ false → Form
  load_alone : (n : ℕ) (ns : List ℕ) → eqb n 45 ≡ false → Form
  apart_load : (v : ℕ) (vs : List ℕ) (n : ℕ) (ns : List ℕ) → eqb v 45 ≡ false → eqb n 45 ≡ false → Form
  joined_load : (v : List ℕ) (n : ℕ) (ns : List ℕ) → eqb n 45 ≡ false → Form
  load_apart : (n : ℕ) (ns : List ℕ) (v : ℕ) (vs : List ℕ) → eqb n 45 ≡ false → eqb v 45 ≡ false → Form
  load_joined : (n : ℕ) (ns : List ℕ) (v : List ℕ) → eqb n 45 ≡ false → Form

abbrev pub words : Form → List Text
words run_alone = codes "run" ∷ []
words (run_apart v vs h) = codes "run" ∷ codes "--workers" ∷ (v ∷ vs) ∷ []
words (run_joined v) = codes "run" ∷ (codes "--workers=" ++ v) ∷ []
words (at_both f fs d ds h k) = codes "at" ∷ (f ∷ fs) ∷ (d ∷ ds) ∷ []
words (load_alone n ns h) = codes "load" ∷ (n ∷ ns) ∷ []
words (apart_load v vs n ns h k) = codes "load" ∷ codes "--workers" ∷ (v ∷ vs) ∷ (n ∷ ns) ∷ []
words (joined_load v n ns h) = codes "load" ∷ (codes "--workers=" ++ v) ∷ (n ∷ ns) ∷ []
words (load_apart n ns v vs h k) = codes "load" ∷ (n ∷ ns) ∷ codes "--workers" ∷ (v ∷ vs) ∷ []
words (load_joined n ns v h) = codes "load" ∷ (n ∷ ns) ∷ (codes "--workers=" ++ v) ∷ []

-- what clap says of the words of a form
abbrev pub said_by : Form → Said
said_by run_alone = record { name = codes "run"; workers = None; file = None; day = None; rows = None }
said_by (run_apart v vs h) = record { name = codes "run"; workers = Some (v ∷ vs); file = None; day = None; rows = None }
said_by (run_joined v) = record { name = codes "run"; workers = Some v; file = None; day = None; rows = None }
said_by (at_both f fs d ds h k) = record { name = codes "at"; workers = None; file = Some (f ∷ fs); day = Some (d ∷ ds); rows = None }
said_by (load_alone n ns h) = record { name = codes "load"; workers = None; file = None; day = None; rows = Some (n ∷ ns) }
said_by (apart_load v vs n ns h k) = record { name = codes "load"; workers = Some (v ∷ vs); file = None; day = None; rows = Some (n ∷ ns) }
said_by (joined_load v n ns h) = record { name = codes "load"; workers = Some v; file = None; day = None; rows = Some (n ∷ ns) }
said_by (load_apart n ns v vs h k) = record { name = codes "load"; workers = Some (v ∷ vs); file = None; day = None; rows = Some (n ∷ ns) }
said_by (load_joined n ns v h) = record { name = codes "load"; workers = Some v; file = None; day = None; rows = Some (n ∷ ns) }

pub form_taken : (f : Form) → fault_of ongq (words f) ≡ []
unfolding clap_on_literals
form_taken run_alone = refl
form_taken (run_apart v vs h) = simp h
form_taken (run_joined v) = refl
form_taken (at_both f fs d ds h k) = simp (h, k)
form_taken (load_alone n ns h) = simp h
form_taken (apart_load v vs n ns h k) = simp (h, k)
form_taken (joined_load v n ns h) = simp h
form_taken (load_apart n ns v vs h k) = simp (h, k)
form_taken (load_joined n ns v h) = simp h

pub form_said : (f : Form) → said_of (subcommand_of ongq (words f)) ≡ Some (said_by f)
unfolding clap_on_literals
form_said run_alone = refl
form_said (run_apart v vs h) = simp h
form_said (run_joined v) = refl
form_said (at_both f fs d ds h k) = simp (h, k)
form_said (load_alone n ns h) = simp h
form_said (apart_load v vs n ns h k) = simp (h, k)
form_said (joined_load v n ns h) = simp h
form_said (load_apart n ns v vs h k) = simp (h, k)
form_said (load_joined n ns v h) = simp h

-- clap refuses the words
abbrev pub is_refused : List Text → Bool
is_refused ws = not (length (fault_of ongq ws) == 0)

-- words that clap refuses, or that have a form
abbrev pub Told : List Text → Type 0
Told ws = (is_refused ws ≡ true) ⊎ ((f : Form) × (ws ≡ words f))

run_1 : (k : Kind) → Told (codes "run" ∷ word k ∷ [])
unfolding clap_on_literals
run_1 (value c f h) = inl (simp h)
run_1 option = inl refl
run_1 (joined v) = inr (run_joined v, refl)

run_2 : (k l : Kind) → Told (codes "run" ∷ word k ∷ word l ∷ [])
unfolding clap_on_literals
run_2 (value c f h) l = inl (simp h)
run_2 option (value c f h) = inr (run_apart c f h, refl)
run_2 option option = inl refl
run_2 option (joined v) = inl refl
run_2 (joined v) (value c f h) = inl (simp h)
run_2 (joined v) option = inl refl
run_2 (joined v) (joined w) = inl refl

run_3 : (k l m : Kind) → is_refused (codes "run" ∷ word k ∷ word l ∷ word m ∷ []) ≡ true
unfolding clap_on_literals
run_3 (value c f h) l m = simp h
run_3 option (value c f h) (value d g i) = simp (h, i)
run_3 option (value c f h) option = simp h
run_3 option (value c f h) (joined v) = simp h
run_3 option option m = refl
run_3 option (joined v) m = refl
run_3 (joined v) (value c f h) m = simp h
run_3 (joined v) option (value c f h) = simp h
run_3 (joined v) option option = refl
run_3 (joined v) option (joined w) = refl
run_3 (joined v) (joined w) m = refl

at_0 : is_refused (codes "at" ∷ []) ≡ true
unfolding clap_on_literals
at_0 = refl

at_1 : (k : Kind) → is_refused (codes "at" ∷ word k ∷ []) ≡ true
unfolding clap_on_literals
at_1 (value c f h) = simp h
at_1 option = refl
at_1 (joined v) = refl

at_2 : (k l : Kind) → Told (codes "at" ∷ word k ∷ word l ∷ [])
unfolding clap_on_literals
at_2 (value c f h) (value d g i) = inr (at_both c f d g h i, refl)
at_2 (value c f h) option = inl (simp h)
at_2 (value c f h) (joined v) = inl (simp h)
at_2 option l = inl refl
at_2 (joined v) l = inl refl

at_3 : (k l m : Kind) → is_refused (codes "at" ∷ word k ∷ word l ∷ word m ∷ []) ≡ true
unfolding clap_on_literals
at_3 (value c f h) (value d g i) (value e j n) = simp (h, i, n)
at_3 (value c f h) (value d g i) option = simp (h, i)
at_3 (value c f h) (value d g i) (joined v) = simp (h, i)
at_3 (value c f h) option m = simp h
at_3 (value c f h) (joined v) m = simp h
at_3 option l m = refl
at_3 (joined v) l m = refl

load_0 : is_refused (codes "load" ∷ []) ≡ true
unfolding clap_on_literals
load_0 = refl

load_1 : (k : Kind) → Told (codes "load" ∷ word k ∷ [])
unfolding clap_on_literals
load_1 (value c f h) = inr (load_alone c f h, refl)
load_1 option = inl refl
load_1 (joined v) = inl refl

load_2 : (k l : Kind) → Told (codes "load" ∷ word k ∷ word l ∷ [])
unfolding clap_on_literals
load_2 (value c f h) (value d g i) = inl (simp (h, i))
load_2 (value c f h) option = inl (simp h)
load_2 (value c f h) (joined v) = inr (load_joined c f v h, refl)
load_2 option (value c f h) = inl (simp h)
load_2 option option = inl refl
load_2 option (joined v) = inl refl
load_2 (joined v) (value c f h) = inr (joined_load v c f h, refl)
load_2 (joined v) option = inl refl
load_2 (joined v) (joined w) = inl refl

load_3 : (k l m : Kind) → Told (codes "load" ∷ word k ∷ word l ∷ word m ∷ [])
unfolding clap_on_literals
load_3 (value c f h) (value d g i) m = inl (simp (h, i))
load_3 (value c f h) option (value d g i) = inr (load_apart c f d g h i, refl)
load_3 (value c f h) option option = inl (simp h)
load_3 (value c f h) option (joined v) = inl (simp h)
load_3 (value c f h) (joined v) (value d g i) = inl (simp (h, i))
load_3 (value c f h) (joined v) option = inl (simp h)
load_3 (value c f h) (joined v) (joined w) = inl (simp h)
load_3 option (value c f h) (value d g i) = inr (apart_load c f d g h i, refl)
load_3 option (value c f h) option = inl (simp h)
load_3 option (value c f h) (joined v) = inl (simp h)
load_3 option option m = inl refl
load_3 option (joined v) m = inl refl
load_3 (joined v) (value c f h) (value d g i) = inl (simp (h, i))
load_3 (joined v) (value c f h) option = inl (simp h)
load_3 (joined v) (value c f h) (joined w) = inl (simp h)
load_3 (joined v) option (value c f h) = inl (simp h)
load_3 (joined v) option option = inl refl
load_3 (joined v) option (joined w) = inl refl
load_3 (joined v) (joined w) m = inl refl

-- words after the name of a command, three at most
pub run_told : (ks : List Kind) → length ks ≤ 3 → Told (codes "run" ∷ map word ks)
run_told [] l = inr (run_alone, refl)
run_told (k ∷ []) l = run_1 k
run_told (k ∷ m ∷ []) l = run_2 k m
run_told (k ∷ m ∷ n ∷ []) l = inl (run_3 k m n)
run_told (k ∷ m ∷ n ∷ o ∷ ks) l = absurd (omega arith)

pub at_told : (ks : List Kind) → length ks ≤ 3 → Told (codes "at" ∷ map word ks)
at_told [] l = inl at_0
at_told (k ∷ []) l = inl (at_1 k)
at_told (k ∷ m ∷ []) l = at_2 k m
at_told (k ∷ m ∷ n ∷ []) l = inl (at_3 k m n)
at_told (k ∷ m ∷ n ∷ o ∷ ks) l = absurd (omega arith)

pub load_told : (ks : List Kind) → length ks ≤ 3 → Told (codes "load" ∷ map word ks)
load_told [] l = inl load_0
load_told (k ∷ []) l = load_1 k
load_told (k ∷ m ∷ []) l = load_2 k m
load_told (k ∷ m ∷ n ∷ []) l = load_3 k m n
load_told (k ∷ m ∷ n ∷ o ∷ ks) l = absurd (omega arith)

-- Checks one after the other: each gives a value or the first fault.
use Rattle.std.specs.Prelude.{◌≡◌, ◌==◌, ℕ, zero, Bool, true, false, not, List, [], ◌∷◌, Result, Ok, Err, length, nat_lt, if◌then◌else◌}
use denote.Enum.Bare.{sameb}
use Rattle.og_value.specs.contracts.kind.Kind.{the_type}
use Rattle.og_value.specs.declared.kind.Kind.{Kind}
use Rattle.og_check.specs.declared.refusal.CheckRefusal.{CheckRefusal}
use Rattle.og_check.specs.declared.refusal.CheckRefusal.TheVariants as r

-- a value, or the first fault
abbrev pub Checked : Type 0 → Type 0
Checked A = Result A CheckRefusal

-- the one, and then the other
abbrev pub bind : {A B : Type 0} → Checked A → (A → Checked B) → Checked B
bind (Ok x) f = f x
bind (Err fault) f = Err fault

infixl 10 ◌>>=◌
abbrev pub ◌>>=◌ : {A B : Type 0} → Checked A → (A → Checked B) → Checked B
p >>= f = bind p f

infixl 10 ◌>>◌
abbrev pub ◌>>◌ : {A B : Type 0} → Checked A → Checked B → Checked B
p >> q = p >>= (λ _. q)

-- the value, without a check
abbrev pub pure : {A : Type 0} → A → Checked A
pure x = Ok x

-- each of a list in order: all values, or the first fault
abbrev pub in_order : {A : Type 0} → List (Checked A) → Checked (List A)
in_order [] = Ok []
in_order (p ∷ ps) = do x ← p; xs ← in_order ps; pure (x ∷ xs)

-- with each of a list in turn, from the left
abbrev pub in_turn : {S A : Type 0} → (S → A → Checked S) → S → List A → Checked S
in_turn step before [] = Ok before
in_turn step before (x ∷ xs) = do after ← step before x; in_turn step after xs

-- the check of each of a list in order: no value, or the first fault
abbrev pub on_each : {A : Type 0} → (A → Checked (Unit {0})) → List A → Checked (Unit {0})
on_each check xs = in_turn (λ _ x. check x) tt xs

-- no fault where the test holds
abbrev pub unless : Bool → CheckRefusal → Checked (Unit {0})
unless good fault = if good then Ok tt else Err fault

-- whether two kinds are one
unfoldable pub is_kind : Kind → Kind → Bool
is_kind = sameb the_type

-- the kind that was found is the wanted one
abbrev pub same_kind : Kind → Kind → Checked (Unit {0})
same_kind found wanted = unless (is_kind found wanted) (r.KindsDiffer found wanted)

-- the kinds that were found are the wanted ones, from the left
abbrev pub same_kinds : List Kind → List Kind → Checked (Unit {0})
same_kinds (found ∷ more) (wanted ∷ others) = do same_kind found wanted; same_kinds more others
same_kinds _ _ = pure tt

-- so many were found as are wanted
abbrev pub same_count : ℕ → ℕ → Checked (Unit {0})
same_count found wanted = unless (found == wanted) (r.CountsDiffer found wanted)

-- as many kinds as are wanted, and each the wanted one
abbrev pub agree : List Kind → List Kind → Checked (Unit {0})
agree found wanted = do same_count (length found) (length wanted); same_kinds found wanted

-- at least one, and at most so many
abbrev pub within : ℕ → ℕ → Checked (Unit {0})
within limit zero = Err (r.CountsDiffer 0 1)
within limit found = unless (not (nat_lt limit found)) (r.TooMany found limit)

-- a reason other than want of memory
abbrev pub is_fault : CheckRefusal → Bool
is_fault r.NoMemory = false
is_fault _ = true

-- the reason is that memory ran out, or one of which this holds
abbrev pub OrNoMemory : (CheckRefusal → Type 0) → CheckRefusal → Type 0
OrNoMemory P reason = is_fault reason ≡ true → P reason

-- The bytes that tokens are made of.
use Rattle.std.specs.Prelude.{◌+◌, ◌-◌, ◌*◌, ◌^◌, ◌||◌, ◌==◌, ◌++◌, ◌≤ℤ◌, ◌<ℤ◌, ℕ, ℤ, pos, neg_ℤ, Bool, not, if◌then◌else◌, List, [], ◌∷◌, ⊤, IsTrue, IsFalse, slice_index}

-- space, tab, line feed or carriage return
abbrev pub is_blank : ℕ → Bool
is_blank b = b == 32 || b == 9 || b == 10 || b == 13

-- no line feed
abbrev pub is_in_line : ℕ → Bool
is_in_line b = not (b == 10)

-- `'`
abbrev pub is_quote : ℕ → Bool
is_quote b = b == 39

-- each byte is of the class
abbrev pub AreAll : (ℕ → Bool) → List ℕ → Type 0
AreAll p [] = ⊤
AreAll p (b ∷ z) = IsTrue (p b) × AreAll p z

-- no byte of the class comes next
abbrev pub Stops : (ℕ → Bool) → List ℕ → Type 0
Stops p [] = ⊤
Stops p (b ∷ z) = IsFalse (p b)

-- bytes of the class, as many as there are before the rest
pub record IsRun (p : ℕ → Bool) (text rest : List ℕ) : Type 0 where
  pub all : AreAll p text
  pub whole : Stops p rest

-- whether `-` comes first
abbrev pub has_sign : List ℕ → Bool
has_sign z = slice_index z 0 == 45

-- the bytes after a `-`, or all
abbrev pub unsigned : List ℕ → List ℕ
unsigned [] = []
unsigned (b ∷ z) = if b == 45 then z else b ∷ z

-- the value of digits that follow those of n
abbrev pub value_after : ℕ → List ℕ → ℕ
value_after n [] = n
value_after n (b ∷ z) = value_after (10 * n + (b - 48)) z

-- -n or n
abbrev pub signed : Bool → ℕ → ℤ
signed is_negative n = if is_negative then neg_ℤ (pos n) else pos n

-- the value of an optional `-` and digits
abbrev pub value_of : List ℕ → ℤ
value_of text = signed (has_sign text) (value_after 0 (unsigned text))

-- from -9223372036854775808 to 9223372036854775807
pub record IsIn64 (n : ℤ) : Type 0 where
  pub above : neg_ℤ (pos (2 ^ 63)) ≤ℤ n
  pub below : n <ℤ pos (2 ^ 63)

-- the bytes with each quote doubled
abbrev pub doubled : List ℕ → List ℕ
doubled [] = []
doubled (b ∷ z) = if is_quote b then 39 ∷ 39 ∷ doubled z else b ∷ doubled z

-- the bytes with each quote doubled, between quotes
abbrev pub quoted : List ℕ → List ℕ
quoted content = 39 ∷ doubled content ++ 39 ∷ []

-- Heights: numbers that rise with values of one day and with lists of them.
use Rattle.std.specs.Prelude.{◌≡◌, ◌+◌, ◌*◌, ◌%◌, ◌^◌, ◌<◌, ℕ, zero, suc, ℤ, List, [], ◌∷◌, FitsSigned, slice_index}
use Rattle.std.specs.Int.{w64, cast_unsigned}
use Rattle.og_value.specs.Order.{rank}
use Rattle.og_value.specs.declared.value.FixedValue.{FixedValue}
use Rattle.og_value.specs.declared.value.FixedValue.TheVariants.{Int, Text, Date, Period}

-- a number of 64 bits with a sign, moved up so that the least one is 0
abbrev pub lifted : ℤ → ℕ
lifted n = (cast_unsigned w64 n + 2 ^ 63) % 2 ^ 64

-- the number that the first k bytes spell after n, the greatest first; a byte that is missing counts as 0
unfoldable pub spelt : ℕ → ℕ → List ℕ → ℕ
spelt zero n bytes = n
spelt (suc k) n [] = spelt k (n * 256) []
spelt (suc k) n (b ∷ bs) = spelt k (n * 256 + b) bs

-- bytes are less than 256
abbrev pub AreBytes : List ℕ → Type 0
AreBytes bs = (i : ℕ) → slice_index bs i < 256

-- numbers and days fit 64 bits, and the bytes of a text are bytes
abbrev pub HasRange : FixedValue → Type 0
HasRange (Int n) = FitsSigned w64 n
HasRange (Text t) = AreBytes t
HasRange (Date a) = FitsSigned w64 a
HasRange (Period p) = FitsSigned w64 p.start

-- the height of a value among those of its kind: the number, the first 14 bytes, the day or the start
abbrev pub kind_height : FixedValue → ℕ
kind_height (Int n) = lifted n
kind_height (Text t) = spelt 14 0 t
kind_height (Date a) = lifted a
kind_height (Period p) = lifted p.start

-- the height of a value: its kind first, and then its height among those of its kind
abbrev pub IsValueHeight : FixedValue → ℕ → Type 0
IsValueHeight v height = HasRange v × (height ≡ rank v * 2 ^ 112 + kind_height v)

-- the height of a list: that of its first part, and 0 where it has none
abbrev pub IsListHeight : {T : Type 0} → (T → ℕ → Type 0) → List T → ℕ → Type 0
IsListHeight is_height [] height = height ≡ 0
IsListHeight is_height (x ∷ xs) height = is_height x height

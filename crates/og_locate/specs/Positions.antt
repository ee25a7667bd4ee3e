-- The line and the column of a place.
use Rattle.std.specs.Prelude.{◌≡◌, ◌==◌, ◌+◌, ◌||◌, ℕ, Bool, not, List, Option, Some, None, drop, take, nat_lt}
use Rattle.std.specs.List.{count_by}
use Rattle.memchr.specs.Find.{IsLastByte, is_byte}
use Rattle.og_locate.specs.declared.position.Position.{Position}

-- the line behind these bytes, counted from 1: one more than their line feeds
abbrev pub line_behind : List ℕ → ℕ
line_behind bytes = count_by (λ b. b == 10) bytes + 1

-- behind a place, or at the beginning where there is none
abbrev pub behind : Option ℕ → ℕ
behind None = 0
behind (Some at) = at + 1

-- where the line of a place begins: behind the last line feed before it
abbrev pub IsLineStart : List ℕ → ℕ → ℕ → Type 0
IsLineStart script offset start = (last : Option ℕ) × IsLastByte (is_byte 10) (take offset script) last × (start ≡ behind last)

-- a character begins with the byte
abbrev pub begins_char : ℕ → Bool
begins_char b = nat_lt b 128 || not (nat_lt b 192)

-- the column behind these bytes of a line, counted in characters from 1
abbrev pub column_behind : List ℕ → ℕ
column_behind bytes = count_by begins_char bytes + 1

-- the line of a place, and the column behind what stands before it on that line
abbrev pub IsPositionOf : List ℕ → ℕ → Position → Type 0
IsPositionOf script offset position =
    (position.line ≡ line_behind (take offset script)) × (start : ℕ) × IsLineStart script offset start × (position.column ≡ column_behind (drop start (take offset script)))

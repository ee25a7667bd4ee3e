-- The groups in which rows stand and seek each other.
use Rattle.std.specs.Prelude.{ℕ, Bool, ◌==◌, ◌||◌}
use Rattle.og_base.specs.declared.row.Groups.{Groups}

-- whether the number is that of one of the two groups
abbrev pub is_group : Groups → ℕ → Bool
is_group groups n = (n == groups.first) || (n == groups.second)

-- whether some group is one of the first two and one of the second two
abbrev pub share_group : Groups → Groups → Bool
share_group a b = is_group a b.first || is_group a b.second

-- Which statements are too deep, by their lexemes alone.
use Rattle.std.specs.Prelude.{◌+◌, ◌-◌, ◌||◌, ℕ, suc, Bool, false, List, [], ◌∷◌, nat_lt, if◌then◌else◌}
use Rattle.og_syntax.specs.declared.lexeme.Sort.{Sort}
use Rattle.og_syntax.specs.declared.lexeme.Sort.TheVariants as k
use Rattle.og_syntax.specs.declared.lexeme.Lexeme.{Lexeme}
use Rattle.og_syntax.specs.Lexemes.{is}

-- the most parentheses that are open at once, words NOT, and words UNION, EXCEPT and INTERSECT of a statement
abbrev pub max_depth : ℕ
max_depth = 100

-- how many parentheses are open after a lexeme; a `)` where none is open counts nothing
abbrev pub opened_after : ℕ → Sort → ℕ
opened_after opened k.LeftParen = opened + 1
opened_after opened k.RightParen = opened - 1
opened_after opened _ = opened

-- more parentheses are open at once than may be, where so many are open before
abbrev pub is_nested : ℕ → List Lexeme → Bool
is_nested opened [] = false
is_nested opened (t ∷ ts) = nat_lt max_depth (opened_after opened t.sort) || is_nested (opened_after opened t.sort) ts

-- how many lexemes are of these sorts
abbrev pub count_of : (Sort → Bool) → List Lexeme → ℕ
count_of h [] = 0
count_of h (t ∷ ts) = if h t.sort then suc (count_of h ts) else count_of h ts

-- UNION, EXCEPT or INTERSECT
abbrev pub is_set_word : Sort → Bool
is_set_word a = is k.Union a || is k.Except a || is k.Intersect a

-- more parentheses open at once, words NOT, or words UNION, EXCEPT and INTERSECT together, than there may be
unfoldable pub is_too_deep : List Lexeme → Bool
is_too_deep ts = is_nested 0 ts || nat_lt max_depth (count_of (is k.Not) ts) || nat_lt max_depth (count_of is_set_word ts)

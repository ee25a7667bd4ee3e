-- How deep the sorts of lexemes nest.
use Rattle.std.specs.Prelude.{◌≡◌, ◌≤◌, ◌||◌, ℕ, suc, Bool, false, List, [], ◌∷◌, nat_lt, map, if◌then◌else◌}
use Rattle.og_syntax.specs.declared.lexeme.Sort.{Sort}
use Rattle.og_syntax.specs.declared.lexeme.Sort.TheVariants as k
use Rattle.og_syntax.specs.declared.lexeme.Lexeme.{Lexeme}
use Rattle.og_syntax.specs.Lexemes.{is}
use Rattle.og_parse.specs.Depth.{opened_after, is_set_word}

-- the sorts of lexemes
abbrev pub sorts_of : List Lexeme → List Sort
sorts_of = map (λ t. t.sort)

-- how many parentheses are open after all of them
abbrev pub opened_by : ℕ → List Sort → ℕ
opened_by opened [] = opened
opened_by opened (a ∷ sorts) = opened_by (opened_after opened a) sorts

-- more than 100 parentheses are open at once, where so many are open before
abbrev pub nests : ℕ → List Sort → Bool
nests opened [] = false
nests opened (a ∷ sorts) = nat_lt 100 (opened_after opened a) || nests (opened_after opened a) sorts

-- how many are of these sorts
abbrev pub number_of : (Sort → Bool) → List Sort → ℕ
number_of h [] = 0
number_of h (a ∷ sorts) = if h a then suc (number_of h sorts) else number_of h sorts

-- both close what they open, and the second nests no deeper than the first and has no more words NOT and words between queries
pub record IsNoDeeper (first second : List Sort) : Type 0 where
  pub first_closed : (n : ℕ) → opened_by n first ≡ n
  pub second_closed : (n : ℕ) → opened_by n second ≡ n
  pub nested : (m n : ℕ) → m ≤ n → n ≤ 100 → nests n first ≡ false → nests m second ≡ false
  pub nots : number_of (is k.Not) second ≤ number_of (is k.Not) first
  pub set_words : number_of is_set_word second ≤ number_of is_set_word first

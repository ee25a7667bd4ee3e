-- What the bytes of a lexeme write.
use Rattle.std.specs.Prelude.{◌≡◌, ◌-◌, ℕ, ℤ, pos, Bool, true, false, List, Option, Some, None, take, drop, IsUtf8, if◌then◌else◌}
use Rattle.std.specs.Str.{is_utf8}
use Rattle.og_base.specs.Calendar.{IsDayText}
use Rattle.og_lex.specs.Grammar.{IsTextAt}
use Rattle.og_lex.specs.declared.token.Token.{Token}
use Rattle.og_lex.specs.declared.token.TokenKind.TheVariants as kinds
use Rattle.og_time.specs.Point.{Point, IsPointText}
use Rattle.og_time.specs.Period.{Period, IsPeriodText}
use Rattle.og_value.specs.Words.{is_word, folded}
use Rattle.og_value.specs.declared.value.Value.{Value}
use Rattle.og_value.specs.declared.value.Value.TheVariants as v
use Rattle.og_syntax.specs.declared.lexeme.Lexeme.{Lexeme}

-- the bytes of a lexeme
unfoldable pub spelling : List ℕ → Lexeme → List ℕ
spelling script t = take (t.end - t.start) (drop t.start script)

-- the token of a text
abbrev pub text_token : Lexeme → Token
text_token t = record { kind = kinds.Text; start = t.start; end = t.end }

-- what stands between the quotes of a lexeme
abbrev pub IsContent : List ℕ → Lexeme → List ℕ → Type 0
IsContent script t content = IsTextAt script (text_token t) content

-- the name of a word, in lower case
abbrev pub IsNameOf : List ℕ → List ℕ → Type 0
IsNameOf word x = (is_word word ≡ true) × (x ≡ folded word)

-- the name of a word, where the bytes are one
abbrev pub name_of : List ℕ → Option (List ℕ)
name_of word = if is_word word then Some (folded word) else None

-- the text of bytes in UTF-8
abbrev pub IsTextOf : List ℕ → List ℕ → Type 0
IsTextOf bytes x = IsUtf8 bytes × (x ≡ bytes)

-- the bytes, where they are in UTF-8
abbrev pub text_of : List ℕ → Option (List ℕ)
text_of bytes = if is_utf8 bytes then Some bytes else None

-- the fixed point of a day text
abbrev pub IsDayValue : List ℕ → Value → Type 0
IsDayValue text x = (n : ℤ) × IsDayText text n × (x ≡ v.Point (record { low = n; high = n }))

-- the fixed point of a day
abbrev pub day_value_from : Option ℤ → Option Value
day_value_from (Some n) = Some (v.Point (record { low = n; high = n }))
day_value_from None = None

-- the point of a point text
abbrev pub IsPointValue : List ℕ → Value → Type 0
IsPointValue text x = (p : Point) × IsPointText text p × (x ≡ v.Point p)

-- a point as a value
abbrev pub point_value_from : Option Point → Option Value
point_value_from (Some p) = Some (v.Point p)
point_value_from None = None

-- the period of a period text
abbrev pub IsPeriodValue : List ℕ → Value → Type 0
IsPeriodValue text x = (i : Period) × IsPeriodText text i × (x ≡ v.Period i)

-- a period as a value
abbrev pub period_value_from : Option Period → Option Value
period_value_from (Some i) = Some (v.Period i)
period_value_from None = None

-- the value of a quoted text; where texts need not be of their form, a number stands for each of them
abbrev pub IsOfForm : Bool → (List ℕ → Value → Type 0) → List ℕ → Value → Type 0
IsOfForm true R text x = R text x
IsOfForm false R text x = x ≡ v.Int (pos 0)

-- the value of a text of its form, or the number where it need not be
abbrev pub of_form : Bool → Option Value → Option Value
of_form true value = value
of_form false value = Some (v.Int (pos 0))

-- Where in a script a fault stands.
use Rattle.std.specs.Prelude.{◌≡◌, ◌⊎◌, ◌-◌, ◌<◌, ◌≤◌, ℕ, false, List, Option, Some, None, if◌then◌else◌, nat_lt, length, take, IfSome, MatchOption}
use Rattle.og_check.specs.declared.refusal.CheckRefusal.{CheckRefusal}
use Rattle.og_check.specs.declared.refusal.CheckRefusal.TheVariants as checks
use Rattle.og_faults.specs.declared.fault.Fault.{Fault}
use Rattle.og_faults.specs.declared.fault.Fault.TheVariants as faults
use Rattle.og_locate.specs.BadTexts.{IsFirstBad}
use Rattle.og_locate.specs.Deep.{IsDeepAt}
use Rattle.og_locate.specs.Fronts.{IsFront}
use Rattle.og_locate.specs.Named.{IsNamed, lexeme_at}
use Rattle.og_locate.specs.Pieces.{IsPieceAt}
use Rattle.og_parse.specs.Depth.{is_too_deep}
use Rattle.og_report.specs.declared.finding.Mark.{Mark}
use Rattle.og_syntax.specs.declared.lexeme.Lexeme.{Lexeme}
use Rattle.og_syntax.specs.declared.lexeme.Sort.TheVariants.{Nothing}

-- the place among lexemes that was found, or that of the first lexeme where none was
abbrev pub or_first : Option ℕ → ℕ
or_first (Some i) = i
or_first None = 0

-- the name that the checks found wrong, if it is one
abbrev pub wrong_name : CheckRefusal → Option (List ℕ)
wrong_name (checks.NoSuchName name) = Some name
wrong_name (checks.NameTaken name) = Some name
wrong_name (checks.NoSuchColumn name) = Some name
wrong_name (checks.AmbiguousColumn name) = Some name
wrong_name _ = None

-- the place of the first lexeme that is the name, or none where none is
abbrev pub IsFirstNamed : List ℕ → List Lexeme → List ℕ → Option ℕ → Type 0
IsFirstNamed script piece name found =
    MatchOption found ((i : ℕ) → i < length piece → ¬ IsNamed script name (lexeme_at piece i))
    (λ n. (n < length piece) × IsNamed script name (lexeme_at piece n) × ((i : ℕ) → i < n → ¬ IsNamed script name (lexeme_at piece i)))

-- the lexeme that is the name that was found wrong, and else the first one
abbrev pub IsNamePlace : List ℕ → List Lexeme → Option (List ℕ) → ℕ → Type 0
IsNamePlace script piece None i = i ≡ 0
IsNamePlace script piece (Some name) i = (found : Option ℕ) × IsFirstNamed script piece name found × (i ≡ or_first found)

-- which lexeme of its statement a fault is about: one that comes behind a front of some statement; one with which the statement is too deep; the first literal that is none of its kind; the first that is the name
-- found wrong; and of any other fault, and where there is none of these, the first lexeme
abbrev pub IsAbout : List ℕ → List Lexeme → Fault → ℕ → Type 0
IsAbout script piece (faults.Syntax n) i = (i ≡ 0) ⊎ ((i ≤ length piece) × IsFront script (take i piece))
IsAbout script piece (faults.TooDeep n) i = IsDeepAt piece i ⊎ ((is_too_deep piece ≡ false) × (i ≡ 0))
IsAbout script piece (faults.Literal n) i = (found : Option ℕ) × IsFirstBad script Nothing Nothing 0 piece found × (i ≡ or_first found)
IsAbout script piece (faults.Check n refusal) i = IsNamePlace script piece (wrong_name refusal) i
IsAbout script piece _ i = i ≡ 0

-- where the lexeme begins, or where the last one ends if there is none at that place
abbrev pub place_of : List Lexeme → ℕ → ℕ
place_of piece i = if nat_lt i (length piece) then (lexeme_at piece i).start else (lexeme_at piece (length piece - 1)).end

-- the mark begins at the lexeme of the statement with that number that the fault is about
abbrev pub IsStatementMark : List ℕ → ℕ → Fault → Mark → Type 0
IsStatementMark script n fault mark = (piece : List Lexeme) × IsPieceAt script n piece × (i : ℕ) × IsAbout script piece fault i × (mark.start ≡ place_of piece i)

-- the mark of a fault: none of the words and of a source that is too long, at the place that a fault of the tokens names, and else in the statement, if the script has it
abbrev pub IsMarkOf : List ℕ → Fault → Option Mark → Type 0
IsMarkOf script faults.Words mark = mark ≡ None
IsMarkOf script faults.SourceTooLong mark = mark ≡ None
IsMarkOf script (faults.BadByte at) mark = MatchOption mark ⊥ (λ m. m.start ≡ at)
IsMarkOf script (faults.OpenText at) mark = MatchOption mark ⊥ (λ m. m.start ≡ at)
IsMarkOf script (faults.NumberRange at) mark = MatchOption mark ⊥ (λ m. m.start ≡ at)
IsMarkOf script (faults.Syntax n) mark = IfSome mark (IsStatementMark script n (faults.Syntax n))
IsMarkOf script (faults.TooDeep n) mark = IfSome mark (IsStatementMark script n (faults.TooDeep n))
IsMarkOf script (faults.Literal n) mark = IfSome mark (IsStatementMark script n (faults.Literal n))
IsMarkOf script (faults.Check n refusal) mark = IfSome mark (IsStatementMark script n (faults.Check n refusal))
IsMarkOf script (faults.NoFile n file) mark = IfSome mark (IsStatementMark script n (faults.NoFile n file))
IsMarkOf script (faults.Header n) mark = IfSome mark (IsStatementMark script n (faults.Header n))
IsMarkOf script (faults.Record n number) mark = IfSome mark (IsStatementMark script n (faults.Record n number))
IsMarkOf script (faults.RowCount n said found) mark = IfSome mark (IsStatementMark script n (faults.RowCount n said found))

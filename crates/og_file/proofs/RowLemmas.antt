-- The rows of saved files: the cells, and the days behind them.
use Rattle.std.proofs.Common.{◌≡◌, ◌+◌, ◌∙◌, ℕ, List, [], ◌∷◌, ◌++◌, Some, None, length, take, codes, refl, sym, ap, arith}
use Rattle.std.proofs.Math.Seq.{take-length}
use Rattle.csv.specs.Records.{field_at}
use Rattle.og_base.specs.Calendar.{first_day, after_all, day_text}
use Rattle.og_base.specs.Ranges.{Range}
use Rattle.og_base.specs.SetTexts.{set_text}
use Rattle.og_rel.specs.Relations.{HasDays}
use Rattle.og_value.specs.declared.schema.Column.{Column}
use Rattle.og_file.specs.Records.{Record}
use Rattle.og_file.specs.SavedFile.{IsNoRow, Version, full_text}
use Rattle.og_file.proofs.CellLemmas.{next_field, as_long}

-- all days
abbrev pub all_range : Range
all_range = record { lo = first_day; hi = after_all }

-- the text of all days
pub all_text : set_text (all_range ∷ []) ≡ full_text
unfolding day_text
all_text = refl

-- the second byte
second : List ℕ → ℕ
second [] = 0
second (_ ∷ []) = 0
second (_ ∷ (x ∷ _)) = x

apart : ◌≡◌ {A = ℕ} 91 125 → ⊥
apart e = omega (arith, e)

-- a row has a day, and so its text is not that of no days
pub some_text : (days : List Range) → HasDays days → set_text days ≡ codes "{}" → ⊥
unfolding second
some_text [] has e = has.0 refl
some_text (r ∷ []) has e = apart (ap second e)
some_text (r ∷ (q ∷ rs)) has e = apart (ap second e)

-- the field there is the last one
pub last_field : (fs : Record) (i : ℕ) (f : List ℕ) → field_at fs i ≡ Some f → length fs ≡ i + 1 → fs ≡ take i fs ++ f ∷ []
last_field fs i f at long = sym (take-length fs) ∙ ap (λ n. take n fs) long ∙ next_field fs i f at

-- the field behind so many others
field_behind : (cells : Record) (f : List ℕ) → field_at (cells ++ f ∷ []) (length cells) ≡ Some f
unfolding field_at
field_behind [] f = refl
field_behind (c ∷ cs) f = field_behind cs f

-- where there is no field, none is the last one
pub no_last : (fs cells : Record) (i : ℕ) (f : List ℕ) → field_at fs i ≡ None → length cells ≡ i → fs ≡ cells ++ f ∷ [] → ⊥
no_last fs cells i f none long is =
    let at : field_at fs i ≡ Some f = rw (is, ← long) (field_behind cells f) in
    cc (sym none ∙ at)

-- no row, where no field is the one behind those of the columns
pub no_field_of_days : (version : Version) (cs : List Column) (fs : Record)
    → ((cells : Record) (field : List ℕ) → length cells ≡ length cs → ¬ (fs ≡ cells ++ field ∷ [])) → IsNoRow version cs fs
no_field_of_days version cs fs none pair row = none row.0 row.1 (as_long cs row.0 pair.0 row.3) row.2

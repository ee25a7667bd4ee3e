-- What a saved file holds can be saved again.
use Rattle.std.proofs.Common.{◌≡◌, ◌≤ℤ◌, ◌<◌, ◌^◌, ◌∷◌, [], ℕ, ℤ, List, length, refl, sym, subst, inl, inr, arith}
use Rattle.std.specs.List.{All}
use Rattle.std.proofs.lemmas.Int.{ints}
use Rattle.std.proofs.lemmas.List.Elements.{All-nil, All-cons}
use Rattle.og_base.specs.Calendar.{IsDayText, IsExtDay, before_all, after_all}
use Rattle.og_base.specs.Ranges.{Range}
use Rattle.og_base.proofs.DayTexts.{civil_in_range}
use Rattle.og_base.proofs.SetTexts.{ext_day}
use Rattle.og_time.specs.Period.{Period, IsPeriod, IsPeriodText}
use Rattle.og_time.specs.Point.{Point, IsPoint, IsPointText}
use Rattle.og_time.proofs.PeriodTexts.{IsPeriodText-period_text}
use Rattle.og_time.proofs.PointWriting.{IsPointText-point_text}
use Rattle.og_value.specs.Cells.{IsCell}
use Rattle.og_value.specs.Words.{IsLowerWord}
use Rattle.og_value.specs.declared.kind.Kind.{Kind}
use Rattle.og_value.specs.declared.kind.Kind.TheVariants as k
use Rattle.og_value.specs.declared.schema.Column.{Column}
use Rattle.og_value.specs.declared.value.Value.{Value}
use Rattle.og_value.proofs.CellTexts.{int_text-read}
use Rattle.og_value.proofs.WordLemmas.{folded-lower}
use Rattle.og_rel.specs.Relations.{HasDays}
use Rattle.og_file.specs.PlainFiles.{CanBeSaved, IsPlainFile, text_of_records}
use Rattle.og_file.specs.Records.{Record, Each}
use Rattle.og_file.specs.SavedFile.{Pair, AreColumns, AreSchema, IsDays, IsRow, IsSavedFile, Version, one, two}
use Rattle.og_file.specs.TableFile.{AreCells}
use Rattle.og_file.specs.Writing.{IsReadAgain, records_of}
use Rattle.og_file.proofs.Fitting.{each_fits, pair_fits}
use Rattle.og_file.proofs.ReadBackLemmas.{plain_file, read_again}

-- ---- the values

-- a day text is of an extended day
day_is : (text : List ℕ) (n : ℤ) → IsDayText text n → IsExtDay n
day_is text n (inl first) = let same = first.1 in (omega (arith, ints, same), omega (arith, ints, same))
day_is text n (inr (inl last)) = let same = last.1 in (omega (arith, ints, same), omega (arith, ints, same))
day_is text n (inr (inr day)) = ext_day n (civil_in_range text n day)

-- days that rise are the ends of a point
rising_is : (p : Point) → before_all ≤ℤ p.low → p.low ≤ℤ p.high → p.high ≤ℤ after_all → IsPoint p
rising_is p first rising last =
    record { low_in = (first, omega (arith, ints, rising, last)); high_in = (omega (arith, ints, first, rising), last); ordered = rising }

-- a point text is of a point
point_is : (text : List ℕ) (p : Point) → IsPointText text p → IsPoint p
point_is text p (inl fixed) =
    let day = day_is text p.low fixed.0 in
    rising_is p day.0 (omega (arith, ints, fixed.1)) (omega (arith, ints, fixed.1, day.1))
point_is text p (inr (inl now)) = rising_is p (omega (arith, ints, now.1)) (omega (arith, ints, now.1, now.2)) (omega (arith, ints, now.2))
point_is text p (inr (inr (inl (day, is, first, last)))) =
    let low = civil_in_range day p.low first in
    rising_is p (omega (arith, ints, low.0)) (omega (arith, ints, low.1, last)) (omega (arith, ints, last))
point_is text p (inr (inr (inr (inl (day, is, first, last))))) =
    let high = civil_in_range day p.high last in
    rising_is p (omega (arith, ints, first)) (omega (arith, ints, high.0, first)) (omega (arith, ints, high.1))
point_is text p (inr (inr (inr (inr (day, end, is, first, last, rising))))) =
    let low = civil_in_range day p.low first in
    let high = civil_in_range end p.high last in
    rising_is p (omega (arith, ints, low.0)) (omega (arith, ints, rising)) (omega (arith, ints, high.1))

-- a period text is of a period
period_is : (text : List ℕ) (i : Period) → IsPeriodText text i → IsPeriod i
period_is text i is = record { start_is = point_is is.0 i.start is.3; end_is = point_is is.1 i.end is.4 }

-- the value of a cell is read again from its own text
cell_again : (kind : Kind) (field : List ℕ) (value : Value) → IsCell kind field value → IsReadAgain value
cell_again k.Int field value is = subst IsReadAgain (sym is.2) (is.0, int_text-read is.0 is.1.fits, refl)
cell_again k.Text field value is = subst IsReadAgain (sym is.1) (is.0, refl)
cell_again k.Date field value is = subst IsReadAgain (sym is.2) (is.0, IsPointText-point_text is.0 (point_is field is.0 is.1), refl)
cell_again k.Period field value is = subst IsReadAgain (sym is.2) (is.0, IsPeriodText-period_text is.0 (period_is field is.0 is.1), refl)

cells_again : (columns : List Column) (fields : Record) (values : List Value) → AreCells columns fields values → All IsReadAgain values
cells_again [] [] [] are = All-nil IsReadAgain
cells_again (c ∷ cs) (f ∷ fs) (x ∷ xs) are = All-cons IsReadAgain x xs (cell_again c.kind f x are.0) (cells_again cs fs xs are.1)
cells_again [] [] (_ ∷ _) are = absurd are
cells_again [] (_ ∷ _) _ are = absurd are
cells_again (_ ∷ _) [] _ are = absurd are
cells_again (_ ∷ _) (_ ∷ _) [] are = absurd are

-- ---- the columns and the rows

-- the names of columns are words in lower case
names_are : (fields : Record) (columns : List Column) → AreColumns fields columns → All (λ c. IsLowerWord c.name) columns
names_are [] [] are = All-nil (λ (c : Column). IsLowerWord c.name)
names_are (f ∷ fs) (c ∷ cs) are =
    All-cons (λ (c : Column). IsLowerWord c.name) c cs (subst IsLowerWord (sym are.0.2) (folded-lower are.0.0 are.0.1)) (names_are fs cs are.1)
names_are [] (_ ∷ _) are = absurd are
names_are (_ ∷ _) [] are = absurd are

-- the days of a row
days_are : (version : Version) (field : List ℕ) (days : List Range) → IsDays version field days → HasDays days
days_are one field days is = is.0
days_are two field days is = is.0

-- columns and rows of a version can be saved
rows_can : (version : Version) (fields : Record) (records : List Record) (columns : List Column) (pairs : List Pair)
    → AreSchema fields columns → Each (IsRow version columns) records pairs → length pairs < 2 ^ 64 → CanBeSaved columns pairs
rows_can version fields records columns pairs schema are count = record {
  schema = schema.1;
  names = names_are fields columns schema.0;
  kinds = pair_fits version columns records pairs are;
  values = each_fits (IsRow version columns) (λ p. All IsReadAgain p.0) (λ r p row. cells_again columns row.0 p.0 row.3) records pairs are;
  days = each_fits (IsRow version columns) (λ p. HasDays p.1) (λ r p row. days_are version row.1 p.1 row.4) records pairs are;
  count = count;
}

-- ---- the files

pub can_be_saved : (bytes : List ℕ) (columns : List Column) (pairs : List Pair) → IsSavedFile bytes columns pairs → CanBeSaved columns pairs
can_be_saved bytes columns pairs (inl file) = rows_can one file.3.0 file.1 columns pairs file.3.3 file.4 file.3.4.1
can_be_saved bytes columns pairs (inr file) = rows_can two file.0 file.1 columns pairs file.4 file.5 file.6.1

pub saved_again : (bytes : List ℕ) (columns : List Column) (pairs : List Pair) → IsSavedFile bytes columns pairs
    → (again : List ℕ) × IsPlainFile again columns pairs × ((cs : List Column) (ps : List Pair) → IsSavedFile again cs ps → (cs ≡ columns) × (ps ≡ pairs))
saved_again bytes columns pairs file =
    let again = text_of_records (records_of columns pairs) in
    let plain = plain_file columns pairs (can_be_saved bytes columns pairs file) in
    (again, plain, λ cs ps read. read_again again columns cs pairs ps plain read)

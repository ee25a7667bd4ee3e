-- What statements write, as the ordinary engine says it.
use Rattle.std.specs.Prelude.{◌++◌, ◌+ℤ◌, ◌-ℤ◌, ℕ, zero, suc, ℤ, pos, Bool, List, [], ◌∷◌, Option, Some, None, unsigned_abs, if◌then◌else◌}
use Rattle.std.specs.Str.{bytes_eq}
use Rattle.og_base.specs.Calendar.{first_day, last_day}
use Rattle.og_base.specs.Ranges.{Range}
use Rattle.og_query.specs.Queries.{Fixed, ordinary_query}
use Rattle.og_query.specs.declared.typed.Typed.TheVariants as t
use Rattle.og_plan.specs.PlanOf.{plan_of}
use Rattle.og_plan.specs.Text.{plan_text}
use Rattle.og_db.specs.Effects.{Effect, on_names, saved, reopened, opened, imported, sizes_after, world_of_day}
use Rattle.og_db.specs.Held.{Held, found}
use Rattle.og_db.specs.Statements.{named_rows}
use Rattle.og_output.specs.Records.{layout, names_text, range_records}

-- the layout of what is held under a name, and nothing where nothing is
abbrev pub held_layout : Option (Held (List Fixed)) → List ℕ
held_layout (Some held) = layout held.columns held.rows
held_layout None = []

-- what a PRINT of a name writes on a day after these statements
abbrev pub printed : List Effect → List ℕ → ℤ → List ℕ
printed before name day = held_layout (found (world_of_day day before).names name)

-- the first of the days, so many at most, before a day from which on a test holds up to that day
unfoldable pub first_of : (ℤ → Bool) → ℤ → ℕ → ℤ
first_of test day zero = day
first_of test day (suc n) = if test (day -ℤ pos 1) then first_of test (day -ℤ pos 1) n else day

-- and the day after the last of those after it
unfoldable pub end_of : (ℤ → Bool) → ℤ → ℕ → ℤ
end_of test day zero = day +ℤ pos 1
end_of test day (suc n) = if test (day +ℤ pos 1) then end_of test (day +ℤ pos 1) n else day +ℤ pos 1

-- whether a PRINT of the name writes the same on the other day
abbrev pub prints_same : List Effect → List ℕ → ℤ → ℤ → Bool
prints_same before name day other = bytes_eq (printed before name other) (printed before name day)

-- valid range: the longest range of days around the day on all of which a PRINT of the name writes the same
unfoldable pub valid_range : List Effect → List ℕ → ℤ → Range
valid_range before name day = record {
  lo = first_of (prints_same before name day) day (unsigned_abs (day -ℤ first_day));
  hi = end_of (prints_same before name day) day (unsigned_abs (last_day -ℤ day));
}

-- what a statement writes after those before it: a PRINT writes the rows in the world of its own day, and what is none of these writes nothing
abbrev pub piece_of : List Effect → Effect → List ℕ
piece_of before (on_names (t.PrintName name day, of)) = printed before name day
piece_of before (on_names (t.PrintQuery query day, of)) = layout query.first.schema (ordinary_query day (named_rows (world_of_day day before).names) query)
piece_of before (on_names (t.Tables, of)) = names_text (sizes_after before).names
piece_of before (on_names (t.Explain query, of)) = plan_text (plan_of query)
piece_of before (on_names (t.Valid name day, of)) = range_records (valid_range before name day)
piece_of before (on_names (t.Create name columns, of)) = []
piece_of before (on_names (t.Insert name rows, of)) = []
piece_of before (on_names (t.Delete name cond, of)) = []
piece_of before (on_names (t.Update name sets cond, of)) = []
piece_of before (on_names (t.Drop name, of)) = []
piece_of before (on_names (t.Keep name query, of)) = []
piece_of before (on_names (t.Live name query, of)) = []
piece_of before (on_names (t.Save name file, of)) = absurd of
piece_of before (on_names (t.OpenFile name file, of)) = absurd of
piece_of before (on_names (t.ImportFile name file, of)) = absurd of
piece_of before (saved name file) = []
piece_of before (reopened name file) = []
piece_of before (opened name columns rows) = []
piece_of before (imported name rows) = []

-- what statements write, one after the other, after those before them
abbrev pub output_from : List Effect → List Effect → List ℕ
output_from before [] = []
output_from before (e ∷ es) = piece_of before e ++ output_from (before ++ e ∷ []) es

-- Records that statements write.
use Rattle.std.specs.Prelude.{ℕ, List, [], ◌∷◌, map, codes}
use Rattle.std.specs.List.{flat_map}
use Rattle.csv.specs.Writing.{default_writer, row_text}
use Rattle.og_base.specs.Calendar.{day_text}
use Rattle.og_base.specs.Ranges.{Range}
use Rattle.og_base.specs.SetTexts.{lower_text}
use Rattle.og_value.specs.Cells.{fixed_text}
use Rattle.og_value.specs.declared.kind.What.{What}
use Rattle.og_value.specs.declared.kind.What.TheVariants as what
use Rattle.og_value.specs.declared.schema.Column.{Column}
use Rattle.og_query.specs.Queries.{Fixed}
use Rattle.og_db.specs.Held.{Held}

-- records, one after the other, as csv writes them
unfoldable pub records : List (List (List ℕ)) → List ℕ
records rows = flat_map (row_text default_writer) rows

-- layout: a record of the columns' names, then a record of the texts of each row's values
abbrev pub layout : List Column → List Fixed → List ℕ
layout columns rows = records (map (λ column. column.name) columns ∷ map (map fixed_text) rows)

-- the word of what a name is
abbrev pub what_word : What → List ℕ
what_word what.Table = codes "table"
what_word what.Kept = codes "kept"
what_word what.Live = codes "live"

-- the record name,what and then one for each name, in the order of creation
abbrev pub names_text : {V : Type 0} → List (Held V) → List ℕ
names_text held = records ((codes "name" ∷ codes "what" ∷ []) ∷ map (λ h. h.name ∷ what_word h.what ∷ []) held)

-- the record from,to and one with the two ends, as a set text has them
abbrev pub range_records : Range → List ℕ
range_records range = records ((codes "from" ∷ codes "to" ∷ []) ∷ (lower_text range.lo ∷ day_text range.hi ∷ []) ∷ [])

-- What is known of a name as the code holds it, and what becomes of it at the DROP of another.
use Rattle.std.specs.Prelude.{◌&&◌, not, ℕ, Bool, false, List, None, Some, if◌then◌else◌, Option}
use Rattle.std.specs.Str.{bytes_eq}
use Rattle.og_value.specs.declared.kind.What.TheVariants as what
use Rattle.og_query.specs.declared.query.Query.{Query}
use Rattle.og_db.specs.Held.{Held}
use Rattle.og_db.specs.Live.{uses}
use Rattle.og_outline.specs.declared.known.Known.{Known}

-- whether a query that is there names the table
abbrev pub is_over : List ℕ → Option Query → Bool
is_over name None = false
is_over name (Some query) = uses query name

-- whether it is a live result over the name
abbrev pub uses_base : List ℕ → Known → Bool
uses_base name known = is_over name known.query

-- whether it is a live result over the name, and has another one
abbrev pub ends_beside : List ℕ → List ℕ → Known → Bool
ends_beside name key known = not (bytes_eq name key) && uses_base name known

-- what is known, where the name is taken out: a live result over it is a kept one
abbrev pub without_base : List ℕ → Known → Known
without_base name known = if uses_base name known then record { what = what.Kept; schema = known.schema; query = None } else known

-- a name with what is known of it, as contracts see it: its query stands where others have rows
abbrev pub known_held : List ℕ × Known → Held (Option Query)
known_held e = record { name = e.0; what = e.1.what; columns = e.1.schema; rows = e.1.query }

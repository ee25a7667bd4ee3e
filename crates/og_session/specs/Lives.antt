-- Statements whose query, where they are a LIVE, is one of a live result, after their checks.
use Rattle.std.specs.Prelude.{⊤}
use Rattle.og_query.specs.declared.typed.Typed.{Typed}
use Rattle.og_query.specs.declared.typed.Typed.TheVariants as t
use Rattle.og_view.specs.Views.{IsLiveQuery}

-- of a statement
abbrev pub IsLiveTyped : Typed → Type 0
IsLiveTyped (t.Live name query) = IsLiveQuery query
IsLiveTyped _ = ⊤

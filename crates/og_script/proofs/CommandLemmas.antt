-- The scripts of the commands: one row more, and that no statement is a LIVE.
use Rattle.std.proofs.Common.{◌≡◌, ◌++◌, ◌∷◌, ◌+◌, ℕ, [], arith}
use Rattle.std.specs.List.{All}
use Rattle.std.proofs.lemmas.List.Elements.{All-from_recursion}
use Rattle.std.proofs.lemmas.List.FromFn.{map-range_with_len_more}
use Rattle.og_script.specs.Commands.{load_row, load_rows, load_table, load_answers, load_script}
use Rattle.og_script.specs.LiveTexts.{IsLiveStmt}
use Rattle.og_script.specs.declared.load.Side.{Side}

-- the rows, and one more
pub more_rows : (of : Side) (i : ℕ) → load_rows of (i + 1) ≡ load_rows of i ++ load_row of i ∷ []
unfolding load_rows
more_rows of i = map-range_with_len_more (load_row of) 0 i i (omega arith)

-- no statement of `load` is a LIVE
pub load_live : (n : ℕ) → All IsLiveStmt (load_script n)
unfolding load_script load_table load_answers
load_live n = All-from_recursion IsLiveStmt (load_script n) (tt, (tt, (tt, (tt, (tt, (tt, (tt, tt)))))))

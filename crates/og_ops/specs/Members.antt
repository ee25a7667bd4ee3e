-- Rows that are entered in a list once for each of their groups.
use Rattle.std.specs.Prelude.{◌≡◌, ◌||◌, ℕ, Bool, List}
use Rattle.std.specs.List.{list_any}
use Rattle.og_base.specs.Ranges.{Range}
use Rattle.og_base.specs.declared.row.Groups.{Groups}
use Rattle.og_ops.specs.declared.semijoins.KeyedRow.{KeyedRow}

-- a test of group and row holds of some member where it does of one of the groups of some row
abbrev pub AreMembers : {R : Type 0} → (R → Groups) → List (R × List Range) → List (KeyedRow R ℕ) → Type 0
AreMembers {R} standing rows members =
    (test : ℕ → R × List Range → Bool) → list_any (λ s. test s.key (s.row.now, s.days.now)) members ≡ list_any (λ q. test (standing q.0).first q || test (standing q.0).second q) rows

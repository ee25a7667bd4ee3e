-- Rows that pass tests: what a relation has of them on a day.
use Rattle.std.proofs.Common.{◌≡◌, ◌&&◌, ℤ, Bool, true, false, List, filter, refl, sym, ◌∙◌}
use Rattle.std.specs.List.{list_any}
use Rattle.og_base.specs.Ranges.{holds_day}
use Rattle.og_base.proofs.SetLemmas.{filter-set_of}
use Rattle.og_base.proofs.SetMembers.{list_any-filter}
use Rattle.og_value.specs.Values.{row_at}
use Rattle.og_value.specs.declared.value.Value.{Value}
use Rattle.og_rel.specs.Relations.{present}
use Rattle.og_rel.proofs.AlgebraLemmas.{same_set_by_tests}
use Rattle.og_rel.proofs.PresentLemmas.{list_any-present}
use Rattle.og_query.specs.Queries.{Fixed}
use Rattle.og_query.proofs.QueryLemmas.{rows_ordered}
use Rattle.og_exec.specs.Tables.{rows_on}
use Rattle.og_reduce.specs.Sieves.{Relation, Test, passes, row_passes, sifted}
use Rattle.og_reduce.proofs.SieveLemmas.{passes-on_day}

-- three truths in another order
and_swap : (a b c : Bool) → (a && (b && c)) ≡ (b && (a && c))
and_swap true b c = refl
and_swap false true c = refl
and_swap false false c = refl

-- rows of a relation that a test keeps are on a day those that it keeps on that day
pub rows_on-filter : (kept : List Value → Bool) (test : Fixed → Bool) (d : ℤ) → ((row : List Value) → test (row_at row d) ≡ kept row) → (rel : Relation)
    → rows_on (filter (λ p. kept p.0) rel) d ≡ filter test (rows_on rel d)
rows_on-filter kept test d same rel =
    same_set_by_tests rows_ordered _ _
    (λ t. list_any-present row_at t (filter (λ p. kept p.0) rel) d
    ∙ list_any-filter (λ p. holds_day p.1 d && t (row_at p.0 d)) (λ p. kept p.0) rel
    ∙ (λ i. list_any (λ p. and_swap (kept p.0) (holds_day p.1 d) (t (row_at p.0 d)) i) rel)
    ∙ (λ i. list_any (λ p. holds_day p.1 d && (sym (same p.0) i && t (row_at p.0 d))) rel)
    ∙ sym (list_any-present row_at (λ row. test row && t row) rel d)
    ∙ sym (list_any-filter t test (present row_at rel d)))
    ∙ sym (filter-set_of rows_ordered test (present row_at rel d))

-- so are those that pass tests
pub rows_on-sifted : (tests : List Test) (rel : Relation) (d : ℤ) → rows_on (sifted tests rel) d ≡ filter (passes tests) (rows_on rel d)
rows_on-sifted tests rel d = rows_on-filter (row_passes tests) (passes tests) d (λ row. passes-on_day tests row d) rel

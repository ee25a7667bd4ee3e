use Rattle.std.specs.Cmp.Lexicographic.{slice_cmp}
use Rattle.og_value.specs.Exact.{rows_exact, values_ordered}
use Rattle.og_value.specs.contracts.row.FixedRowOrd.TheImpl.Laws as derived
use Rattle.og_value.proofs.row.order_of_rows.Goals as goal

pub returns-clause-order : goal.returns-clause-order
returns-clause-order c x y = λ i. slice_cmp (λ a b. values_ordered a b i) x y

pub returns-clause-exact : goal.returns-clause-exact
returns-clause-exact c = record { total = derived.total-law; exact = rows_exact }

-- What is known of the answers of queries: that they rise, and how many rows they have.
use Rattle.std.proofs.Common.{◌≡◌, ◌++◌, ◌*◌, ◌≤◌, ℕ, ℤ, not, List, [], ◌∷◌, length, map, filter, fold, sym, ap, subst, ◌∙◌, arith}
use Rattle.std.specs.Cmp.Lexicographic.{slice_cmp}
use Rattle.std.specs.List.Sorted.{IsStrictlySortedBy}
use Rattle.std.proofs.Math.Nat.{mul-one, mul_assoc}
use Rattle.std.proofs.lemmas.List.{length-append, length-map}
use Rattle.og_base.specs.Set.{IsExactOrder, set_of}
use Rattle.og_base.proofs.SetLemmas.{IsStrictlySortedBy-set_of}
use Rattle.og_value.specs.Exact.{rows_exact, values_ordered}
use Rattle.og_value.specs.Order.{row_order}
use Rattle.og_value.specs.contracts.row.FixedRowOrd.TheImpl.Laws as derived
use Rattle.og_value.specs.declared.term.SetOp.{SetOp}
use Rattle.og_value.specs.declared.term.SetOp.TheVariants as op
use Rattle.og_rel.specs.Algebra.{is_in}
use Rattle.og_query.specs.Combinations.{combinations}
use Rattle.og_query.specs.Queries.{Fixed, Named, image, is_kept, core_rows, combined, ordinary_query}
use Rattle.og_query.specs.Sizes.{core_size, combined_size, query_size}
use Rattle.og_query.specs.declared.query.Core.{Core}
use Rattle.og_query.specs.declared.query.From1.{From1}
use Rattle.og_query.specs.declared.query.Query.{Query}
use Rattle.og_query.specs.declared.query.Rest.{Rest}
use Rattle.og_rel.proofs.AlgebraLemmas.{union_rises, except_rises, intersect_rises, length-set_of, length-filter_le, same_set_by_tests}
use Rattle.og_query.proofs.ProductLemmas.{length-combinations, either_order}

-- the order that rows have is that of their definition, which tells them apart
pub rows_ordered : IsExactOrder row_order
rows_ordered = subst IsExactOrder (λ i x y. slice_cmp (λ a b. values_ordered a b i) x y) (record { total = derived.total-law; exact = rows_exact })

-- an operator on a rising answer gives a rising one
combined_rises : (op : SetOp) (xs ys : List Fixed) → IsStrictlySortedBy row_order xs → IsStrictlySortedBy row_order (combined op xs ys)
combined_rises op.Union xs ys up = union_rises rows_ordered xs ys
combined_rises op.Except xs ys up = except_rises row_order xs ys up
combined_rises op.Intersect xs ys up = intersect_rises row_order xs ys up

module _ (d : ℤ) (rows : Named) where
  -- a rising answer, with further cores combined with it, rises
  rests_rise : (rests : List Rest) (answer : List Fixed) → IsStrictlySortedBy row_order answer
      → IsStrictlySortedBy row_order (fold (λ answer rest. combined rest.op answer (core_rows d rows rest.core)) answer rests)
  rests_rise [] answer up = up
  rests_rise (rest ∷ rests) answer up =
      let core = core_rows d rows rest.core in rests_rise rests (combined rest.op answer core) (combined_rises rest.op answer core up)

  -- the answer of a query rises
  pub answer_rises : (query : Query) → IsStrictlySortedBy row_order (ordinary_query d rows query)
  answer_rises query =
      rests_rise query.rest (core_rows d rows query.first)
      (IsStrictlySortedBy-set_of rows_ordered.total (map (image d query.first.items) (filter (is_kept d rows query.first) (combinations (map (λ table. rows table.name) query.first.tables)))))

  -- the size of tables, from some size on, is that size times the number of their combinations
  tables_size : (tables : List From1) (size : ℕ) → fold (λ size table. size * length (rows table.name)) size tables ≡ size * length (combinations (map (λ table. rows table.name) tables))
  tables_size [] size = sym (mul-one size)
  tables_size (table ∷ tables) size =
      let more = map (λ t. rows t.name) tables in
      tables_size tables (size * length (rows table.name))
      ∙ mul_assoc size (length (rows table.name)) (length (combinations more))
      ∙ ap (λ n. size * n) (sym (length-combinations (rows table.name) more))

  -- a core has at most as many rows as its size
  core_keeps_size : (core : Core) → length (core_rows d rows core) ≤ core_size (λ name. length (rows name)) core
  core_keeps_size core =
      let all = combinations (map (λ table. rows table.name) core.tables) in
      let kept = filter (is_kept d rows core) all in
      bounded _ _ _ _ _
      (length-set_of row_order (map (image d core.items) kept)) (length-map kept (image d core.items))
      (length-filter_le (is_kept d rows core) all) (tables_size core.tables 1)
    where
      bounded : (set mapped kept all size : ℕ) → set ≤ mapped → mapped ≡ kept → kept ≤ all → size ≡ 1 * all → set ≤ size
      bounded set mapped kept all size a b c e = omega (arith, a, b, c, e)

  -- an operator on two answers gives at most as many rows as the sizes say
  combined_keeps_size : (op : SetOp) (xs ys : List Fixed) (m n : ℕ) → length xs ≤ m → length ys ≤ n → length (combined op xs ys) ≤ combined_size op m n
  combined_keeps_size op.Union xs ys m n a b = omega (arith, a, b, length-set_of row_order (xs ++ ys), length-append xs ys)
  combined_keeps_size op.Except xs ys m n a b = omega (arith, a, length-filter_le (λ x. not (is_in row_order x ys)) xs)
  combined_keeps_size op.Intersect xs ys m n a b = omega (arith, a, length-filter_le (λ x. is_in row_order x ys) xs)

  -- an answer of at most that size, with further cores combined with it, has at most the size of them all
  rests_keep_size : (rests : List Rest) (answer : List Fixed) (size : ℕ) → length answer ≤ size
      → length (fold (λ answer rest. combined rest.op answer (core_rows d rows rest.core)) answer rests)
      ≤ fold (λ size rest. combined_size rest.op size (core_size (λ name. length (rows name)) rest.core)) size rests
  rests_keep_size [] answer size h = h
  rests_keep_size (rest ∷ rests) answer size h =
      rests_keep_size rests (combined rest.op answer (core_rows d rows rest.core)) (combined_size rest.op size (core_size (λ name. length (rows name)) rest.core))
      (combined_keeps_size rest.op answer (core_rows d rows rest.core) size (core_size (λ name. length (rows name)) rest.core) h (core_keeps_size rest.core))

  -- an answer has at most as many rows as the size of its query
  pub answer_keeps_size : (query : Query) → length (ordinary_query d rows query) ≤ query_size (λ name. length (rows name)) query
  answer_keeps_size query = rests_keep_size query.rest (core_rows d rows query.first) (core_size (λ name. length (rows name)) query.first) (core_keeps_size query.first)

  -- two cores whose tables are the same two in another order have one answer, where their conditions and items agree
  pub either_order_of_tables : (core other : Core) (first second : From1)
      → core.tables ≡ first ∷ second ∷ [] → other.tables ≡ second ∷ first ∷ []
      → ((x y : Fixed) → is_kept d rows core (x ++ y) ≡ is_kept d rows other (y ++ x))
      → ((x y : Fixed) → image d core.items (x ++ y) ≡ image d other.items (y ++ x))
      → core_rows d rows core ≡ core_rows d rows other
  either_order_of_tables core other first second is_core is_other kept mapped =
      ap (of core) is_core
      ∙ same_set_by_tests rows_ordered (selected core (first ∷ second ∷ [])) (selected other (second ∷ first ∷ []))
      (λ p. either_order p (is_kept d rows core) (is_kept d rows other) (image d core.items) (image d other.items) (rows first.name) (rows second.name) kept mapped)
      ∙ sym (ap (of other) is_other)
    where
      selected : Core → List From1 → List Fixed
      selected core tables = map (image d core.items) (filter (is_kept d rows core) (combinations (map (λ table. rows table.name) tables)))

      of : Core → List From1 → List Fixed
      of core tables = set_of row_order (selected core tables)

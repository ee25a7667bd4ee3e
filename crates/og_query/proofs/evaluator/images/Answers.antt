use Rattle.std.proofs.Common.{◌≡◌, ◌++◌, ℕ, nat_lt, List, [], ◌∷◌, Some, None, if◌then◌else◌, Vec, Global, length, map, filter, ap, ap₂, sym, ◌∙◌}
use Rattle.std.specs.List.{list_all}
use Rattle.std.proofs.lemmas.List.{append-nil, length-map}
use Rattle.og_query.specs.Queries.{Fixed, image, is_kept}
use Rattle.og_query.specs.Tables.{rows_of, tables_in}
use Rattle.og_query.specs.Walk.{next_places, row_from, zeros, left_of}
use Rattle.og_query.specs.declared.query.From1.{From1}
use Rattle.og_query.proofs.CombinationLemmas.{length_of_each, walk_begins, rows_everywhere, walk_goes_on, walk_shrinks, walk_more}
use Rattle.og_query.proofs.evaluator.images.Goals as goal

module _ (names : List (List ℕ)) (tables : List (Vec Fixed Global)) where
  -- the rows of each table
  abbrev lists_of : List From1 → List (List Fixed)
  lists_of from = map (λ table. rows_of names (tables_in tables) table.name) from

  -- the sizes are their lengths
  sizes_are : (sizes : List ℕ) (from is : List From1) → sizes ≡ map (λ table. length (rows_of names (tables_in tables) table.name)) from → from ≡ is → sizes ≡ map length (lists_of is)
  sizes_are sizes from is e same = e ∙ length_of_each (λ table. rows_of names (tables_in tables) table.name) from ∙ ap (λ from. map length (lists_of from)) same

pub walk-init : goal.walk-init
walk-init c =
    let lists = lists_of c.args.names.now c.args.tables.now c.args.core.now.tables in
    let is = sizes_are c.args.names.now c.args.tables.now c.in_ok-sizes.sizes.items _ c.args.core.now.tables c.in_ok-sizes.ensures c.as_slice.ensures in
    let more = c.all_above_zero-more.ensures ∙ ap (list_all (nat_lt 0)) c.as_slice-3.ensures.value in
    let first = c.in_ok-places.ensures ∙ ap zeros c.as_slice-2.ensures.value in
    record {
      places = sym (ap length first ∙ length-map c.in_ok-sizes.sizes.items (λ _. 0));
      some = λ t. sym (rows_everywhere lists c.in_ok-sizes.sizes.items is c.all_above_zero-more.result more) ∙ t;
      left = λ d.
          ap₂ (λ images left. images ++ map (image d c.args.core.now.items) (filter (is_kept d (rows_of c.args.names.now (tables_in c.args.tables.now)) c.args.core.now) left))
          c.new-images.ensures.items (walk_begins lists c.in_ok-sizes.sizes.items is c.all_above_zero-more.result c.in_ok-places.places.items more first);
    }

pub walk-smaller : goal.walk-smaller
walk-smaller c =
    walk_shrinks (lists_of c.args.names.now c.args.tables.now c.args.core.now.tables) c.in_ok-sizes.sizes.items
    (sizes_are c.args.names.now c.args.tables.now c.in_ok-sizes.sizes.items _ c.args.core.now.tables c.in_ok-sizes.ensures c.as_slice.ensures)
    c.walk.more c.advance-more.result c.walk.places.items c.advance-more.new.places.items c.walk-test.true (c.walk.invariant.some c.walk-test.true)
    (ap (λ sizes. next_places sizes c.walk.places.items) (sym c.as_slice-in-walk-2.ensures.value) ∙ c.advance-more.ensures.next)

pub walk-preserved : goal.walk-preserved
walk-preserved c =
    let lists = lists_of c.args.names.now c.args.tables.now c.args.core.now.tables in
    let goes =
    walk_goes_on lists c.in_ok-sizes.sizes.items
    (sizes_are c.args.names.now c.args.tables.now c.in_ok-sizes.sizes.items _ c.args.core.now.tables c.in_ok-sizes.ensures c.as_slice.ensures)
    c.walk.more c.advance-more.result c.walk.places.items c.advance-more.new.places.items c.walk-test.true (c.walk.invariant.some c.walk-test.true)
    (ap (λ sizes. next_places sizes c.walk.places.items) (sym c.as_slice-in-walk-2.ensures.value) ∙ c.advance-more.ensures.next) in
    record {
      places = c.walk.invariant.places ∙ sym c.advance-more.ensures.length;
      some = λ _. c.walk.invariant.some c.walk-test.true;
      left = λ d.
          walk_more (is_kept d (rows_of c.args.names.now (tables_in c.args.tables.now)) c.args.core.now) (image d c.args.core.now.items) (row_from lists c.walk.places.items) _ _ _ _ _ goes
          (c.in_ok-add_image.ensures d
          ∙ ap (λ places. c.walk.images.items ++ map (image d c.args.core.now.items) (filter (is_kept d (rows_of c.args.names.now (tables_in c.args.tables.now)) c.args.core.now) (row_from lists places ∷ []))) c.as_slice-in-walk.ensures.value)
          (c.walk.invariant.left d);
    }

pub returns : goal.returns
returns c = λ d.
    sym (append-nil c.walk.images.items)
    ∙ ap (λ more. c.walk.images.items ++ map (image d c.args.core.now.items)
    (filter (is_kept d (rows_of c.args.names.now (tables_in c.args.tables.now)) c.args.core.now) (left_of (lists_of c.args.names.now c.args.tables.now c.args.core.now.tables) (if more then Some c.walk.places.items else None))))
    (sym c.walk-test.false)
    ∙ c.walk.invariant.left d

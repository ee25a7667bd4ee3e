-- Rows of a day that were listed block by block: the lists, and the texts beside them.
use Rattle.std.proofs.Common.{◌≡◌, ◌++◌, ℤ, Bool, List, [], ◌∷◌, map, refl, sym, ap, ap₂, ◌∙◌}
use Rattle.std.specs.List.{flat_map}
use Rattle.std.specs.Prelude.{IsTrue}
use Rattle.std.proofs.lemmas.Grind.{flat_map-append}
use Rattle.std.proofs.lemmas.List.{map-append}
use Rattle.std.proofs.lemmas.List.Concat.{flat_map-cons}
use denote.Ref.{Bor}
use Rattle.og_par.specs.Phase.{MadeOfEach}
use Rattle.og_value.specs.Order.{row_order}
use Rattle.og_value.specs.Values.{row_at}
use Rattle.og_value.specs.declared.value.Value.{Value}
use Rattle.og_rel.specs.Pairs.{present_of_pairs}
use Rattle.og_rel.specs.Shares.{AreListed, rows_of}
use Rattle.og_rel.specs.declared.pair.Pair.{Pair}
use Rattle.og_output.specs.Listed.{IsListed, listed_rows}
use Rattle.og_output.specs.declared.sights.Listed.{Listed}
use Rattle.og_output.proofs.OrderedLemmas.{rows_of-append}
use Rattle.og_output.proofs.PutLemmas.{records-none, rows_text, rows_text-append}

module _ (day : ℤ) (with_text : Bool) where
  -- the lists that are made of blocks
  pub lists_made : (blocks : List (Bor (List (Pair (List Value))))) (made : List Listed) → MadeOfEach (λ block m. IsListed day with_text block.now m) blocks made
      → MadeOfEach (λ block lists. AreListed row_order (present_of_pairs row_at block.now day) lists) blocks (map (λ l. l.rows) made)
  lists_made [] made m = ap (map (λ l. l.rows)) m
  lists_made (b ∷ blocks) made m =
      (map (λ l. l.rows) m.0, map (λ l. l.rows) m.1, m.2.0, lists_made blocks m.1 m.3, ap (map (λ l. l.rows)) m.4 ∙ map-append (λ l. l.rows) m.0 m.1)

  -- the texts that are made of blocks, where they are wanted
  pub texts_made : (blocks : List (Bor (List (Pair (List Value))))) (made : List Listed) → MadeOfEach (λ block m. IsListed day with_text block.now m) blocks made → IsTrue with_text
      → flat_map (λ l. l.text.items) made ≡ rows_text (listed_rows made)
  texts_made [] made m wanted = ap (flat_map (λ l. l.text.items)) m ∙ sym records-none ∙ sym (ap (λ ls. rows_text (listed_rows ls)) m)
  texts_made (b ∷ blocks) made m wanted =
      ap (flat_map (λ l. l.text.items)) m.4 ∙ flat_map-append (λ l. l.text.items) m.0 m.1 ∙ ap₂ (λ xs ys. xs ++ ys) (m.2.1 wanted) (texts_made blocks m.1 m.3 wanted)
      ∙ sym (rows_text-append (listed_rows m.0) (listed_rows m.1))
      ∙ ap rows_text (sym (ap rows_of (map-append (λ l. l.rows) m.0 m.1) ∙ rows_of-append (map (λ l. l.rows) m.0) (map (λ l. l.rows) m.1)))
      ∙ sym (ap (λ ls. rows_text (listed_rows ls)) m.4)

-- texts that were taken apart from their lists are the same, one after the other
pub texts_apart : (made : List Listed) → flat_map (λ text. text.items) (map (λ l. l.text) made) ≡ flat_map (λ l. l.text.items) made
texts_apart [] = refl
texts_apart (l ∷ made) =
    flat_map-cons (λ text. text.items) l.text (map (λ m. m.text) made) ∙ ap (λ rest. l.text.items ++ rest) (texts_apart made) ∙ sym (flat_map-cons (λ m. m.text.items) l made)

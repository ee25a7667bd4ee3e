-- Deltas of tables: what they leave of these and what comes of them, and that this is what the tables have once a delta has been put into them.
use Rattle.std.proofs.Common.{◌≡◌, ◌++◌, ℕ, Bool, true, false, List, [], ◌∷◌, Option, Some, refl, sym, ap, ◌∙◌, true≢false}
use Rattle.std.specs.Cmp.Lexicographic.{same_text}
use Rattle.std.specs.List.{list_any}
use Rattle.std.specs.List.Sorted.{IsPermutation}
use Rattle.std.specs.Str.{bytes_eq}
use Rattle.std.proofs.lemmas.List.Elements.{All-append}
use Rattle.std.proofs.lemmas.List.Sorted.{length_permutation}
use Rattle.og_base.proofs.SetMembers.{list_any-set_of}
use Rattle.og_value.specs.Values.{row_at}
use Rattle.og_rel.specs.Relations.{passing}
use Rattle.og_rel.proofs.PermutationLemmas.{relation_at-permutation}
use Rattle.og_rel.proofs.PresentLemmas.{relation_at-append}
use Rattle.og_query.specs.Fits.{IsFitRow, schemas_of}
use Rattle.og_query.proofs.QueryLemmas.{rows_ordered}
use Rattle.og_query.specs.declared.query.Query.{Query}
use Rattle.og_exec.specs.Tables.{rows_on, rows_or_none, size_or_none}
use Rattle.og_rel.proofs.PlaceLemmas.{All-others}
use Rattle.og_db.specs.Database.{Relation}
use Rattle.og_db.specs.Deltas.{IsApplied, IsDelta, IsDeltaOf, after_at, rest_at, rest_of, rows_after}
use Rattle.og_db.specs.Held.{Held, known_of, put_at, rows_of}
use Rattle.og_db.specs.Live.{uses}
use Rattle.og_db.specs.declared.delta.Delta.{Delta}
use Rattle.og_view.specs.Placed.{AreGrown}
use Rattle.og_view.specs.Tables.{AreHeld}
use Rattle.og_view.specs.Views.{IsAnswerOver}
use Rattle.og_view.proofs.BaseLemmas.{table_there}
use Rattle.og_view.proofs.ChangedLemmas.{KeepFit, changed_held, grown-at, known_changed, rows_of-another, rows_of-here}
use Rattle.og_view.proofs.UsedLemmas.{answer-over}

-- all rows pass the test that each passes
pub all_passing : (rel : Relation) → passing (λ _. true) rel ≡ rel
all_passing [] = refl
all_passing (p ∷ rel) = ap (λ rest. p ∷ rest) (all_passing rel)

module _ (tables : List (Held Relation)) (name : List ℕ) (delta : Delta) (is : IsDelta tables name delta) where
  -- the relation of the table
  abbrev pub own : (rel : Relation) × (rows_of tables name ≡ Some rel)
  own = table_there tables name is.columns is.table

  -- the delta is one of it
  pub own_delta : IsDeltaOf own.0 delta
  own_delta = is.rows own.0 own.1

  -- the table has what is left of it and what is gone
  pub grown-gone : AreGrown (rows_of tables) (rows_of (rest_at name delta tables)) name delta.gone
  grown-gone =
      grown-at (rows_of tables) (rows_of (rest_at name delta tables)) name delta.gone own.0 (rest_of delta own.0) own.1 (rows_of-here tables name (rest_of delta) own.0 own.1)
      (λ other off. sym (rows_of-another tables name (rest_of delta) other off)) own_delta.gone

  -- what comes of it is what is left and what is new
  pub grown-added : AreGrown (rows_of (after_at name delta tables)) (rows_of (rest_at name delta tables)) name delta.added
  grown-added =
      grown-at (rows_of (after_at name delta tables)) (rows_of (rest_at name delta tables)) name delta.added (rows_after delta own.0) (rest_of delta own.0)
      (rows_of-here tables name (rows_after delta) own.0 own.1) (rows_of-here tables name (rest_of delta) own.0 own.1)
      (λ other off. rows_of-another tables name (rows_after delta) other off ∙ sym (rows_of-another tables name (rest_of delta) other off))
      (λ d day p. ap (list_any p) (relation_at-append rows_ordered row_at (rest_of delta own.0) delta.added d) ∙ list_any-set_of rows_ordered.exact p (rows_on (rest_of delta own.0) d ++ rows_on delta.added d))

  -- what is left fits the columns, and so does what comes
  rest_fit : KeepFit is.columns (rest_of delta)
  rest_fit rel fit = All-append (λ p. IsFitRow is.columns p.0) _ delta.left (All-others (λ p. IsFitRow is.columns p.0) delta.at.items rel fit) is.left

  pub after_fit : KeepFit is.columns (rows_after delta)
  after_fit rel fit = All-append (λ p. IsFitRow is.columns p.0) (rest_of delta rel) delta.added (rest_fit rel fit) is.added

  -- so each table has a relation whose rows fit
  pub rest_held : AreHeld (schemas_of (known_of tables)) (rows_of tables) → AreHeld (schemas_of (known_of (rest_at name delta tables))) (rows_of (rest_at name delta tables))
  rest_held held = changed_held tables name (rest_of delta) is.columns is.table rest_fit held

  pub after_held : AreHeld (schemas_of (known_of tables)) (rows_of tables) → AreHeld (schemas_of (known_of (after_at name delta tables))) (rows_of (after_at name delta tables))
  after_held held = changed_held tables name (rows_after delta) is.columns is.table after_fit held

  module _ (after : List (Held Relation)) (applied : IsApplied name delta tables after) where
    -- the table has the same rows in another order
    moved : IsPermutation applied.rows (rows_after delta own.0)
    moved = applied.order own.0 own.1

    -- what is read of each name is the same where it is the same of the table
    read_same : {A : Type 0} (read : Option Relation → A) → read (Some (rows_after delta own.0)) ≡ read (Some applied.rows) → (other : List ℕ) → read (rows_of (after_at name delta tables) other) ≡ read (rows_of after other)
    read_same read same other = at (bytes_eq name other) refl ∙ ap (λ db. read (rows_of db other)) (sym applied.put)
      where
        at : (b : Bool) → bytes_eq name other ≡ b → read (rows_of (after_at name delta tables) other) ≡ read (rows_of (put_at name applied.rows tables) other)
        at true here =
            let e : other ≡ name = sym (same_text name other (sym here)) in
            ap read (ap (rows_of (after_at name delta tables)) e ∙ rows_of-here tables name (rows_after delta) own.0 own.1)
            ∙ same
            ∙ sym (ap read (ap (rows_of (put_at name applied.rows tables)) e ∙ rows_of-here tables name (λ _. applied.rows) own.0 own.1))
        at false off = ap read (rows_of-another tables name (rows_after delta) other off ∙ sym (rows_of-another tables name (λ _. applied.rows) other off))

    -- so an answer over what comes of the tables is one over them
    pub answer-applied : (query : Query) (rel : Relation) → IsAnswerOver (after_at name delta tables) query rel → IsAnswerOver after query rel
    answer-applied query rel answer =
        answer-over (after_at name delta tables) after query rel
        (λ other used. known_changed tables name (rows_after delta) (after_at name delta tables) refl other ∙ sym (known_changed tables name (λ _. applied.rows) after applied.put other))
        (λ d other used. read_same (λ o. rows_or_none o d) (sym (relation_at-permutation rows_ordered row_at applied.rows (rows_after delta own.0) d moved)) other)
        (λ other used. read_same size_or_none (length_permutation applied.rows (rows_after delta own.0) moved) other) answer

    -- and so is an answer over the tables as they were, where the query does not use the table
    pub answer-unused : (query : Query) (rel : Relation) → uses query name ≡ false → IsAnswerOver tables query rel → IsAnswerOver after query rel
    answer-unused query rel unused answer =
        answer-over tables after query rel (λ other used. sym (known_changed tables name (λ _. applied.rows) after applied.put other))
        (λ d other used. ap (λ o. rows_or_none o d) (stays other used)) (λ other used. ap size_or_none (stays other used)) answer
      where
        stays : (other : List ℕ) → uses query other ≡ true → rows_of tables other ≡ rows_of after other
        stays other used = at (bytes_eq name other) refl
          where
            at : (b : Bool) → bytes_eq name other ≡ b → rows_of tables other ≡ rows_of after other
            at true here = absurd (true≢false (sym used ∙ ap (uses query) (sym (same_text name other (sym here))) ∙ unused))
            at false off = sym (ap (λ db. rows_of db other) applied.put ∙ rows_of-another tables name (λ _. applied.rows) other off)

-- Tables of which one has another relation: what each name has then, that this fits its columns, and that a query still fits them.
use Rattle.std.proofs.Common.{◌≡◌, ◌++◌, ℕ, ℤ, Bool, true, false, List, [], ◌∷◌, Some, None, Option, if◌then◌else◌, refl, sym, ap, ◌∙◌, subst}
use Rattle.std.specs.Cmp.Lexicographic.{nat_list_eq_equiv, same_text}
use Rattle.std.specs.List.{list_any}
use Rattle.std.specs.Option.{option_map}
use Rattle.std.specs.Str.{bytes_eq}
use Rattle.std.proofs.lemmas.List.{append-nil}
use Rattle.std.proofs.lemmas.Option.{same_Some}
use Rattle.og_base.specs.Calendar.{IsRefDay}
use Rattle.og_value.specs.declared.schema.Column.{Column}
use Rattle.og_query.specs.Fits.{columns_of, schemas_of, tables_of, IsFitQuery}
use Rattle.og_query.specs.declared.query.Query.{Query}
use Rattle.og_exec.specs.Tables.{Relations, rows_at, rows_on, rows_or_none}
use Rattle.og_db.specs.Database.{Relation, HaveKinds, IsTableOf}
use Rattle.og_db.specs.Deltas.{IsAlike}
use Rattle.og_db.specs.Held.{Held, changed_at, found, known_of, made_of, rows_of}
use Rattle.og_db.proofs.WorldLemmas.{known_of-changed_at}
use Rattle.og_view.specs.Placed.{AreGrown}
use Rattle.og_view.specs.Tables.{AreHeld}

-- the rows of each name after one is changed
pub rows_of-changed : {V : Type 0} (name : List ℕ) (g : V → V) (db : List (Held V)) (other : List ℕ) → rows_of (changed_at name g db) other ≡ option_map (λ rows. if bytes_eq name other then g rows else rows) (rows_of db other)
rows_of-changed name g [] other = refl
rows_of-changed name g (h ∷ hs) other = at (bytes_eq other h.name) refl (rows_of-changed name g hs other)
  where
    made : (b : Bool) → (if b then made_of g h else h).rows ≡ (if b then g h.rows else h.rows)
    made true = refl
    made false = refl

    named : (b : Bool) → (if b then made_of g h else h).name ≡ h.name
    named true = refl
    named false = refl

    at : (c : Bool) → bytes_eq other h.name ≡ c → rows_of (changed_at name g hs) other ≡ option_map (λ rows. if bytes_eq name other then g rows else rows) (rows_of hs other)
        → rows_of (changed_at name g (h ∷ hs)) other ≡ option_map (λ rows. if bytes_eq name other then g rows else rows) (rows_of (h ∷ hs) other)
    at true here rest =
        ap (λ c. option_map (λ h. h.rows) (if c then Some (if bytes_eq name h.name then made_of g h else h) else found (changed_at name g hs) other)) (ap (bytes_eq other) (named (bytes_eq name h.name)) ∙ here)
        ∙ ap Some (made (bytes_eq name h.name) ∙ ap (λ other. if bytes_eq name other then g h.rows else h.rows) (sym (same_text other h.name (sym here))))
        ∙ sym (ap (λ c. option_map (λ rows. if bytes_eq name other then g rows else rows) (option_map (λ h. h.rows) (if c then Some h else found hs other))) here)
    at false here rest =
        ap (λ c. option_map (λ h. h.rows) (if c then Some (if bytes_eq name h.name then made_of g h else h) else found (changed_at name g hs) other)) (ap (bytes_eq other) (named (bytes_eq name h.name)) ∙ here)
        ∙ rest
        ∙ sym (ap (λ c. option_map (λ rows. if bytes_eq name other then g rows else rows) (option_map (λ h. h.rows) (if c then Some h else found hs other))) here)

-- what is made of rows that fit columns fits them
abbrev pub KeepFit : List Column → (Relation → Relation) → Type 0
KeepFit columns change = (own : Relation) → HaveKinds columns own → HaveKinds columns (change own)

module _ (tables : List (Held Relation)) (name : List ℕ) (change : Relation → Relation) where
  -- that name has what is made of its own
  pub rows_of-here : (own : Relation) → rows_of tables name ≡ Some own → rows_of (changed_at name change tables) name ≡ Some (change own)
  rows_of-here own is =
      rows_of-changed name change tables name
      ∙ ap (option_map (λ own. if bytes_eq name name then change own else own)) is
      ∙ ap (λ b. Some (if b then change own else own)) (nat_list_eq_equiv.refl name)

  -- and another what it had
  pub rows_of-another : (other : List ℕ) → bytes_eq name other ≡ false → rows_of (changed_at name change tables) other ≡ rows_of tables other
  rows_of-another other off = rows_of-changed name change tables other ∙ at (rows_of tables other)
    where
      at : (o : Option Relation) → option_map (λ own. if bytes_eq name other then change own else own) o ≡ o
      at None = refl
      at (Some own) = ap (λ b. Some (if b then change own else own)) off

  -- and nothing where there is none
  pub rows_of-none : (other : List ℕ) → rows_of tables other ≡ None → rows_of (changed_at name change tables) other ≡ None
  rows_of-none other none = rows_of-changed name change tables other ∙ ap (option_map (λ own. if bytes_eq name other then change own else own)) none

  -- each still has a relation whose rows fit
  pub changed_held : (columns : List Column) → IsTableOf columns tables name → KeepFit columns change → AreHeld (schemas_of (known_of tables)) (rows_of tables)
      → AreHeld (schemas_of (known_of (changed_at name change tables))) (rows_of (changed_at name change tables))
  changed_held columns is keeps held = λ other others known.
      let before : schemas_of (known_of tables) other ≡ Some others = ap columns_of (sym (known_of-changed_at name change tables other)) ∙ known in
      at other others before (held other others before) (bytes_eq name other) refl
    where
      at : (other : List ℕ) (others : List Column) → schemas_of (known_of tables) other ≡ Some others → (own : Relation) × (rows_of tables other ≡ Some own) × HaveKinds others own → (b : Bool) → bytes_eq name other ≡ b
          → (one : Relation) × (rows_of (changed_at name change tables) other ≡ Some one) × HaveKinds others one
      at other others known own true here =
          let e : name ≡ other = same_text name other (sym here) in
          let same : columns ≡ others = same_Some columns others (sym (ap columns_of is) ∙ ap (λ n. columns_of (known_of tables n)) e ∙ known) in (
            change own.0,
            ap (rows_of (changed_at name change tables)) (sym e) ∙ rows_of-here own.0 (ap (rows_of tables) e ∙ own.1),
            subst (λ cs. HaveKinds cs (change own.0)) same (keeps own.0 (subst (λ cs. HaveKinds cs own.0) (sym same) own.2)),
          )
      at other others known own false off = (own.0, rows_of-another other off ∙ own.1, own.2)

  module _ (now : List (Held Relation)) (changed : now ≡ changed_at name change tables) where
    -- what is known of each name is what was
    pub known_changed : (other : List ℕ) → known_of now other ≡ known_of tables other
    known_changed other = ap (λ db. known_of db other) changed ∙ known_of-changed_at name change tables other

    -- a query that fitted does so
    pub fits_changed : (query : Query) → IsFitQuery (tables_of (known_of tables)) query → IsFitQuery (tables_of (known_of now)) query
    fits_changed query fits = subst (λ known. IsFitQuery (tables_of known) query) (λ i other. sym (known_changed other) i) fits

module _ (after before : Relations) (name : List ℕ) (new now was : Relation) (has : after name ≡ Some now) (had : before name ≡ Some was)
    (kept : (other : List ℕ) → bytes_eq name other ≡ false → after other ≡ before other)
    (alike : (d : ℤ) → IsRefDay d → IsAlike (rows_on now d) (rows_on was d ++ rows_on new d)) where
  -- where one name has its rows and new ones, each has what it had and what it gets
  pub grown-at : AreGrown after before name new
  grown-at d day other p = at (bytes_eq name other) refl
    where
      at : (b : Bool) → bytes_eq name other ≡ b → list_any p (rows_at after d other) ≡ list_any p (rows_at before d other ++ rows_on (if b then new else []) d)
      at true here =
          let e : other ≡ name = sym (same_text name other (sym here)) in
          ap (λ o. list_any p (rows_or_none o d)) (ap after e ∙ has) ∙ alike d day p ∙ ap (λ o. list_any p (rows_or_none o d ++ rows_on new d)) (sym (ap before e ∙ had))
      at false off = ap (λ o. list_any p (rows_or_none o d)) (kept other off) ∙ ap (list_any p) (sym (append-nil (rows_at before d other)))

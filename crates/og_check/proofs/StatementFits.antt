-- Statements that are checked fit what is known.
use Rattle.std.proofs.Common.{◌≡◌, ◌==◌, ◌||◌, ◌++◌, ℕ, Bool, true, false, not, List, [], ◌∷◌, Option, Some, None, Ok, map, length, slice_get, refl, ap, sym, subst, ◌∙◌, append-nil, true≢false}
use Rattle.std.proofs.lemmas.Bool.{eqb-false}
use Rattle.std.specs.List.{AllByRecursion, list_any}
use Rattle.std.proofs.lemmas.List.{map-append}
use Rattle.std.proofs.lemmas.List.Elements.{All-from_recursion, recursion_from_All}
use Rattle.og_value.specs.Cells.{kind_of}
use Rattle.og_value.specs.Limits.{max_columns}
use Rattle.og_value.specs.declared.kind.What.{What}
use Rattle.og_value.specs.declared.schema.Column.{Column}
use Rattle.og_value.specs.declared.value.Value.{Value}
use Rattle.og_syntax.specs.declared.tree.CondText.{CondText}
use Rattle.og_syntax.specs.declared.tree.SetText.{SetText}
use Rattle.og_syntax.specs.declared.tree.Stmt.{Stmt}
use Rattle.og_syntax.specs.declared.tree.Stmt.TheVariants as s
use Rattle.og_query.specs.Kinds.{kinds_of, fits}
use Rattle.og_query.specs.Fits.{Known, schemas_of, tables_of, IsFitRow, IsFitAssign, IsNew, IsNamed, AreApart, IsFit}
use Rattle.og_query.specs.declared.expression.Expr.{Expr}
use Rattle.og_query.specs.declared.condition.Cond.{Cond}
use Rattle.og_query.specs.declared.typed.Assign.{Assign}
use Rattle.og_query.specs.declared.typed.Typed.{Typed}
use Rattle.og_query.specs.declared.typed.Typed.TheVariants as t
use Rattle.og_check.specs.declared.refusal.CheckRefusal.TheVariants as r
use Rattle.og_check.specs.Steps.{◌>>=◌, ◌>>◌, pure, on_each, unless, same_kind, within}
use Rattle.og_check.specs.Sight.{Found, joined, found}
use Rattle.og_check.specs.Expressions.{expr_of, where_of}
use Rattle.og_check.specs.Cores.{query_of}
use Rattle.og_check.specs.Statements as spec
use Rattle.og_check.specs.Statements.{new_name, new_columns, table_columns, named_columns, tuple_of, set_of, with_set, sets_of, sees_table}
use Rattle.og_check.proofs.OkLemmas.{not_ok, ok_same, bind_ok, where_ok, unless_ok, same_is, agree_are, turn_keeps, on_each_all}
use Rattle.og_check.proofs.SightFits.{found_fits, all_append}
use Rattle.og_check.proofs.ExpressionFits.{expr_fits, where_fits}
use Rattle.og_check.proofs.CoreFits.{known_are, query_fits}

-- a name without a fault is new
new_is : (known : Known) (name : List ℕ) (u : Unit {0}) → new_name known name ≡ Ok u → IsNew known name
new_is known name u g = by_case (known name) g
  where
    by_case : (k : Option (What × List Column)) → spec.not_known name k ≡ Ok u → k ≡ None
    by_case None g = refl
    by_case (Some k) g = absurd (not_ok _ u g)

-- a name without a fault is known
named_is : (known : Known) (name : List ℕ) (columns : List Column) → named_columns known name ≡ Ok columns → IsNamed known name
named_is known name columns g = (columns, known_are name (schemas_of known name) columns g)

-- the kinds of a table are those in sight
table_kinds : (name : List ℕ) (columns : List Column) → kinds_of columns ≡ kinds_of (joined ((name, columns) ∷ [])) ++ []
table_kinds name columns = sym (append-nil (kinds_of (columns ++ [])) ∙ ap kinds_of (append-nil columns))

-- a column of a table that is found stands at its place
table_found : (name : List ℕ) (columns : List Column) (table : Option (List ℕ)) (c : List ℕ) (x : Found) → found (sees_table name columns) table c ≡ Ok x → slice_get (kinds_of columns) x.0 ≡ Some x.1
table_found name columns = found_fits (sees_table name columns) (kinds_of columns) [] (table_kinds name columns)

-- the condition on a table fits it
table_where : (name : List ℕ) (columns : List Column) (cond : Option CondText) (x : Cond) → where_of (sees_table name columns) cond ≡ Ok x → fits (kinds_of columns) x ≡ true
table_where name columns = where_fits (sees_table name columns) (kinds_of columns) (table_found name columns)

-- a tuple without a fault fits
tuple_fits : (columns : List Column) (row : List Value) (u : Unit {0}) → tuple_of columns row ≡ Ok u → IsFitRow columns row
tuple_fits columns row u g = agree_are (map kind_of row) (kinds_of columns) u g

-- the place of an assignment
abbrev place_of : Assign → ℕ
place_of set = set.column

-- a place that no assignment has
none_has : (place : ℕ) (sets : List Assign) → not (list_any (λ other. other.column == place) sets) ≡ true → AllByRecursion (λ other. ¬ (place ≡ other)) (map place_of sets)
none_has place [] g = tt
none_has place (set ∷ sets) g = by_test (set.column == place) refl g (none_has place sets)
  where
    by_test : (b : Bool) → (set.column == place) ≡ b → not (b || list_any (λ other. other.column == place) sets) ≡ true
        → (not (list_any (λ other. other.column == place) sets) ≡ true → AllByRecursion (λ other. ¬ (place ≡ other)) (map place_of sets))
        → AllByRecursion (λ other. ¬ (place ≡ other)) (map place_of (set ∷ sets))
    by_test true f g more = absurd (true≢false (sym g))
    by_test false f g more = ((λ h. eqb-false set.column place f (sym h)), more g)

-- places with one more that is another than each
apart_append : (places : List ℕ) (place : ℕ) → AreApart places → AllByRecursion (λ other. ¬ (place ≡ other)) places → AreApart (places ++ place ∷ [])
apart_append [] place h k = (All-from_recursion (λ other. ¬ (other ≡ place)) [] tt, tt)
apart_append (p ∷ places) place h k = (
  All-from_recursion (λ other. ¬ (other ≡ p)) (places ++ place ∷ []) (all_append (λ other. ¬ (other ≡ p)) places (place ∷ []) (recursion_from_All (λ other. ¬ (other ≡ p)) places h.0) (k.0, tt)),
  apart_append places place h.1 k.1,
)

-- assignments so far fit and have places of their own
abbrev AreFit : List Column → List Assign → Type 0
AreFit columns sets = AllByRecursion (IsFitAssign columns) sets × AreApart (map place_of sets)

-- an assignment
abbrev made_set : ℕ → Expr → Assign
made_set place expr = record { column = place; expr = expr }

-- an assignment that is checked fits, and has a place of its own
set_fits : (name : List ℕ) (columns : List Column) (before : List Assign) (text : SetText) (set : Assign) → set_of (sees_table name columns) before text ≡ Ok set
    → IsFitAssign columns set × AllByRecursion (λ other. ¬ (set.column ≡ other)) (map place_of before)
set_fits name columns before text set g =
    let sight = sees_table name columns in
    let fault = r.NameTaken text.column in
    where_ok (found sight None text.column) (λ column. do unless (not (list_any (λ other. other.column == column.0) before)) fault; value ← expr_of sight text.expr; same_kind value.1 column.1; pure (made_set column.0 value.0)) set (λ column a.
    where_ok (unless (not (list_any (λ other. other.column == column.0) before)) fault) (λ _. do value ← expr_of sight text.expr; same_kind value.1 column.1; pure (made_set column.0 value.0)) set (λ u b.
    where_ok (expr_of sight text.expr) (λ value. do same_kind value.1 column.1; pure (made_set column.0 value.0)) set (λ value d.
    where_ok (same_kind value.1 column.1) (λ _. pure (made_set column.0 value.0)) set (λ v f e.
    subst (λ s. IsFitAssign columns s × AllByRecursion (λ other. ¬ (s.column ≡ other)) (map place_of before)) (ok_same (made_set column.0 value.0) set e) (
      (column.1, table_found name columns None text.column column a, expr_fits sight (kinds_of columns) (table_found name columns) text.expr value d ∙ ap (λ k. Some k) (same_is value.1 column.1 v f)),
      none_has column.0 before (unless_ok (not (list_any (λ other. other.column == column.0) before)) fault u b),
    ))))) g

-- assignments with one more that is checked fit
with_set_fits : (name : List ℕ) (columns : List Column) (before : List Assign) (text : SetText) (after : List Assign) → with_set (sees_table name columns) before text ≡ Ok after → AreFit columns before → AreFit columns after
with_set_fits name columns before text after g h =
    let a = bind_ok (set_of (sees_table name columns) before text) (λ one. pure (before ++ one ∷ [])) after g in
    let fit = set_fits name columns before text a.0 a.1 in
    subst (AreFit columns) (ok_same (before ++ a.0 ∷ []) after a.2)
    (all_append (IsFitAssign columns) before (a.0 ∷ []) h.0 (fit.0, tt), subst AreApart (sym (map-append place_of before (a.0 ∷ []))) (apart_append (map place_of before) a.0.column h.1 fit.1))

-- assignments that are checked fit
sets_fit : (name : List ℕ) (columns : List Column) (texts : List SetText) (sets : List Assign) → sets_of (sees_table name columns) texts ≡ Ok sets → AreFit columns sets
sets_fit name columns texts sets g = turn_keeps (AreFit columns) (with_set (sees_table name columns)) (with_set_fits name columns) [] texts sets g (tt, tt)

-- a statement without a fault fits
pub statement_fits : (known : Known) (stmt : Stmt) (typed : Typed) → spec.checked known stmt ≡ Ok typed → IsFit known typed
statement_fits known (s.Create name columns) typed g =
    let a = bind_ok (new_name known name) (λ _. do within max_columns (length columns); xs ← new_columns columns; pure (t.Create name xs)) typed g in
    let b = bind_ok (within max_columns (length columns)) (λ _. do xs ← new_columns columns; pure (t.Create name xs)) typed a.2 in
    let d = bind_ok (new_columns columns) (λ xs. pure (t.Create name xs)) typed b.2 in
    subst (IsFit known) (ok_same (t.Create name d.0) typed d.2) (new_is known name a.0 a.1)
statement_fits known (s.Insert name rows) typed g =
    let a = bind_ok (table_columns known name) (λ columns. do on_each (tuple_of columns) rows; pure (t.Insert name rows)) typed g in
    let b = bind_ok (on_each (tuple_of a.0) rows) (λ _. pure (t.Insert name rows)) typed a.2 in
    subst (IsFit known) (ok_same (t.Insert name rows) typed b.2)
    (a.0, known_are name (tables_of known name) a.0 a.1, All-from_recursion (IsFitRow a.0) rows (on_each_all (tuple_of a.0) (IsFitRow a.0) (tuple_fits a.0) rows b.0 b.1))
statement_fits known (s.Delete name cond) typed g =
    let a = bind_ok (table_columns known name) (λ columns. do x ← where_of (sees_table name columns) cond; pure (t.Delete name x)) typed g in
    let b = bind_ok (where_of (sees_table name a.0) cond) (λ x. pure (t.Delete name x)) typed a.2 in
    subst (IsFit known) (ok_same (t.Delete name b.0) typed b.2) (a.0, known_are name (tables_of known name) a.0 a.1, table_where name a.0 cond b.0 b.1)
statement_fits known (s.Update name sets cond) typed g =
    let a = bind_ok (table_columns known name) (λ columns. do xs ← sets_of (sees_table name columns) sets; x ← where_of (sees_table name columns) cond; pure (t.Update name xs x)) typed g in
    let b = bind_ok (sets_of (sees_table name a.0) sets) (λ xs. do x ← where_of (sees_table name a.0) cond; pure (t.Update name xs x)) typed a.2 in
    let d = bind_ok (where_of (sees_table name a.0) cond) (λ x. pure (t.Update name b.0 x)) typed b.2 in
    let fit = sets_fit name a.0 sets b.0 b.1 in
    subst (IsFit known) (ok_same (t.Update name b.0 d.0) typed d.2)
    (a.0, known_are name (tables_of known name) a.0 a.1, All-from_recursion (IsFitAssign a.0) b.0 fit.0, fit.1, table_where name a.0 cond d.0 d.1)
statement_fits known (s.Drop name) typed g =
    let a = bind_ok (named_columns known name) (λ _. pure (t.Drop name)) typed g in subst (IsFit known) (ok_same (t.Drop name) typed a.2) (named_is known name a.0 a.1)
statement_fits known s.Tables typed g = subst (IsFit known) (ok_same t.Tables typed g) tt
statement_fits known (s.Keep name query) typed g =
    let a = bind_ok (new_name known name) (λ _. do q ← query_of (schemas_of known) query; pure (t.Keep name q)) typed g in
    let b = bind_ok (query_of (schemas_of known) query) (λ q. pure (t.Keep name q)) typed a.2 in
    subst (IsFit known) (ok_same (t.Keep name b.0) typed b.2) (new_is known name a.0 a.1, query_fits (schemas_of known) query b.0 b.1)
statement_fits known (s.PrintName name day) typed g =
    let a = bind_ok (named_columns known name) (λ _. pure (t.PrintName name day)) typed g in subst (IsFit known) (ok_same (t.PrintName name day) typed a.2) (named_is known name a.0 a.1)
statement_fits known (s.PrintQuery query day) typed g =
    let b = bind_ok (query_of (schemas_of known) query) (λ q. pure (t.PrintQuery q day)) typed g in
    subst (IsFit known) (ok_same (t.PrintQuery b.0 day) typed b.2) (query_fits (schemas_of known) query b.0 b.1)
statement_fits known (s.Save name file) typed g =
    let a = bind_ok (named_columns known name) (λ _. pure (t.Save name file)) typed g in subst (IsFit known) (ok_same (t.Save name file) typed a.2) (named_is known name a.0 a.1)
statement_fits known (s.OpenFile name file) typed g =
    let a = bind_ok (new_name known name) (λ _. pure (t.OpenFile name file)) typed g in subst (IsFit known) (ok_same (t.OpenFile name file) typed a.2) (new_is known name a.0 a.1)
statement_fits known (s.ImportFile name file) typed g =
    let a = bind_ok (table_columns known name) (λ _. pure (t.ImportFile name file)) typed g in
    subst (IsFit known) (ok_same (t.ImportFile name file) typed a.2) (a.0, known_are name (tables_of known name) a.0 a.1)
statement_fits known (s.Explain query) typed g =
    let b = bind_ok (query_of (schemas_of known) query) (λ q. pure (t.Explain q)) typed g in subst (IsFit known) (ok_same (t.Explain b.0) typed b.2) (query_fits (schemas_of known) query b.0 b.1)
statement_fits known (s.Valid name day) typed g =
    let a = bind_ok (named_columns known name) (λ _. pure (t.Valid name day)) typed g in subst (IsFit known) (ok_same (t.Valid name day) typed a.2) (named_is known name a.0 a.1)
statement_fits known (s.Live name query) typed g =
    let a = bind_ok (new_name known name) (λ _. do q ← query_of (tables_of known) query; pure (t.Live name q)) typed g in
    let b = bind_ok (query_of (tables_of known) query) (λ q. pure (t.Live name q)) typed a.2 in
    subst (IsFit known) (ok_same (t.Live name b.0) typed b.2) (new_is known name a.0 a.1, query_fits (tables_of known) query b.0 b.1)

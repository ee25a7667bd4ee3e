-- Statements, by the parts of their checks.
use Rattle.std.proofs.Common.{◌≡◌, ℕ, ℤ, List, Option, Ok, ap, ◌∙◌}
use Rattle.og_value.specs.declared.schema.Column.{Column}
use Rattle.og_syntax.specs.declared.tree.CondText.{CondText}
use Rattle.og_syntax.specs.declared.tree.QueryText.{QueryText}
use Rattle.og_syntax.specs.declared.tree.SetText.{SetText}
use Rattle.og_syntax.specs.declared.tree.Stmt.{Stmt}
use Rattle.og_syntax.specs.declared.tree.Stmt.TheVariants as s
use Rattle.og_query.specs.Fits.{Known, schemas_of, tables_of}
use Rattle.og_query.specs.declared.condition.Cond.{Cond}
use Rattle.og_query.specs.declared.query.Query.{Query}
use Rattle.og_query.specs.declared.typed.Assign.{Assign}
use Rattle.og_query.specs.declared.typed.Typed.{Typed}
use Rattle.og_query.specs.declared.typed.Typed.TheVariants as t
use Rattle.og_check.specs.Cores.{query_of}
use Rattle.og_check.specs.Expressions.{where_of}
use Rattle.og_check.specs.Makings.{named_query, named_where}
use Rattle.og_check.specs.Names.{known_name}
use Rattle.og_check.specs.Statements.{new_name, named_columns, table_columns, sees_table, sets_of, delete, update, checked}
use Rattle.og_check.specs.Steps.{Checked, ◌>>=◌, pure}
use Rattle.og_check.proofs.GivesLemmas.{paired, paired_after, remade}

-- DELETE from a table
abbrev delete_in : List ℕ → Option CondText → List Column → Checked Typed
delete_in name cond columns = do x ← where_of (sees_table name columns) cond; pure (t.Delete name x)

-- DELETE, where its name and its condition are given as a pair
pub deletes : (known : Known) (name : List ℕ) (cond : Option CondText) (columns : List Column) (r : Checked (List ℕ × Cond)) → table_columns known name ≡ Ok columns → named_where name columns cond ≡ r
    → delete known name cond ≡ (do y ← r; pure (t.Delete y.0 y.1))
deletes known name cond columns r e f = ap (λ p. p >>= delete_in name cond) e ∙ paired (where_of (sees_table name columns) cond) name (λ n x. t.Delete n x) r f

-- UPDATE of a table, after its assignments
abbrev update_where : List ℕ → Option CondText → List Column → List Assign → Checked Typed
update_where name cond columns xs = do x ← where_of (sees_table name columns) cond; pure (t.Update name xs x)

-- UPDATE of a table
abbrev update_in : List ℕ → List SetText → Option CondText → List Column → Checked Typed
update_in name sets cond columns = do xs ← sets_of (sees_table name columns) sets; update_where name cond columns xs

-- UPDATE, where its name and its condition are given as a pair
pub updates : (known : Known) (name : List ℕ) (sets : List SetText) (cond : Option CondText) (columns : List Column) (xs : List Assign) (r : Checked (List ℕ × Cond))
    → table_columns known name ≡ Ok columns → sets_of (sees_table name columns) sets ≡ Ok xs → named_where name columns cond ≡ r
    → update known name sets cond ≡ (do y ← r; pure (t.Update y.0 xs y.1))
updates known name sets cond columns xs r e f g =
    ap (λ p. p >>= update_in name sets cond) e ∙ ap (λ p. p >>= update_where name cond columns) f ∙ paired (where_of (sees_table name columns) cond) name (λ n x. t.Update n xs x) r g

-- DROP, where its name is given
pub drops : (known : Known) (stmt : Stmt) (name : List ℕ) (r : Checked (List ℕ)) → stmt ≡ s.Drop name → known_name name (schemas_of known name) ≡ r → checked known stmt ≡ (do n ← r; pure (t.Drop n))
drops known stmt name r is e = ap (checked known) is ∙ remade (named_columns known name) name (λ n. t.Drop n) r e

-- PRINT, where its name is given
pub prints : (known : Known) (stmt : Stmt) (name : List ℕ) (day : ℤ) (r : Checked (List ℕ)) → stmt ≡ s.PrintName name day → known_name name (schemas_of known name) ≡ r → checked known stmt ≡ (do n ← r; pure (t.PrintName n day))
prints known stmt name day r is e = ap (checked known) is ∙ remade (named_columns known name) name (λ n. t.PrintName n day) r e

-- VALID, where its name is given
pub valids : (known : Known) (stmt : Stmt) (name : List ℕ) (day : ℤ) (r : Checked (List ℕ)) → stmt ≡ s.Valid name day → known_name name (schemas_of known name) ≡ r → checked known stmt ≡ (do n ← r; pure (t.Valid n day))
valids known stmt name day r is e = ap (checked known) is ∙ remade (named_columns known name) name (λ n. t.Valid n day) r e

-- KEEP, where its name and its query are given as a pair
pub keeps : (known : Known) (stmt : Stmt) (name : List ℕ) (query : QueryText) (r : Checked (List ℕ × Query)) → stmt ≡ s.Keep name query → named_query known (schemas_of known) name query ≡ r → checked known stmt ≡ (do y ← r; pure (t.Keep y.0 y.1))
keeps known stmt name query r is e = ap (checked known) is ∙ paired_after (new_name known name) (query_of (schemas_of known) query) name (λ n q. t.Keep n q) r e

-- LIVE, where its name and its query are given as a pair
pub lives : (known : Known) (stmt : Stmt) (name : List ℕ) (query : QueryText) (r : Checked (List ℕ × Query)) → stmt ≡ s.Live name query → named_query known (tables_of known) name query ≡ r → checked known stmt ≡ (do y ← r; pure (t.Live y.0 y.1))
lives known stmt name query r is e = ap (checked known) is ∙ paired_after (new_name known name) (query_of (tables_of known) query) name (λ n q. t.Live n q) r e

-- No check gives want of memory.
use Rattle.std.proofs.Common.{◌≡◌, ◌==◌, ◌++◌, ◌+◌, ℕ, zero, suc, Bool, true, false, not, nat_lt, List, [], ◌∷◌, Option, Some, None, Ok, Err, map, length, refl, sym, subst}
use Rattle.std.specs.List.{AllByRecursion, list_any}
use Rattle.std.specs.Str.{bytes_eq}
use Rattle.og_value.specs.Cells.{kind_of}
use Rattle.og_value.specs.Limits.{max_columns}
use Rattle.og_value.specs.declared.kind.Kind.{Kind}
use Rattle.og_value.specs.declared.kind.Kind.TheVariants as k
use Rattle.og_value.specs.declared.kind.What.{What}
use Rattle.og_value.specs.declared.schema.Column.{Column}
use Rattle.og_value.specs.declared.term.Cmp.{Cmp}
use Rattle.og_value.specs.declared.term.Func.{Func}
use Rattle.og_value.specs.declared.term.Pred.{Pred}
use Rattle.og_value.specs.declared.value.Value.{Value}
use Rattle.og_syntax.specs.declared.tree.ExprText.{ExprText}
use Rattle.og_syntax.specs.declared.tree.ExprText.TheVariants as x
use Rattle.og_syntax.specs.declared.tree.CondText.{CondText}
use Rattle.og_syntax.specs.declared.tree.CondText.TheVariants as y
use Rattle.og_syntax.specs.declared.tree.FromText.{FromText}
use Rattle.og_syntax.specs.declared.tree.SemiText.{SemiText}
use Rattle.og_syntax.specs.declared.tree.ItemText.{ItemText}
use Rattle.og_syntax.specs.declared.tree.ItemsText.{ItemsText}
use Rattle.og_syntax.specs.declared.tree.ItemsText.TheVariants as items_
use Rattle.og_syntax.specs.declared.tree.CoreText.{CoreText}
use Rattle.og_syntax.specs.declared.tree.RestText.{RestText}
use Rattle.og_syntax.specs.declared.tree.QueryText.{QueryText}
use Rattle.og_syntax.specs.declared.tree.SetText.{SetText}
use Rattle.og_syntax.specs.declared.tree.Stmt.{Stmt}
use Rattle.og_syntax.specs.declared.tree.Stmt.TheVariants as s
use Rattle.og_query.specs.Kinds.{kinds_of}
use Rattle.og_query.specs.Fits.{Known, Schemas, schemas_of, tables_of}
use Rattle.og_query.specs.declared.expression.Expr.TheVariants as e
use Rattle.og_query.specs.declared.condition.Cond.{Cond}
use Rattle.og_query.specs.declared.condition.Cond.TheVariants as c
use Rattle.og_query.specs.declared.query.Semi.{Semi}
use Rattle.og_query.specs.declared.query.Core.{Core}
use Rattle.og_query.specs.declared.typed.Assign.{Assign}
use Rattle.og_query.specs.declared.typed.Typed.TheVariants as t
use Rattle.og_check.specs.declared.refusal.CheckRefusal.{CheckRefusal}
use Rattle.og_check.specs.declared.refusal.CheckRefusal.TheVariants as r
use Rattle.og_check.specs.Limits.{max_tables}
use Rattle.og_check.specs.Steps.{Checked, ◌>>=◌, ◌>>◌, pure, in_order, in_turn, on_each, unless, is_kind, same_kind, same_kinds, same_count, agree, within, is_fault}
use Rattle.og_check.specs.Sight.{Sight, Item, Found, found, one_of, written, candidates}
use Rattle.og_check.specs.Expressions.{Kinded, expr_of, call_of, wanted, given, comparable, cond_of, conds_of, where_of}
use Rattle.og_check.specs.Cores.{known_columns, alias_of, unused, sees, sees_sub, From, no_tables, with_table, from_of, semi_of, item_name, Shown, item_of, items_from, items_of, exprs_of, columns_of, schema_of, core_of, rest_of, query_of}
use Rattle.og_check.specs.Statements as spec
use Rattle.og_check.proofs.ExpressionRules.{expr_of-Column, expr_of-Lit, expr_of-Call, cond_of-And, cond_of-Or, cond_of-Not, cond_of-Compare, cond_of-Relate, cond_of-Empty, cond_of-Contains}
use Rattle.og_check.proofs.ExpressionFits.{induction-ExprText, induction-CondText}

-- a value, or a fault other than want of memory
abbrev pub IsTold : {A : Type 0} → Checked A → Type 0
IsTold (Ok x) = Unit {0}
IsTold (Err reason) = is_fault reason ≡ true

-- a fault that is told is not want of memory
pub told_fault : {A : Type 0} (p : Checked A) (reason : CheckRefusal) → IsTold p → p ≡ Err reason → is_fault reason ≡ true
told_fault p reason h e = subst (λ q. IsTold q) e h

-- the one, and then the other
bind_told : {A B : Type 0} (p : Checked A) (f : A → Checked B) → IsTold p → ((x : A) → IsTold (f x)) → IsTold (p >>= f)
bind_told (Ok x) f h k = k x
bind_told (Err fault) f h k = h

-- the one, and then a value of it
then_told : {A B : Type 0} (p : Checked A) (f : A → B) → IsTold p → IsTold (p >>= (λ x. pure (f x)))
then_told p f h = bind_told p (λ x. pure (f x)) h (λ x. tt)

-- each of a list in order
in_order_told : {A B : Type 0} (f : A → Checked B) (xs : List A) → AllByRecursion (λ x. IsTold (f x)) xs → IsTold (in_order (map f xs))
in_order_told f [] h = tt
in_order_told f (x ∷ xs) h =
    bind_told (f x) (λ y. do ys ← in_order (map f xs); pure (y ∷ ys)) h.0 (λ y. then_told (in_order (map f xs)) (λ ys. y ∷ ys) (in_order_told f xs h.1))

-- what holds always holds of each
each_holds : {A : Type 0} (P : A → Type 0) → ((x : A) → P x) → (xs : List A) → AllByRecursion P xs
each_holds P h [] = tt
each_holds P h (x ∷ xs) = (h x, each_holds P h xs)

-- with each of a list in turn
in_turn_told : {S A : Type 0} (step : S → A → Checked S) → ((before : S) (x : A) → IsTold (step before x)) → (before : S) (xs : List A) → IsTold (in_turn step before xs)
in_turn_told step h before [] = tt
in_turn_told step h before (x ∷ xs) = bind_told (step before x) (λ after. in_turn step after xs) (h before x) (λ after. in_turn_told step h after xs)

-- a test
unless_told : (good : Bool) (fault : CheckRefusal) → is_fault fault ≡ true → IsTold (unless good fault)
unless_told true fault h = tt
unless_told false fault h = h

-- a kind
same_kind_told : (found wanted : Kind) → IsTold (same_kind found wanted)
same_kind_told found wanted = unless_told (is_kind found wanted) (r.KindsDiffer found wanted) refl

-- kinds
same_kinds_told : (found wanted : List Kind) → IsTold (same_kinds found wanted)
same_kinds_told [] wanted = tt
same_kinds_told (x ∷ xs) [] = tt
same_kinds_told (x ∷ xs) (y ∷ ys) = bind_told (same_kind x y) (λ _. same_kinds xs ys) (same_kind_told x y) (λ _. same_kinds_told xs ys)

-- as many kinds
agree_told : (found wanted : List Kind) → IsTold (agree found wanted)
agree_told found wanted =
    bind_told (same_count (length found) (length wanted)) (λ _. same_kinds found wanted)
    (unless_told (length found == length wanted) (r.CountsDiffer (length found) (length wanted)) refl) (λ _. same_kinds_told found wanted)

-- a number
within_told : (limit number : ℕ) → IsTold (within limit number)
within_told limit zero = refl
within_told limit (suc n) = unless_told (not (nat_lt limit (suc n))) (r.TooMany (suc n) limit) refl

-- a column
found_told : (sight : Sight) (table : Option (List ℕ)) (name : List ℕ) → IsTold (found sight table name)
found_told sight table name = by_number (candidates sight table name)
  where
    by_number : (xs : List Found) → IsTold (one_of (written table name) xs)
    by_number [] = refl
    by_number (x ∷ []) = tt
    by_number (x ∷ y ∷ more) = refl

-- operands of a comparison
comparable_told : (left right : Kind) → IsTold (comparable left right)
comparable_told k.Int right = same_kind_told right k.Int
comparable_told k.Text right = same_kind_told right k.Text
comparable_told k.Date right = same_kind_told right k.Date
comparable_told k.Period right = refl

module _ (sight : Sight) where
  -- a column in sight
  column_told : (table : Option (List ℕ)) (name : List ℕ) → IsTold (expr_of sight (x.Column table name))
  column_told table name =
      subst (λ p. IsTold p) (sym (expr_of-Column sight table name)) (then_told (found sight table name) (λ p. (e.Column p.0, p.1)) (found_told sight table name))

  -- a literal
  literal_told : (value : Value) → IsTold (expr_of sight (x.Lit value))
  literal_told value = subst (λ p. IsTold p) (sym (expr_of-Lit sight value)) tt

  -- a call
  call_told : (func : Func) (args : List ExprText) → AllByRecursion (λ arg. IsTold (expr_of sight arg)) args → IsTold (expr_of sight (x.Call func args))
  call_told func args all =
      subst (λ p. IsTold p) (sym (expr_of-Call sight func args))
      (bind_told (in_order (map (expr_of sight) args)) (λ xs. call_of func (map (λ x. x.0) xs) (map (λ x. x.1) xs)) (in_order_told (expr_of sight) args all) (λ xs.
      then_told (agree (map (λ x. x.1) xs) (wanted func)) (λ _. (e.Call func (map (λ x. x.0) xs), given func)) (agree_told (map (λ x. x.1) xs) (wanted func))))

  -- an expression
  pub expr_told : (expr : ExprText) → IsTold (expr_of sight expr)
  expr_told = induction-ExprText (λ expr. IsTold (expr_of sight expr)) column_told literal_told call_told

  -- two expressions, and then what is made of them
  two_told : {A : Type 0} (left right : ExprText) (f : Kinded → Kinded → Checked A) → ((x y : Kinded) → IsTold (f x y)) → IsTold (do x ← expr_of sight left; y ← expr_of sight right; f x y)
  two_told left right f h =
      bind_told (expr_of sight left) (λ x. do y ← expr_of sight right; f x y) (expr_told left) (λ x. bind_told (expr_of sight right) (f x) (expr_told right) (h x))

  -- AND
  and_told : (parts : List CondText) → AllByRecursion (λ part. IsTold (cond_of sight part)) parts → IsTold (cond_of sight (y.And parts))
  and_told parts all = subst (λ p. IsTold p) (sym (cond_of-And sight parts)) (then_told (in_order (map (cond_of sight) parts)) (λ xs. c.And xs) (in_order_told (cond_of sight) parts all))

  -- OR
  or_told : (parts : List CondText) → AllByRecursion (λ part. IsTold (cond_of sight part)) parts → IsTold (cond_of sight (y.Or parts))
  or_told parts all = subst (λ p. IsTold p) (sym (cond_of-Or sight parts)) (then_told (in_order (map (cond_of sight) parts)) (λ xs. c.Or xs) (in_order_told (cond_of sight) parts all))

  -- NOT
  not_told : (part : CondText) → IsTold (cond_of sight part) → IsTold (cond_of sight (y.Not part))
  not_told part h = subst (λ p. IsTold p) (sym (cond_of-Not sight part)) (then_told (cond_of sight part) (λ x. c.Not x) h)

  -- a comparison
  compare_told : (op : Cmp) (left right : ExprText) → IsTold (cond_of sight (y.Compare op left right))
  compare_told op left right =
      subst (λ p. IsTold p) (sym (cond_of-Compare sight op left right))
      (two_told left right (λ x y. do comparable x.1 y.1; pure (c.Compare op x.0 y.0)) (λ x y. then_told (comparable x.1 y.1) (λ _. c.Compare op x.0 y.0) (comparable_told x.1 y.1)))

  -- two kinds, and then a value
  kinds_told : {A : Type 0} (a b p q : Kind) (x : A) → IsTold (do same_kind a p; same_kind b q; pure x)
  kinds_told a b p q x = bind_told (same_kind a p) (λ _. do same_kind b q; pure x) (same_kind_told a p) (λ _. then_told (same_kind b q) (λ _. x) (same_kind_told b q))

  -- a predicate
  relate_told : (pred : Pred) (left right : ExprText) → IsTold (cond_of sight (y.Relate pred left right))
  relate_told pred left right =
      subst (λ p. IsTold p) (sym (cond_of-Relate sight pred left right))
      (two_told left right (λ x y. do same_kind x.1 k.Period; same_kind y.1 k.Period; pure (c.Relate pred x.0 y.0)) (λ x y. kinds_told x.1 y.1 k.Period k.Period (c.Relate pred x.0 y.0)))

  -- the test of a period for days
  empty_told : (period : ExprText) → IsTold (cond_of sight (y.Empty period))
  empty_told period =
      subst (λ p. IsTold p) (sym (cond_of-Empty sight period))
      (bind_told (expr_of sight period) (λ x. do same_kind x.1 k.Period; pure (c.Empty x.0)) (expr_told period) (λ x. then_told (same_kind x.1 k.Period) (λ _. c.Empty x.0) (same_kind_told x.1 k.Period)))

  -- the test of a period for a day
  contains_told : (period day : ExprText) → IsTold (cond_of sight (y.Contains period day))
  contains_told period day =
      subst (λ p. IsTold p) (sym (cond_of-Contains sight period day))
      (two_told period day (λ x y. do same_kind x.1 k.Period; same_kind y.1 k.Date; pure (c.Contains x.0 y.0)) (λ x y. kinds_told x.1 y.1 k.Period k.Date (c.Contains x.0 y.0)))

  -- a condition
  cond_told : (cond : CondText) → IsTold (cond_of sight cond)
  cond_told = induction-CondText (λ cond. IsTold (cond_of sight cond)) and_told or_told not_told compare_told relate_told empty_told contains_told

  -- a condition of ON
  conds_told : (cond : Option CondText) → IsTold (conds_of sight cond)
  conds_told (Some cond) = then_told (cond_of sight cond) (λ x. x ∷ []) (cond_told cond)
  conds_told None = tt

  -- a condition of WHERE
  where_told : (cond : Option CondText) → IsTold (where_of sight cond)
  where_told (Some cond) = cond_told cond
  where_told None = tt

  -- an item
  item_told : (n : ℕ) (item : ItemText) → IsTold (item_of sight n item)
  item_told n item = then_told (expr_of sight item.expr) (λ x. (x.0, record { name = item_name n item; kind = x.1 })) (expr_told item.expr)

  -- items
  items_told : (n : ℕ) (items : List ItemText) → IsTold (in_order (items_from sight n items))
  items_told n [] = tt
  items_told n (item ∷ items) =
      bind_told (item_of sight n item) (λ x. do xs ← in_order (items_from sight (n + 1) items); pure (x ∷ xs)) (item_told n item) (λ x. then_told (in_order (items_from sight (n + 1) items)) (λ xs. x ∷ xs) (items_told (n + 1) items))

-- a name
known_told : (name : List ℕ) (asked : Option (List Column)) → IsTold (known_columns name asked)
known_told name (Some columns) = tt
known_told name None = refl

-- an alias
unused_told : (alias : List ℕ) (items : List Item) → IsTold (unused alias items)
unused_told alias items = unless_told (not (list_any (λ item. bytes_eq item.0 alias) items)) (r.NameTaken alias) refl

-- a name and its alias, and then what is made of its columns
named_told : {A : Type 0} (name alias : List ℕ) (asked : Option (List Column)) (items : List Item) (f : List Column → Checked A) → ((columns : List Column) → IsTold (f columns))
    → IsTold (do columns ← known_columns name asked; unused alias items; f columns)
named_told name alias asked items f h =
    bind_told (known_columns name asked) (λ columns. do unused alias items; f columns) (known_told name asked) (λ columns.
    bind_told (unused alias items) (λ _. f columns) (unused_told alias items) (λ _. h columns))

-- a table of FROM
table_told : (schemas : Schemas) (from : From) (t : FromText) → IsTold (with_table schemas from t)
table_told schemas from t =
    let alias = alias_of t.name t.alias in
    named_told t.name alias (schemas t.name) from.items (λ columns. do
      conds ← conds_of (sees (from.items ++ (alias, columns) ∷ [])) t.on
      pure (record { items = from.items ++ (alias, columns) ∷ []; tables = from.tables ++ record { name = t.name; schema = columns } ∷ []; conds = from.conds ++ conds })) (λ columns.
    then_told (conds_of (sees (from.items ++ (alias, columns) ∷ [])) t.on)
    (λ conds. record { items = from.items ++ (alias, columns) ∷ []; tables = from.tables ++ record { name = t.name; schema = columns } ∷ []; conds = from.conds ++ conds })
    (conds_told (sees (from.items ++ (alias, columns) ∷ [])) t.on))

-- EXISTS and NOT EXISTS
semi_told : (schemas : Schemas) (items : List Item) (s : SemiText) → IsTold (semi_of schemas items s)
semi_told schemas items s =
    let alias = alias_of s.name s.alias in
    named_told s.name alias (schemas s.name) items (λ columns. do
      cond ← where_of (sees_sub items (alias, columns)) s.cond
      pure (record { positive = s.positive; table = record { name = s.name; schema = columns }; cond = cond })) (λ columns.
    then_told (where_of (sees_sub items (alias, columns)) s.cond)
    (λ cond. record { positive = s.positive; table = record { name = s.name; schema = columns }; cond = cond })
    (where_told (sees_sub items (alias, columns)) s.cond))

-- the items of SELECT
select_told : (items : List Item) (list : ItemsText) → IsTold (items_of items list)
select_told items items_.Star = tt
select_told items (items_.List list) = items_told (sees items) 1 list

-- columns as a schema
schema_told : (columns : List Column) → IsTold (schema_of columns)
schema_told columns = then_told (within max_columns (length columns)) (λ _. columns) (within_told max_columns (length columns))

-- what a core is made of
abbrev made_core : From → List Cond → List Semi → List Shown → List Column → Core
made_core from conds semis items schema = record { tables = from.tables; cond = c.And (from.conds ++ conds); semis = semis; items = exprs_of items; schema = schema }

-- a SELECT
core_told : (schemas : Schemas) (core : CoreText) → IsTold (core_of schemas core)
core_told schemas core =
    bind_told (within max_tables (length core.tables)) (λ _. do from ← from_of schemas core.tables; after_from from) (within_told max_tables (length core.tables)) (λ _.
    bind_told (from_of schemas core.tables) after_from (in_turn_told (with_table schemas) (table_told schemas) no_tables core.tables) (λ from.
    bind_told (conds_of (sees from.items) core.cond) (after_where from) (conds_told (sees from.items) core.cond) (λ conds.
    bind_told (in_order (map (semi_of schemas from.items) core.semis)) (after_semis from conds) (in_order_told (semi_of schemas from.items) core.semis (each_holds (λ s. IsTold (semi_of schemas from.items s)) (semi_told schemas from.items) core.semis)) (λ semis.
    bind_told (items_of from.items core.items) (after_items from conds semis) (select_told from.items core.items) (λ items.
    then_told (schema_of (columns_of items)) (made_core from conds semis items) (schema_told (columns_of items)))))))
  where
    after_items : From → List Cond → List Semi → List Shown → Checked Core
    after_items from conds semis items = do schema ← schema_of (columns_of items); pure (made_core from conds semis items schema)

    after_semis : From → List Cond → List Semi → Checked Core
    after_semis from conds semis = do items ← items_of from.items core.items; after_items from conds semis items

    after_where : From → List Cond → Checked Core
    after_where from conds = do semis ← in_order (map (semi_of schemas from.items) core.semis); after_semis from conds semis

    after_from : From → Checked Core
    after_from from = do conds ← conds_of (sees from.items) core.cond; after_where from conds

-- a further SELECT
rest_told : (schemas : Schemas) (first : Core) (rest : RestText) → IsTold (rest_of schemas first rest)
rest_told schemas first rest =
    bind_told (core_of schemas rest.core) (λ core. do agree (kinds_of core.schema) (kinds_of first.schema); pure (record { op = rest.op; core = core })) (core_told schemas rest.core) (λ core.
    then_told (agree (kinds_of core.schema) (kinds_of first.schema)) (λ _. record { op = rest.op; core = core }) (agree_told (kinds_of core.schema) (kinds_of first.schema)))

-- a query
query_told : (schemas : Schemas) (query : QueryText) → IsTold (query_of schemas query)
query_told schemas query =
    bind_told (core_of schemas query.first) (λ first. do rest ← in_order (map (rest_of schemas first) query.rest); pure (record { first = first; rest = rest })) (core_told schemas query.first) (λ first.
    then_told (in_order (map (rest_of schemas first) query.rest)) (λ rest. record { first = first; rest = rest })
    (in_order_told (rest_of schemas first) query.rest (each_holds (λ rest. IsTold (rest_of schemas first rest)) (rest_told schemas first) query.rest)))

-- a name that is not known
new_told : (known : Known) (name : List ℕ) → IsTold (spec.new_name known name)
new_told known name = by_case (known name)
  where
    by_case : (k : Option (What × List Column)) → IsTold (spec.not_known name k)
    by_case None = tt
    by_case (Some k) = refl

-- columns with one more
with_column_told : (before : List Column) (column : Column) → IsTold (spec.with_column before column)
with_column_told before column =
    then_told (spec.new_column column.name before) (λ _. before ++ column ∷ []) (unless_told (not (list_any (λ other. bytes_eq other.name column.name) before)) (r.NameTaken column.name) refl)

-- assignments with one more
with_set_told : (sight : Sight) (before : List Assign) (set : SetText) → IsTold (spec.with_set sight before set)
with_set_told sight before set =
    then_told (spec.set_of sight before set) (λ one. before ++ one ∷ [])
    (bind_told (found sight None set.column) after_column (found_told sight None set.column) (λ column.
    bind_told (unless (not (list_any (λ other. other.column == column.0) before)) (r.NameTaken set.column)) (λ _. after_test column)
    (unless_told (not (list_any (λ other. other.column == column.0) before)) (r.NameTaken set.column) refl) (λ _.
    bind_told (expr_of sight set.expr) (after_expr column) (expr_told sight set.expr) (λ value.
    then_told (same_kind value.1 column.1) (λ _. record { column = column.0; expr = value.0 }) (same_kind_told value.1 column.1)))))
  where
    after_expr : Found → Kinded → Checked Assign
    after_expr column value = do same_kind value.1 column.1; pure (record { column = column.0; expr = value.0 })

    after_test : Found → Checked Assign
    after_test column = do value ← expr_of sight set.expr; after_expr column value

    after_column : Found → Checked Assign
    after_column column = do unless (not (list_any (λ other. other.column == column.0) before)) (r.NameTaken set.column); after_test column

-- a statement
pub statement_told : (known : Known) (stmt : Stmt) → IsTold (spec.checked known stmt)
statement_told known (s.Create name columns) =
    bind_told (spec.new_name known name) (λ _. do within max_columns (length columns); xs ← spec.new_columns columns; pure (t.Create name xs)) (new_told known name) (λ _.
    bind_told (within max_columns (length columns)) (λ _. do xs ← spec.new_columns columns; pure (t.Create name xs)) (within_told max_columns (length columns)) (λ _.
    then_told (spec.new_columns columns) (λ xs. t.Create name xs) (in_turn_told spec.with_column with_column_told [] columns)))
statement_told known (s.Insert name rows) =
    bind_told (spec.table_columns known name) (λ columns. do on_each (spec.tuple_of columns) rows; pure (t.Insert name rows)) (known_told name (tables_of known name)) (λ columns.
    then_told (on_each (spec.tuple_of columns) rows) (λ _. t.Insert name rows) (in_turn_told (λ _ row. spec.tuple_of columns row) (λ _ row. agree_told (map kind_of row) (kinds_of columns)) tt rows))
statement_told known (s.Delete name cond) =
    bind_told (spec.table_columns known name) (λ columns. do x ← where_of (spec.sees_table name columns) cond; pure (t.Delete name x)) (known_told name (tables_of known name)) (λ columns.
    then_told (where_of (spec.sees_table name columns) cond) (λ x. t.Delete name x) (where_told (spec.sees_table name columns) cond))
statement_told known (s.Update name sets cond) =
    bind_told (spec.table_columns known name) (λ columns. do xs ← spec.sets_of (spec.sees_table name columns) sets; x ← where_of (spec.sees_table name columns) cond; pure (t.Update name xs x)) (known_told name (tables_of known name)) (λ columns.
    bind_told (spec.sets_of (spec.sees_table name columns) sets) (λ xs. do x ← where_of (spec.sees_table name columns) cond; pure (t.Update name xs x))
    (in_turn_told (spec.with_set (spec.sees_table name columns)) (with_set_told (spec.sees_table name columns)) [] sets) (λ xs.
    then_told (where_of (spec.sees_table name columns) cond) (λ x. t.Update name xs x) (where_told (spec.sees_table name columns) cond)))
statement_told known (s.Drop name) = then_told (spec.named_columns known name) (λ _. t.Drop name) (known_told name (schemas_of known name))
statement_told known s.Tables = tt
statement_told known (s.Keep name query) =
    bind_told (spec.new_name known name) (λ _. do q ← query_of (schemas_of known) query; pure (t.Keep name q)) (new_told known name) (λ _.
    then_told (query_of (schemas_of known) query) (λ q. t.Keep name q) (query_told (schemas_of known) query))
statement_told known (s.PrintName name day) = then_told (spec.named_columns known name) (λ _. t.PrintName name day) (known_told name (schemas_of known name))
statement_told known (s.PrintQuery query day) = then_told (query_of (schemas_of known) query) (λ q. t.PrintQuery q day) (query_told (schemas_of known) query)
statement_told known (s.Save name file) = then_told (spec.named_columns known name) (λ _. t.Save name file) (known_told name (schemas_of known name))
statement_told known (s.OpenFile name file) = then_told (spec.new_name known name) (λ _. t.OpenFile name file) (new_told known name)
statement_told known (s.ImportFile name file) = then_told (spec.table_columns known name) (λ _. t.ImportFile name file) (known_told name (tables_of known name))
statement_told known (s.Explain query) = then_told (query_of (schemas_of known) query) (λ q. t.Explain q) (query_told (schemas_of known) query)
statement_told known (s.Valid name day) = then_told (spec.named_columns known name) (λ _. t.Valid name day) (known_told name (schemas_of known name))
statement_told known (s.Live name query) =
    bind_told (spec.new_name known name) (λ _. do q ← query_of (tables_of known) query; pure (t.Live name q)) (new_told known name) (λ _.
    then_told (query_of (tables_of known) query) (λ q. t.Live name q) (query_told (tables_of known) query))

-- Each reader of statements is its rule.
use Rattle.std.specs.Result.{result_ok}
use Rattle.std.proofs.Common.{◌≡◌, inl, inr, Result, Ok, Err, IfOk, OnErr, ℕ, ℤ, pos, Bool, true, false, ◌&&◌, ◌||◌, if◌then◌else◌, int_le, List, Option, Some, None, refl, sym, ap, ◌∙◌, subst, drop, arith}
use Rattle.std.proofs.lemmas.Option.{same_Some}
use Rattle.std.proofs.lemmas.Int.{ints}
use Rattle.og_base.specs.Calendar.{IsDayText, IsRefDayText, IsRefDay, first_day, last_day}
use Rattle.og_base.proofs.DayTexts.{civil_in_range}
use Rattle.og_syntax.specs.declared.lexeme.Sort.{Sort}
use Rattle.og_syntax.specs.declared.lexeme.Sort.TheVariants as k
use Rattle.og_syntax.specs.declared.lexeme.Lexeme.{Lexeme}
use Rattle.og_syntax.specs.declared.tree.Stmt.TheVariants as s
use Rattle.og_syntax.specs.Lexemes.{is, same_sort, sort_at, sees}
use Rattle.og_syntax.specs.Reading.{Reads, and_then, past}
use Rattle.og_syntax.specs.Reading as reading
use Rattle.og_syntax.specs.Rules.{Rule}
use Rattle.og_syntax.specs.Rules as rules_
use Rattle.og_syntax.specs.Follow.{anything, ahead, after_expr, after_query}
use Rattle.og_syntax.specs.TextValues.{day_of}
use Rattle.og_syntax.proofs.TextValues.{day_of-sound, day_of-complete}
use Rattle.og_syntax.proofs.Exact.{Exact, bind_sound, bind_lead, exact-given, exact-pure, exact-tok, exact-worded, exact-bind, exact-then, exact-after, exact-map, exact-loose, exact-ends, exact-any, exact-choose, exact-optional, exact-joined, exact-single}
use Rattle.og_syntax.proofs.LiteralRules.{exact-name, exact-quoted, exact-text, exact-lit}
use Rattle.og_syntax.proofs.ExpressionRules.{exact-expr}
use Rattle.og_syntax.proofs.ConditionRules.{exact-cond}
use Rattle.og_syntax.proofs.CoreRules.{exact-query}
use Rattle.og_parse.specs.Statements.{kind_of, column_of, set_of, IsDayOf, IsColdef, IsTuple, IsSet, IsWhereCond, IsAsOfText, IsAsOf, IsCreate, IsInsert, IsDelete, IsUpdate, IsDrop, IsChange, IsSave, IsOpen, IsImport, IsFileStatement, IsTables, IsKeep, IsNameAsOf, IsQueryAsOf, IsPrint, IsExplain, IsValid, IsLive, IsAnswer, IsBody, IsStatement}
use Rattle.og_parse.specs.StatementReader.{ref_day_from, ref_day_of, day_by, coldef, coldefs, lits, tuple, tuples, set, sets, where_cond, as_of_text, as_of, create, insert, delete, update, drop_name, change, begins_change, save, open_file, import_into, file_statement, begins_file_statement, tables_alone, keep, name_as_of, query_as_of, print, explain, valid, live, answer, body, statement}

-- ---- the day after AS OF

-- what is kept is a reference day
in_days : (n m : ℤ) → (if int_le first_day n && int_le n last_day then Some n else None) ≡ Some m → IsRefDay n × (n ≡ m)
in_days n m e = go (int_le first_day n) (int_le n last_day) refl refl e
  where
    go : (a b : Bool) → int_le first_day n ≡ a → int_le n last_day ≡ b → (if a && b then Some n else None) ≡ Some m → IsRefDay n × (n ≡ m)
    go true true f g h = ((grind (arith, ints, f), grind (arith, ints, g)), same_Some n m h)
    go true false f g h = cc
    go false b f g h = cc

-- a day text of a reference day
only_ref : (text : List ℕ) (n : ℤ) → IsDayText text n → IsRefDay n → IsRefDayText text n
only_ref text n (inl a) r = absurd (omega (arith, ints, a.1, r.0))
only_ref text n (inr (inl a)) r = absurd (omega (arith, ints, a.1, r.1))
only_ref text n (inr (inr a)) r = a

-- the day that is found is the day of the text
pub ref_day_of-sound : (text : List ℕ) (n : ℤ) → ref_day_of text ≡ Some n → IsRefDayText text n
unfolding ref_day_of
ref_day_of-sound text n e = go (day_of text) refl e
  where
    go : (o : Option ℤ) → day_of text ≡ o → ref_day_from o ≡ Some n → IsRefDayText text n
    go (Some m) h e = let d = in_days m n e in subst (λ m. IsRefDayText text m) d.1 (only_ref text m (day_of-sound text m h) d.0)
    go None h e = cc

-- a reference day is kept
in_range : (n : ℤ) → IsRefDay n → ref_day_from (Some n) ≡ Some n
in_range n r = let low : int_le first_day n ≡ true = grind (arith, ints, r.0) in let high : int_le n last_day ≡ true = grind (arith, ints, r.1) in
    ap (λ b. if b && int_le n last_day then Some n else None) low ∙ ap (λ b. if b then Some n else None) high

-- the day of a text is found
pub ref_day_of-complete : (text : List ℕ) (n : ℤ) → IsRefDayText text n → ref_day_of text ≡ Some n
unfolding ref_day_of
ref_day_of-complete text n h =
    ap ref_day_from (day_of-complete text n (inr (inr h))) ∙ in_range n (civil_in_range text n h)

-- a day that is read is by the rule
day_right : (strict : Bool) (z : List ℕ) (n : ℤ) → day_by strict (ref_day_of z) ≡ Some n → IsDayOf strict z n
day_right true z n e = ref_day_of-sound z n e
day_right false z n e = sym (same_Some (pos 0) n e)

-- a day by the rule is read
day_left : (strict : Bool) (z : List ℕ) (n : ℤ) → IsDayOf strict z n → day_by strict (ref_day_of z) ≡ Some n
day_left true z n h = ref_day_of-complete z n h
day_left false z n h = ap Some (sym h)

pub exact-as_of_text : (script : List ℕ) → Exact false (is k.As) anything (as_of_text script) (IsAsOfText script)
unfolding as_of_text IsAsOfText same_sort
exact-as_of_text script = exact-after k.As refl (exact-after k.Of refl (exact-after k.Date refl (exact-quoted script)))

pub exact-as_of : (script : List ℕ) (strict : Bool) → Exact false (is k.As) anything (as_of script strict) (IsAsOf script strict)
unfolding as_of IsAsOf same_sort
exact-as_of script strict =
    exact-loose
    (exact-then (exact-as_of_text script) (λ z. exact-given (day_by strict (ref_day_of z)) (IsDayOf strict z) (day_right strict z) (day_left strict z)))
    refl refl

-- ---- lists

pub exact-coldef : (script : List ℕ) → Exact false (is k.Name) anything (coldef script) (IsColdef script)
unfolding coldef IsColdef same_sort
exact-coldef script = exact-loose (exact-then (exact-name script) (λ x. exact-map (exact-worded kind_of refl) (column_of x))) refl refl

pub exact-tuple : (script : List ℕ) (strict : Bool) → Exact false (is k.LeftParen) anything (tuple script strict) (IsTuple script strict)
unfolding tuple lits IsTuple same_sort
exact-tuple script strict = exact-single (exact-joined (exact-lit script strict) (exact-after k.Comma refl (exact-lit script strict)) refl refl) refl

pub exact-set : (script : List ℕ) (strict : Bool) → Exact false (is k.Name) after_expr (set script strict) (IsSet script strict)
unfolding set IsSet same_sort
exact-set script strict =
    exact-loose (exact-then (exact-name script) (λ x. exact-after k.Equal refl (exact-map (exact-expr script strict) (set_of x)))) refl refl

-- ---- statements that change tables

-- a semicolon comes
abbrev pub ends : Sort → Bool → Bool
ends a named = is k.Semicolon a

pub exact-create : (script : List ℕ) → Exact false (is k.Create) ends (create script) (IsCreate script)
unfolding create coldefs IsCreate same_sort
exact-create script =
    exact-after k.Create refl (exact-after k.Table refl
    (exact-then (exact-name script) (λ x. exact-map (exact-any (exact-single (exact-joined (exact-coldef script) (exact-after k.Comma refl (exact-coldef script)) refl refl) refl)) (s.Create x))))

pub exact-insert : (script : List ℕ) (strict : Bool) → Exact false (is k.Insert) ends (insert script strict) (IsInsert script strict)
unfolding insert tuples IsInsert same_sort
exact-insert script strict =
    exact-after k.Insert refl (exact-after k.Into refl
    (exact-then (exact-name script) (λ x. exact-after k.Values refl
    (exact-map (exact-ends ends (exact-joined (exact-tuple script strict) (exact-after k.Comma refl (exact-tuple script strict)) refl refl) refl) (s.Insert x)))))

pub exact-where_cond : (script : List ℕ) (strict : Bool) → Exact true (is k.Where) ends (where_cond script strict) (IsWhereCond script strict)
unfolding where_cond IsWhereCond same_sort
exact-where_cond script strict = exact-ends ends (exact-optional (is k.Where) (exact-after k.Where refl (exact-cond script strict)) refl) refl

pub exact-delete : (script : List ℕ) (strict : Bool) → Exact false (is k.Delete) ends (delete script strict) (IsDelete script strict)
unfolding delete IsDelete same_sort
exact-delete script strict =
    exact-after k.Delete refl (exact-after k.From refl (exact-then (exact-name script) (λ x. exact-map (exact-where_cond script strict) (s.Delete x))))

pub exact-update : (script : List ℕ) (strict : Bool) → Exact false (is k.Update) ends (update script strict) (IsUpdate script strict)
unfolding update sets IsUpdate same_sort
exact-update script strict =
    exact-after k.Update refl
    (exact-then (exact-name script) (λ x. exact-after k.Set refl
    (exact-bind (exact-joined (exact-set script strict) (exact-after k.Comma refl (exact-set script strict)) refl refl)
    (λ xs. exact-map (exact-where_cond script strict) (s.Update x xs)) refl)))

pub exact-drop_name : (script : List ℕ) → Exact false (is k.Drop) ends (drop_name script) (IsDrop script)
unfolding drop_name IsDrop same_sort
exact-drop_name script = exact-after k.Drop refl (exact-any (exact-map (exact-name script) s.Drop))

pub exact-change : (script : List ℕ) (strict : Bool) → Exact false begins_change ends (change script strict) (IsChange script strict)
unfolding change IsChange same_sort
exact-change script strict =
    exact-loose
    (exact-choose (is k.Create) (exact-create script)
    (exact-choose (is k.Insert) (exact-insert script strict)
    (exact-choose (is k.Delete) (exact-delete script strict)
    (exact-choose (is k.Update) (exact-update script strict) (exact-drop_name script) refl refl) refl refl) refl refl) refl refl)
    refl refl

-- ---- statements of files

pub exact-save : (script : List ℕ) → Exact false (is k.Save) ends (save script) (IsSave script)
unfolding save IsSave same_sort
exact-save script =
    exact-after k.Save refl (exact-then (exact-name script) (λ x. exact-after k.To refl (exact-any (exact-map (exact-text script) (s.Save x)))))

pub exact-open_file : (script : List ℕ) → Exact false (is k.Open) ends (open_file script) (IsOpen script)
unfolding open_file IsOpen same_sort
exact-open_file script =
    exact-after k.Open refl (exact-then (exact-name script) (λ x. exact-after k.From refl (exact-any (exact-map (exact-text script) (s.OpenFile x)))))

pub exact-import_into : (script : List ℕ) → Exact false (is k.Import) ends (import_into script) (IsImport script)
unfolding import_into IsImport same_sort
exact-import_into script =
    exact-after k.Import refl (exact-after k.Into refl
    (exact-then (exact-name script) (λ x. exact-after k.From refl (exact-any (exact-map (exact-text script) (s.ImportFile x))))))

pub exact-file_statement : (script : List ℕ) → Exact false begins_file_statement ends (file_statement script) (IsFileStatement script)
unfolding file_statement IsFileStatement same_sort
exact-file_statement script =
    exact-loose
    (exact-choose (is k.Save) (exact-save script) (exact-choose (is k.Open) (exact-open_file script) (exact-import_into script) refl refl) refl refl)
    refl refl

-- ---- statements that tell or keep something

pub exact-tables_alone : Exact false (is k.Tables) ends tables_alone IsTables
unfolding tables_alone IsTables same_sort
exact-tables_alone = exact-any (exact-map (exact-tok k.Tables refl) (λ _. s.Tables))

pub exact-keep : (script : List ℕ) (strict : Bool) → Exact false (is k.Keep) ends (keep script strict) (IsKeep script strict)
unfolding keep IsKeep same_sort
exact-keep script strict =
    exact-after k.Keep refl (exact-then (exact-name script) (λ x. exact-after k.As refl
    (exact-map (exact-ends ends (exact-query script strict false) refl) (s.Keep x))))

pub exact-name_as_of : (script : List ℕ) (strict : Bool) → Exact false (is k.Name) ends (name_as_of script strict) (IsNameAsOf script strict)
unfolding name_as_of IsNameAsOf same_sort
exact-name_as_of script strict =
    exact-loose (exact-then (exact-name script) (λ x. exact-map (exact-as_of script strict) (s.PrintName x))) refl refl

-- the one, and then the other, which comes only where it may follow the one
exact-bind_by : {A B : Type 0} {e d : Bool} {f g : Sort → Bool} {F G : Sort → Bool → Bool} {p : Reads A} {P : Rule A} {q : A → Reads B} {Q : A → Rule B}
    → Exact e f F p P → ((x : A) → Exact d g G (q x) (Q x)) → ((x : A) (ts : List Lexeme) (y : B) (rest : List Lexeme) → Q x ts y rest → ahead F ts ≡ true)
    → Exact (e && d) (λ a. f a || (e && g a)) G (reading.bind p q) (rules_.Bind P Q)
exact-bind_by {A} {B} {e} {d} {f} {g} {F} {G} {p} {P} {q} {Q} E D follows = record {
  sound = bind_sound p P q Q E.sound (λ x. (D x).sound);
  complete = λ ts y rest h after.
      ap (λ r. and_then r q) (E.complete ts h.0 h.1 h.2 (follows h.0 h.1 y rest h.3)) ∙ (D h.0).complete h.1 y rest h.3 after;
  lead = bind_lead E D;
}

-- AS and OF may come after a query, though AS and a name may not
as_of_follows : (script : List ℕ) (strict : Bool) (ts : List Lexeme) (n : ℤ) (rest : List Lexeme) → IsAsOf script strict ts n rest → ahead after_query ts ≡ true
unfolding IsAsOf IsAsOfText sees same_sort
as_of_follows script strict ts n rest w =
    let h = w.2 in
    ap (λ a. after_query a (sees k.Name (drop 1 ts))) (ap sort_at h.2.1 ∙ h.2.2)
    ∙ ap (after_query k.As)
    (ap (λ ts. sees k.Name (drop 1 ts)) h.2.1 ∙ ap (sees k.Name) h.3.2.1 ∙ ap (λ a. same_sort a k.Name) h.3.2.2)

pub exact-query_as_of : (script : List ℕ) (strict : Bool) → Exact false (is k.Select) ends (query_as_of script strict) (IsQueryAsOf script strict)
unfolding query_as_of IsQueryAsOf same_sort
exact-query_as_of script strict =
    exact-loose
    (exact-bind_by (exact-query script strict false) (λ q. exact-map (exact-as_of script strict) (s.PrintQuery q))
    (λ q ts y rest h. as_of_follows script strict ts h.0 h.1 h.2))
    refl refl

pub exact-print : (script : List ℕ) (strict : Bool) → Exact false (is k.Print) ends (print script strict) (IsPrint script strict)
unfolding print IsPrint same_sort
exact-print script strict =
    exact-after k.Print refl (exact-choose (is k.Name) (exact-name_as_of script strict) (exact-query_as_of script strict) refl refl)

pub exact-explain : (script : List ℕ) (strict : Bool) → Exact false (is k.Explain) ends (explain script strict) (IsExplain script strict)
unfolding explain IsExplain same_sort
exact-explain script strict = exact-after k.Explain refl (exact-map (exact-ends ends (exact-query script strict false) refl) s.Explain)

pub exact-valid : (script : List ℕ) (strict : Bool) → Exact false (is k.Valid) ends (valid script strict) (IsValid script strict)
unfolding valid IsValid same_sort
exact-valid script strict =
    exact-after k.Valid refl (exact-then (exact-name script) (λ x. exact-any (exact-map (exact-as_of script strict) (s.Valid x))))

pub exact-live : (script : List ℕ) (strict : Bool) → Exact false (is k.Live) ends (live script strict) (IsLive script strict)
unfolding live IsLive same_sort
exact-live script strict =
    exact-after k.Live refl (exact-then (exact-name script) (λ x. exact-after k.As refl
    (exact-map (exact-ends ends (exact-query script strict true) refl) (s.Live x))))

abbrev pub begins_answer : Sort → Bool
begins_answer a = is k.Tables a || is k.Keep a || is k.Print a || is k.Explain a || is k.Valid a || is k.Live a

pub exact-answer : (script : List ℕ) (strict : Bool) → Exact false begins_answer ends (answer script strict) (IsAnswer script strict)
unfolding answer IsAnswer same_sort
exact-answer script strict =
    exact-loose
    (exact-choose (is k.Tables) exact-tables_alone
    (exact-choose (is k.Keep) (exact-keep script strict)
    (exact-choose (is k.Print) (exact-print script strict)
    (exact-choose (is k.Explain) (exact-explain script strict)
    (exact-choose (is k.Valid) (exact-valid script strict) (exact-live script strict) refl refl) refl refl) refl refl) refl refl) refl refl)
    refl refl

-- ---- any statement

pub exact-body : (script : List ℕ) (strict : Bool) → Exact false (λ a. begins_change a || begins_file_statement a || begins_answer a) ends (body script strict) (IsBody script strict)
unfolding body IsBody same_sort
exact-body script strict =
    exact-loose
    (exact-choose begins_change (exact-change script strict)
    (exact-choose begins_file_statement (exact-file_statement script) (exact-answer script strict) refl refl) refl refl)
    refl refl

pub exact-statement : (script : List ℕ) (strict : Bool) → Exact false (λ a. begins_change a || begins_file_statement a || begins_answer a) anything (statement script strict) (IsStatement script strict)
unfolding statement IsStatement same_sort
exact-statement script strict =
    exact-loose (exact-bind (exact-body script strict) (λ x. exact-after k.Semicolon refl (exact-pure x)) refl) refl refl

-- what the reading function answers
pub ref_day_read : {E : Type 0} (text : List ℕ) (r : Result ℤ E) → IfOk r (IsRefDayText text) → OnErr r ((n : ℤ) → ¬ IsRefDayText text n) → result_ok r ≡ ref_day_of text
ref_day_read text (Ok n) is isnt = sym (ref_day_of-complete text n is)
ref_day_read text (Err e) is isnt = go (ref_day_of text) refl
  where
    go : (o : Option ℤ) → ref_day_of text ≡ o → None ≡ o
    go (Some n) h = absurd (isnt n (ref_day_of-sound text n h))
    go None h = refl

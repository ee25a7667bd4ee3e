-- The run of the statements that are left, and the pieces of those before.
use Rattle.std.proofs.Common.{◌≡◌, ◌++◌, ◌≤◌, ℕ, suc, List, [], ◌∷◌, length, drop, Option, Some, Result, Ok, Err, refl, sym, ap, ◌∙◌, subst}
use Rattle.std.specs.List.{AllByRecursion, flat_map}
use Rattle.std.proofs.lemmas.List.{append_assoc, append-nil, drop_all}
use Rattle.std.proofs.lemmas.List.Elements.{All-from_recursion, recursion_from_All}
use Rattle.og_syntax.specs.declared.tree.Stmt.{Stmt}
use Rattle.og_io.specs.Folders.{Folder}
use Rattle.og_db.specs.Effects.{Effect}
use Rattle.og_faults.specs.Refusals.{Refused}
use Rattle.og_faults.specs.declared.stop.Stop.TheVariants as stops
use Rattle.og_session.specs.Contents.{AreContents, Contents, outcome}
use Rattle.og_session.specs.Runs.{Run, after_outcome, run_from}
use Rattle.og_outline.specs.Outlines.{IsOutlineOf, Outlined}
use Rattle.og_sql.specs.Translations.{AreAtStart, ArePieces, AreUnder, EndsAfter, IsCarried, IsHeldAt, IsInside, IsUnder, StepEnds}
use Rattle.og_sql.specs.declared.stop.SqlStop.{SqlStop}
use Rattle.og_sql.specs.declared.stop.SqlStop.TheVariants as sql

-- ---- the pieces

-- one item more
length-push : {A : Type 0} (xs : List A) (x : A) → length (xs ++ x ∷ []) ≡ suc (length xs)
length-push [] x = refl
length-push (y ∷ xs) x = ap suc (length-push xs x)

flat-push : (pieces : List (List ℕ)) (piece : List ℕ) → flat_map (λ piece. piece) (pieces ++ piece ∷ []) ≡ flat_map (λ piece. piece) pieces ++ piece
flat-push [] piece = append-nil piece
flat-push (p ∷ pieces) piece = ap (λ t. p ++ t) (flat-push pieces piece) ∙ sym (append_assoc p (flat_map (λ piece. piece) pieces) piece)

-- a piece more, of the statement that is next
under-push : (stmts rest : List Stmt) (pieces : List (List ℕ)) (stmt : Stmt) (piece : List ℕ) → AreUnder stmts pieces → drop (length pieces) stmts ≡ stmt ∷ rest → IsUnder stmt piece → AreUnder stmts (pieces ++ piece ∷ [])
under-push [] rest [] stmt piece are next is = cc next
under-push (s ∷ stmts) rest [] stmt piece are next is = (subst (λ t. IsUnder t piece) (sym (first next)) is, tt)
  where
    first : s ∷ stmts ≡ stmt ∷ rest → s ≡ stmt
    first e = cc e
under-push [] rest (p ∷ pieces) stmt piece are next is = absurd are
under-push (s ∷ stmts) rest (p ∷ pieces) stmt piece are next is = (are.0, under-push stmts rest pieces stmt piece are.1 next is)

all-push : {A : Type 0} (P : A → Type 0) (xs : List A) (x : A) → AllByRecursion P xs → P x → AllByRecursion P (xs ++ x ∷ [])
all-push P [] x all is = (is, tt)
all-push P (y ∷ xs) x all is = (all.0, all-push P xs x all.1 is)

pieces-push : (stmts rest : List Stmt) (done : List Effect) (pieces : List (List ℕ)) (stmt : Stmt) (effect : Effect) (piece : List ℕ) → ArePieces stmts done pieces → drop (length done) stmts ≡ stmt ∷ rest
    → IsUnder stmt piece → IsInside effect → ArePieces stmts (done ++ effect ∷ []) (pieces ++ piece ∷ [])
pieces-push stmts rest done pieces stmt effect piece are next is inside = record {
  under = under-push stmts rest pieces stmt piece are.under (ap (λ k. drop k stmts) are.count ∙ next) is;
  count = length-push pieces piece ∙ ap suc are.count ∙ sym (length-push done effect);
  inside = All-from_recursion IsInside (done ++ effect ∷ []) (all-push IsInside done effect (recursion_from_All IsInside done are.inside) inside);
}

-- ---- the run

module _ (contents : Contents) where
  -- a run carries out those before it, and more
  run_from-done : (n : ℕ) (before : List Effect) (stmts : List Stmt) → (more : List Effect) × ((run_from contents n before stmts).done ≡ before ++ more)
  run_from-done n before [] = ([], sym (append-nil before))
  run_from-done n before (stmt ∷ stmts) = at (outcome contents before stmt) (λ effect. run_from-done (suc n) (before ++ effect ∷ []) stmts)
    where
      at : (o : Result Effect Refused) → ((effect : Effect) → (more : List Effect) × ((run_from contents (suc n) (before ++ effect ∷ []) stmts).done ≡ (before ++ effect ∷ []) ++ more))
          → (more : List Effect) × ((after_outcome n before (λ effect. run_from contents (suc n) (before ++ effect ∷ []) stmts) o).done ≡ before ++ more)
      at (Ok effect) rest = let more = rest effect in (effect ∷ more.0, more.1 ∙ append_assoc before (effect ∷ []) more.0)
      at (Err refusal) rest = ([], sym (append-nil before))

  module _ (start : Folder) (stmts : List Stmt) where
    -- the run of all statements
    abbrev whole_run : Run
    whole_run = run_from contents 1 [] stmts

    -- after that many statements: what is held, the run of those that are left, and the pieces of those before
    pub record IsAt (i : ℕ) (o : Outlined) (folder : Option Folder) (text : List ℕ) : Type 0 where
      pub before : List Effect
      pub held : IsHeldAt start contents before o folder
      pub count : length before ≡ i
      pub rest : whole_run ≡ run_from contents (suc i) before (drop i stmts)
      pub pieces : List (List ℕ)
      pub are : ArePieces stmts before pieces
      pub whole : text ≡ flat_map (λ piece. piece) pieces

    -- no statement was begun
    pub at_start : (o : Outlined) (folder : Option Folder) (text : List ℕ) → AreContents start contents → folder ≡ Some start → IsOutlineOf o [] → text ≡ [] → IsAt 0 o folder text
    at_start o folder text holds told outline none = record {
      before = [];
      held = record { holds = holds; outline = outline; files = subst (AreAtStart start) (sym told) (λ name. refl) };
      count = refl;
      rest = refl;
      pieces = [];
      are = record { under = tt; count = refl; inside = All-from_recursion IsInside [] tt };
      whole = none;
    }

    module _ (i n : ℕ) (one : suc i ≡ n) (o : Outlined) (folder : Option Folder) (text : List ℕ) (at : IsAt i o folder text) (stmt : Stmt) (rest : List Stmt) (left : drop i stmts ≡ stmt ∷ rest) where
      -- what the statement should do
      abbrev todo : Result Effect Refused
      todo = outcome contents at.before stmt

      -- the run from it on, by what it should do
      abbrev run_by : Result Effect Refused → Run
      run_by r = after_outcome n at.before (λ effect. run_from contents (suc n) (at.before ++ effect ∷ []) rest) r

      run : whole_run ≡ run_by todo
      run = at.rest ∙ ap (λ k. run_from contents k at.before (drop i stmts)) one ∙ ap (run_from contents n at.before) left

      -- a statement more was carried out
      pub turn-more : (now : Outlined) (files : Option Folder) (new : List ℕ) → drop n stmts ≡ rest → AreAtStart start files → (piece : List ℕ) × IsUnder stmt piece × (new ≡ text ++ piece)
          → StepEnds {T = Unit {0}} n at.before todo now (Ok tt) → IsAt n now files new
      turn-more now files new right same (piece, under, more) (effect, good, inside, outline) = record {
        before = at.before ++ effect ∷ [];
        held = record { holds = at.held.holds; outline = outline; files = same };
        count = length-push at.before effect ∙ ap suc at.count ∙ one;
        rest = run ∙ ap run_by good ∙ ap (run_from contents (suc n) (at.before ++ effect ∷ [])) (sym right);
        pieces = at.pieces ++ piece ∷ [];
        are = pieces-push stmts rest at.before at.pieces stmt effect piece at.are (ap (λ k. drop k stmts) at.count ∙ left) under inside;
        whole = more ∙ ap (λ t. t ++ piece) at.whole ∙ sym (flat-push at.pieces piece);
      }

      -- the run was stopped at the statement
      pub turn-stopped : (now : Outlined) (new : List ℕ) (stop : SqlStop) → new ≡ text → StepEnds {T = Unit {0}} n at.before todo now (Err stop) → IsCarried stmts whole_run (Err stop) new
      turn-stopped now new stop same ends = record { before = at.before; pieces = at.pieces; are = at.are; ends = by stop ends; whole = same ∙ at.whole }
        where
          more : (after : List Effect) × (whole_run.done ≡ at.before ++ after)
          more = let done = run_from-done (suc i) at.before (drop i stmts) in (done.0, ap (λ r. r.done) at.rest ∙ done.1)

          by : (s : SqlStop) → StepEnds {T = Unit {0}} n at.before todo now (Err s) → EndsAfter whole_run at.before (Err s)
          by (sql.Run (stops.Fault fault)) (refusal, bad, is) = (ap (λ r. r.done) (run ∙ ap run_by bad), ap (λ r. r.end) (run ∙ ap run_by bad) ∙ ap Err is)
          by (sql.Run stops.FileFault) h = more
          by (sql.Run stops.NoMemory) h = more
          by (sql.Run stops.ReadFault) h = absurd h
          by (sql.Run stops.WriteFault) h = absurd h
          by (sql.Outside m what) (effect, good, is, out) =
              let done = run_from-done (suc n) (at.before ++ effect ∷ []) rest in
              (effect, done.0, ap (λ r. r.done) (run ∙ ap run_by good) ∙ done.1 ∙ append_assoc at.before (effect ∷ []) done.0, is ∙ sym one ∙ ap suc (sym at.count), out)

    -- no statement is left
    pub turn-last : (i : ℕ) (o : Outlined) (folder : Option Folder) (text : List ℕ) → IsAt i o folder text → length stmts ≤ i → IsCarried stmts whole_run (Ok tt) text
    turn-last i o folder text at end = record { before = at.before; pieces = at.pieces; are = at.are; ends = (ap (λ r. r.done) all, ap (λ r. r.end) all); whole = at.whole }
      where
        all : whole_run ≡ record { done = at.before; end = Ok tt }
        all = at.rest ∙ ap (run_from contents (suc i) at.before) (drop_all i stmts end)

-- no statement was begun
pub not_begun : (stmts : List Stmt) (all : Run) (text : List ℕ) (stop : SqlStop) → text ≡ [] → EndsAfter all [] (Err stop) → IsCarried stmts all (Err stop) text
not_begun stmts all text stop none ends = record { before = []; pieces = []; are = record { under = tt; count = refl; inside = All-from_recursion IsInside [] tt }; ends = ends; whole = none }

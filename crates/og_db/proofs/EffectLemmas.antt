-- What statements make of a database and of the files that were saved, over what they make of the names.
use Rattle.std.proofs.Common.{◌≡◌, ◌++◌, ℕ, ℤ, Bool, true, false, cond, List, [], ◌∷◌, Option, Some, None, length, refl, sym, ap, ◌∙◌, subst, true≢false, arith}
use Rattle.std.specs.Bool.{⊤}
use Rattle.std.specs.Option.{option_map}
use Rattle.std.specs.Str.{bytes_eq}
use Rattle.std.proofs.lemmas.List.Sums.{fold-append}
use Rattle.og_base.specs.Calendar.{IsRefDay}
use Rattle.og_value.specs.Order.{row_order}
use Rattle.og_value.specs.Values.{row_at}
use Rattle.og_value.specs.declared.kind.What.TheVariants as what
use Rattle.og_value.specs.declared.schema.Column.{Column}
use Rattle.og_value.specs.declared.value.Value.{Value}
use Rattle.og_rel.specs.Relations.{relation_at}
use Rattle.og_query.specs.declared.typed.Typed.TheVariants as t
use Rattle.og_db.specs.Held.{Held, found, made_of, all_made_of}
use Rattle.og_db.specs.Database.{Relation, names_at}
use Rattle.og_db.specs.Effects.{Effect, Store, World, on_names, saved, reopened, opened, imported, kept_as, with_file, with_name, statement_names, ordinary_statement, world_of_day, statement_sizes, size_after, sizes_after}
use Rattle.og_db.specs.Live.{Live}
use Rattle.og_db.specs.Runs.{IsWithin, AreWithin, IsWorldOf, sizes_at, live_of}
use Rattle.og_db.specs.Statements.{OfNames}
use Rattle.og_db.proofs.LiveLemmas.{live_on_day, within-statement}
use Rattle.og_db.proofs.SizeLemmas.{within-refl, within-trans, within-push, within-added}
use Rattle.og_db.proofs.WorldLemmas.{all_made_of-push, found-made_of}

-- ---- what is made of what is held

module _ {V W : Type 0} (f : V → W) where
  -- a file more
  made_of-with_file : (file : List ℕ) (o : Option (Held V)) (files : List (Held V)) → all_made_of f (with_file file o files) ≡ with_file file (option_map (made_of f) o) (all_made_of f files)
  made_of-with_file file None files = refl
  made_of-with_file file (Some h) files = refl

  -- a name more
  made_of-with_name : (name : List ℕ) (o : Option (Held V)) (names : List (Held V)) → all_made_of f (with_name name o names) ≡ with_name name (option_map (made_of f) o) (all_made_of f names)
  made_of-with_name name None names = refl
  made_of-with_name name (Some h) names = all_made_of-push f names (kept_as name h)

  -- a file that holds what is found under a name
  pub file-made_of : (name file : List ℕ) (names files : List (Held V)) → all_made_of f (with_file file (found names name) files) ≡ with_file file (found (all_made_of f names) name) (all_made_of f files)
  file-made_of name file names files = made_of-with_file file (found names name) files ∙ ap (λ o. with_file file o (all_made_of f files)) (sym (found-made_of f names name))

  -- a name that holds what is found of a file
  pub name-made_of : (name file : List ℕ) (names files : List (Held V)) → all_made_of f (with_name name (found files file) names) ≡ with_name name (found (all_made_of f files) file) (all_made_of f names)
  name-made_of name file names files = made_of-with_name name (found files file) names ∙ ap (λ o. with_name name o (all_made_of f names)) (sym (found-made_of f files file))

-- ---- no more rows

-- what is found has no more rows
abbrev pub AreBoth : Option (Held ℕ) → Option (Held ℕ) → Type 0
AreBoth None None = ⊤
AreBoth (Some h) (Some m) = IsWithin h m
AreBoth _ _ = ⊥

pub within-found : (name : List ℕ) (a b : List (Held ℕ)) → AreWithin a b → AreBoth (found a name) (found b name)
within-found name [] [] v = tt
within-found name [] (m ∷ b) v = absurd v
within-found name (h ∷ a) [] v = absurd v
within-found name (h ∷ a) (m ∷ b) v = at (bytes_eq name h.name) (bytes_eq name m.name) (ap (bytes_eq name) v.0.name) (within-found name a b v.1)
  where
    at : (x y : Bool) → x ≡ y → AreBoth (found a name) (found b name) → AreBoth (cond x (Some h) (found a name)) (cond y (Some m) (found b name))
    at true true e rest = v.0
    at true false e rest = absurd (true≢false e)
    at false true e rest = absurd (true≢false (sym e))
    at false false e rest = rest

-- as a kept result of another name
within-kept_as : (name : List ℕ) (h m : Held ℕ) → IsWithin h m → IsWithin (kept_as name h) (kept_as name m)
within-kept_as name h m v = record { name = refl; what = ap (λ k. (what.Kept, k.1)) v.what; rows = v.rows }

within-with_file : (file : List ℕ) (x y : Option (Held ℕ)) (a b : List (Held ℕ)) → AreBoth x y → AreWithin a b → AreWithin (with_file file x a) (with_file file y b)
within-with_file file None None a b both v = v
within-with_file file None (Some m) a b both v = absurd both
within-with_file file (Some h) None a b both v = absurd both
within-with_file file (Some h) (Some m) a b both v = (within-kept_as file h m both, v)

within-with_name : (name : List ℕ) (x y : Option (Held ℕ)) (a b : List (Held ℕ)) → AreBoth x y → AreWithin a b → AreWithin (with_name name x a) (with_name name y b)
within-with_name name None None a b both v = v
within-with_name name None (Some m) a b both v = absurd both
within-with_name name (Some h) None a b both v = absurd both
within-with_name name (Some h) (Some m) a b both v = within-push a b (kept_as name h) (kept_as name m) v (within-kept_as name h m both)

-- where the same names are live, a statement of names leaves no more rows where there were no more
within-lived : (a b : Store ℕ) → a.live ≡ b.live → AreWithin a.names b.names → (stmt : OfNames) → AreWithin (statement_sizes a.live a.names stmt) (statement_sizes b.live b.names stmt)
within-lived a b live v stmt = subst (λ l. AreWithin (statement_sizes a.live a.names stmt) (statement_sizes l b.names stmt)) live (within-statement a.live a.names b.names v stmt)

-- a statement leaves no more rows of names where there were no more
within-names : (a b : Store ℕ) → a.live ≡ b.live → AreWithin a.names b.names → AreWithin a.files b.files → (e : Effect) → AreWithin (size_after a e).names (size_after b e).names
within-names a b live v w (on_names stmt) = within-lived a b live v stmt
within-names a b live v w (saved name file) = v
within-names a b live v w (reopened name file) = within-with_name name (found a.files file) (found b.files file) a.names b.names (within-found file a.files b.files w) v
within-names a b live v w (opened name columns rel) = within-push a.names b.names _ _ v (record { name = refl; what = refl; rows = omega arith })
within-names a b live v w (imported name rows) = within-lived a b live v (t.Insert name rows, tt)

-- and no more rows of files
within-files : (a b : Store ℕ) → AreWithin a.names b.names → AreWithin a.files b.files → (e : Effect) → AreWithin (size_after a e).files (size_after b e).files
within-files a b v w (on_names stmt) = w
within-files a b v w (saved name file) = within-with_file file (found a.names name) (found b.names name) a.files b.files (within-found name a.names b.names v) w
within-files a b v w (reopened name file) = w
within-files a b v w (opened name columns rel) = w
within-files a b v w (imported name rows) = w

-- ---- one statement more

-- the names and files of one day, where those names are live
abbrev stands_for : ℤ → List (Held Relation) → List (Held Relation) → List Live → World
stands_for d db files live = record { names = names_at d db; files = names_at d files; live = live }

-- how many rows each has
abbrev sizes_of : List (Held Relation) → List (Held Relation) → List Live → Store ℕ
sizes_of db files live = record { names = sizes_at db; files = sizes_at files; live = live }

-- what was the world of statements, changed as one more says, is the world of these and that one
stepped : (e : Effect) (db files db' files' : List (Held Relation)) (effects : List Effect)
    → ((d : ℤ) → IsRefDay d → names_at d db' ≡ (ordinary_statement d (stands_for d db files (live_of effects)) e).names)
    → ((d : ℤ) → IsRefDay d → names_at d files' ≡ (ordinary_statement d (stands_for d db files (live_of effects)) e).files)
    → AreWithin (sizes_at db') (size_after (sizes_of db files (live_of effects)) e).names → AreWithin (sizes_at files') (size_after (sizes_of db files (live_of effects)) e).files
    → IsWorldOf db files effects → IsWorldOf db' files' (effects ++ e ∷ [])
stepped e db files db' files' effects names_law files_law names_size files_size is = record {
  names = λ d day. names_law d day ∙ ap (λ w. (ordinary_statement d w e).names) (before d day) ∙ sym (ap (λ w. w.names) (after d));
  saved = λ d day. files_law d day ∙ ap (λ w. (ordinary_statement d w e).files) (before d day) ∙ sym (ap (λ w. w.files) (after d));
  sizes = subst (λ s. AreWithin (sizes_at db') s.names) (sym sizes)
      (within-trans (sizes_at db') _ _ names_size (within-names (sizes_of db files (live_of effects)) (sizes_after effects) refl is.sizes is.saved_sizes e));
  saved_sizes = subst (λ s. AreWithin (sizes_at files') s.files) (sym sizes)
      (within-trans (sizes_at files') _ _ files_size (within-files (sizes_of db files (live_of effects)) (sizes_after effects) is.sizes is.saved_sizes e));
}
  where
    before : (d : ℤ) → IsRefDay d → stands_for d db files (live_of effects) ≡ world_of_day d effects
    before d day = λ i. record { names = is.names d day i; files = is.saved d day i; live = sym (live_on_day d effects) i }

    after : (d : ℤ) → world_of_day d (effects ++ e ∷ []) ≡ ordinary_statement d (world_of_day d effects) e
    after d = fold-append (ordinary_statement d) (record { names = []; files = []; live = [] }) effects (e ∷ [])

    sizes : sizes_after (effects ++ e ∷ []) ≡ size_after (sizes_after effects) e
    sizes = fold-append size_after (record { names = []; files = []; live = [] }) effects (e ∷ [])

-- a statement that acts on names alone
pub one_more : (old new files : List (Held Relation)) (stmt : OfNames) (effects : List Effect)
    → ((d : ℤ) → IsRefDay d → names_at d new ≡ statement_names d (live_of effects) (names_at d old) stmt)
    → AreWithin (sizes_at new) (statement_sizes (live_of effects) (sizes_at old) stmt) → IsWorldOf old files effects → IsWorldOf new files (effects ++ on_names stmt ∷ [])
one_more old new files stmt effects law size = stepped (on_names stmt) old files new files effects law (λ d day. refl) size (within-refl (sizes_at files))

-- an IMPORT
pub imported_more : (old new files : List (Held Relation)) (name : List ℕ) (rows : List (List Value)) (effects : List Effect)
    → ((d : ℤ) → IsRefDay d → names_at d new ≡ statement_names d (live_of effects) (names_at d old) (t.Insert name rows, tt))
    → AreWithin (sizes_at new) (statement_sizes (live_of effects) (sizes_at old) (t.Insert name rows, tt)) → IsWorldOf old files effects
    → IsWorldOf new files (effects ++ imported name rows ∷ [])
imported_more old new files name rows effects law size = stepped (imported name rows) old files new files effects law (λ d day. refl) size (within-refl (sizes_at files))

-- a SAVE
pub saved_more : (db files : List (Held Relation)) (name file : List ℕ) (effects : List Effect) → IsWorldOf db files effects
    → IsWorldOf db (with_file file (found db name) files) (effects ++ saved name file ∷ [])
saved_more db files name file effects =
    stepped (saved name file) db files db (with_file file (found db name) files) effects (λ d day. refl) (λ d day. file-made_of (λ rel. relation_at row_order row_at rel d) name file db files)
    (within-refl (sizes_at db)) (subst (λ sizes. AreWithin sizes (with_file file (found (sizes_at db) name) (sizes_at files))) (sym (file-made_of length name file db files)) (within-refl _))

-- an OPEN of a file that was saved
pub reopened_more : (db files : List (Held Relation)) (name file : List ℕ) (effects : List Effect) → IsWorldOf db files effects
    → IsWorldOf (with_name name (found files file) db) files (effects ++ reopened name file ∷ [])
reopened_more db files name file effects =
    stepped (reopened name file) db files (with_name name (found files file) db) files effects (λ d day. name-made_of (λ rel. relation_at row_order row_at rel d) name file db files) (λ d day. refl)
    (subst (λ sizes. AreWithin sizes (with_name name (found (sizes_at files) file) (sizes_at db))) (sym (name-made_of length name file db files)) (within-refl _)) (within-refl (sizes_at files))

-- an OPEN of another file
pub opened_more : (db files : List (Held Relation)) (name : List ℕ) (columns : List Column) (rel : Relation) (effects : List Effect) → IsWorldOf db files effects
    → IsWorldOf (db ++ record { name = name; what = what.Kept; columns = columns; rows = rel } ∷ []) files (effects ++ opened name columns rel ∷ [])
opened_more db files name columns rel effects =
    stepped (opened name columns rel) db files (db ++ held ∷ []) files effects (λ d day. all_made_of-push (λ rel. relation_at row_order row_at rel d) db held) (λ d day. refl)
    (within-added db held (made_of length held) (record { name = refl; what = refl; rows = omega arith })) (within-refl (sizes_at files))
  where
    held : Held Relation
    held = record { name = name; what = what.Kept; columns = columns; rows = rel }

-- The catalog: which names there are, what each of them is and its columns are the same on all days.
use Rattle.std.proofs.Common.{◌≡◌, ◌++◌, ◌∷◌, ◌∙◌, [], ℕ, ℤ, Bool, true, false, List, codes, fold, map, refl, sym, ap, if◌then◌else◌}
use Rattle.std.specs.Str.{bytes_eq}
use Rattle.og_query.specs.Queries.{ordinary_query}
use Rattle.og_query.specs.Sizes.{query_size}
use Rattle.og_query.specs.declared.query.Query.{Query}
use Rattle.og_query.specs.declared.typed.Typed.{Typed}
use Rattle.og_query.specs.declared.typed.Typed.TheVariants as t
use Rattle.og_db.specs.Effects.{Effect, Store, World, on_names, saved, reopened, opened, imported, ordinary_statement, size_after, sizes_after, statement_names, statement_sizes, with_file, with_name, world_of_day}
use Rattle.og_db.specs.Held.{Held, all_made_of, changed_at, found, known_of, made_of, without}
use Rattle.og_db.specs.Live.{Live, followed, live_after, refreshed, settled}
use Rattle.og_db.specs.Runs.{known_after}
use Rattle.og_db.specs.Statements.{Names, OfNames, name_sizes_after, named_rows, named_sizes, names_after}
use Rattle.og_db.proofs.EffectLemmas.{file-made_of, name-made_of}
use Rattle.og_db.proofs.LiveNames.{all_made_of-refreshed, all_made_of-settled}
use Rattle.og_db.proofs.WorldLemmas.{all_made_of-push, all_made_of-without, known_of-made_of}
use Rattle.og_output.specs.Records.{names_text, records}
use Rattle.og_session.specs.Output.{piece_of}
use Rattle.og_session.proofs.PieceLemmas.{name_record, names-made}

-- names without what is held under them
abbrev bare : {V : Type 0} → List (Held V) → List (Held (Unit {0}))
bare hs = all_made_of (λ _. tt) hs

-- other rows are not seen
bare-changed : {V : Type 0} (name : List ℕ) (g : V → V) (hs : List (Held V)) → bare (changed_at name g hs) ≡ bare hs
bare-changed name g [] = refl
bare-changed {V} name g (h ∷ hs) = λ i. one (bytes_eq name h.name) i ∷ bare-changed name g hs i
  where
    one : (b : Bool) → made_of {V = V} {W = Unit {0}} (λ _. tt) (if b then made_of g h else h) ≡ made_of (λ _. tt) h
    one true = refl
    one false = refl

module _ {V W : Type 0} (a : List (Held V)) (b : List (Held W)) (same : bare a ≡ bare b) where
  -- one name more, with the same of all but its rows
  bare-push : (x : Held V) (y : Held W) → made_of {W = Unit {0}} (λ _. tt) x ≡ made_of (λ _. tt) y → bare (a ++ x ∷ []) ≡ bare (b ++ y ∷ [])
  bare-push x y one = all_made_of-push (λ _. tt) a x ∙ (λ i. same i ++ one i ∷ []) ∙ sym (all_made_of-push (λ _. tt) b y)

  -- what a statement leaves of live results
  bare-followed : (f : List (Held V) → Query → V) (g : List (Held W) → Query → W) (live : List Live) (stmt : Typed) → bare (followed f live stmt a) ≡ bare (followed g live stmt b)
  bare-followed f g live stmt =
      let after = live_after live stmt in
      all_made_of-refreshed (λ _. tt) (f a) after (settled live after a)
      ∙ ap (refreshed (λ _. tt) after) (all_made_of-settled (λ _. tt) live after a ∙ ap (settled live after) same ∙ sym (all_made_of-settled (λ _. tt) live after b))
      ∙ sym (all_made_of-refreshed (λ _. tt) (g b) after (settled live after b))

-- a statement on names does the same to them on each day and in the sizes
bare-statement : (d : ℤ) (names : Names) (sizes : List (Held ℕ)) → bare names ≡ bare sizes → (stmt : OfNames) → bare (names_after d names stmt) ≡ bare (name_sizes_after sizes stmt)
bare-statement d names sizes same (t.Create name columns, of) = bare-push names sizes same _ _ refl
bare-statement d names sizes same (t.Insert name rows, of) = bare-changed name _ names ∙ same ∙ sym (bare-changed name _ sizes)
bare-statement d names sizes same (t.Delete name cond, of) = bare-changed name _ names ∙ same
bare-statement d names sizes same (t.Update name sets cond, of) = bare-changed name _ names ∙ same ∙ sym (bare-changed name _ sizes)
bare-statement d names sizes same (t.Drop name, of) = all_made_of-without (λ _. tt) name names ∙ ap (without name) same ∙ sym (all_made_of-without (λ _. tt) name sizes)
bare-statement d names sizes same (t.Keep name query, of) = bare-push names sizes same _ _ refl
bare-statement d names sizes same (t.Tables, of) = same
bare-statement d names sizes same (t.PrintName name day, of) = same
bare-statement d names sizes same (t.PrintQuery query day, of) = same
bare-statement d names sizes same (t.Save name file, of) = absurd of
bare-statement d names sizes same (t.OpenFile name file, of) = absurd of
bare-statement d names sizes same (t.ImportFile name file, of) = absurd of
bare-statement d names sizes same (t.Explain query, of) = same
bare-statement d names sizes same (t.Valid name day, of) = same
bare-statement d names sizes same (t.Live name query, of) = bare-push names sizes same _ _ refl

-- and so where some are live
bare-live : (d : ℤ) (names : Names) (sizes : List (Held ℕ)) → bare names ≡ bare sizes → (live : List Live) (stmt : OfNames) → bare (statement_names d live names stmt) ≡ bare (statement_sizes live sizes stmt)
bare-live d names sizes same live stmt =
    bare-followed (names_after d names stmt) (name_sizes_after sizes stmt) (bare-statement d names sizes same stmt) (λ after. ordinary_query d (named_rows after)) (λ after. query_size (named_sizes after)) live stmt.0

-- the names, the files and the live results of a day are those of the sizes
record AreBare (world : World) (sizes : Store ℕ) : Type 0 where
  pub names : bare world.names ≡ bare sizes.names
  pub files : bare world.files ≡ bare sizes.files
  pub live : world.live ≡ sizes.live

bare-step : (d : ℤ) (world : World) (sizes : Store ℕ) → AreBare world sizes → (e : Effect) → AreBare (ordinary_statement d world e) (size_after sizes e)
bare-step d world sizes same (on_names stmt) = record {
  names = ap (λ live. bare (statement_names d live world.names stmt)) same.live ∙ bare-live d world.names sizes.names same.names sizes.live stmt;
  files = same.files;
  live = ap (λ live. live_after live stmt.0) same.live;
}
bare-step d world sizes same (saved name file) = record {
  names = same.names;
  files = file-made_of (λ _. tt) name file world.names world.files
      ∙ (λ i. with_file file (found (same.names i) name) (same.files i))
      ∙ sym (file-made_of (λ _. tt) name file sizes.names sizes.files);
  live = same.live;
}
bare-step d world sizes same (reopened name file) = record {
  names = name-made_of (λ _. tt) name file world.names world.files
      ∙ (λ i. with_name name (found (same.files i) file) (same.names i))
      ∙ sym (name-made_of (λ _. tt) name file sizes.names sizes.files);
  files = same.files;
  live = same.live;
}
bare-step d world sizes same (opened name columns rel) = record { names = bare-push world.names sizes.names same.names _ _ refl; files = same.files; live = same.live }
bare-step d world sizes same (imported name rows) = record {
  names = ap (λ live. bare (statement_names d live world.names (t.Insert name rows, tt))) same.live ∙ bare-live d world.names sizes.names same.names sizes.live (t.Insert name rows, tt);
  files = same.files;
  live = ap (λ live. live_after live (t.Insert name rows)) same.live;
}

bare-steps : (d : ℤ) (effects : List Effect) (world : World) (sizes : Store ℕ) → AreBare world sizes → AreBare (fold (ordinary_statement d) world effects) (fold size_after sizes effects)
bare-steps d [] world sizes same = same
bare-steps d (e ∷ effects) world sizes same = bare-steps d effects (ordinary_statement d world e) (size_after sizes e) (bare-step d world sizes same e)

bare-world : (d : ℤ) (effects : List Effect) → bare (world_of_day d effects).names ≡ bare (sizes_after effects).names
bare-world d effects = (bare-steps d effects _ _ (record { names = refl; files = refl; live = refl })).names

-- what each name is on a day, and its columns
pub known_of_day : (before : List Effect) (d : ℤ) (name : List ℕ) → known_of (world_of_day d before).names name ≡ known_after before name
known_of_day before d name =
    sym (known_of-made_of (λ _. tt) (world_of_day d before).names name) ∙ ap (λ hs. known_of hs name) (bare-world d before) ∙ known_of-made_of (λ _. tt) (sizes_after before).names name

-- TABLES writes the names of each day
pub tables_of_day : (before : List Effect) (d : ℤ) → names_text (world_of_day d before).names ≡ piece_of before (on_names (t.Tables, tt))
tables_of_day before d =
    ap (λ rs. records ((codes "name" ∷ codes "what" ∷ []) ∷ rs))
    (names-made (λ _. tt) (world_of_day d before).names ∙ ap (map (name_record {V = Unit {0}})) (bare-world d before) ∙ sym (names-made (λ _. tt) (sizes_after before).names))

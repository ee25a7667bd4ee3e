-- Names with no more rows than others: what keeps them so, and what statements make of them.
use Rattle.std.proofs.Common.{◌≡◌, ◌++◌, ◌≤◌, ◌+◌, ◌*◌, ℕ, Bool, true, false, cond, not, List, [], ◌∷◌, Some, fold, length, map, if◌then◌else◌, refl, sym, ap, ◌∙◌, subst, true≢false, arith}
use Rattle.std.specs.List.{AllByRecursion, IsDistinct}
use Rattle.std.specs.Option.{option_map}
use Rattle.std.specs.Str.{bytes_eq}
use Rattle.std.proofs.lemmas.Nat.{mul-le}
use Rattle.og_value.specs.declared.term.SetOp.{SetOp}
use Rattle.og_value.specs.declared.term.SetOp.TheVariants as op
use Rattle.og_query.specs.Sizes.{Sizes, core_size, combined_size, query_size}
use Rattle.og_query.specs.declared.query.Core.{Core}
use Rattle.og_query.specs.declared.query.From1.{From1}
use Rattle.og_query.specs.declared.query.Query.{Query}
use Rattle.og_query.specs.declared.query.Rest.{Rest}
use Rattle.og_query.specs.declared.typed.Typed.TheVariants as t
use Rattle.og_db.specs.Held.{Held, described, found, known_of, rows_of, made_of, all_made_of, changed_at, without}
use Rattle.og_db.specs.Database.{Relation}
use Rattle.og_db.specs.Runs.{IsWithin, AreWithin, sizes_at}
use Rattle.og_db.specs.Statements.{OfNames, or_else, named_sizes, name_sizes_after}
use Rattle.og_db.proofs.WorldLemmas.{rows_found, all_made_of-push, all_made_of-without}

-- names are within themselves
pub within-refl : (a : List (Held ℕ)) → AreWithin a a
within-refl [] = tt
within-refl (h ∷ hs) = (record { name = refl; what = refl; rows = omega arith }, within-refl hs)

-- and within all that others are within
pub within-trans : (a b c : List (Held ℕ)) → AreWithin a b → AreWithin b c → AreWithin a c
within-trans [] [] c v w = w
within-trans [] (m ∷ b) c v w = absurd v
within-trans (h ∷ a) [] c v w = absurd v
within-trans (h ∷ a) (m ∷ b) [] v w = absurd w
within-trans (h ∷ a) (m ∷ b) (n ∷ c) v w =
    (record { name = v.0.name ∙ w.0.name; what = v.0.what ∙ w.0.what; rows = omega (arith, v.0.rows, w.0.rows) }, within-trans a b c v.1 w.1)

-- one more name on both sides
pub within-push : (a b : List (Held ℕ)) (x y : Held ℕ) → AreWithin a b → IsWithin x y → AreWithin (a ++ x ∷ []) (b ++ y ∷ [])
within-push [] [] x y v w = (w, tt)
within-push [] (m ∷ b) x y v w = absurd v
within-push (h ∷ a) [] x y v w = absurd v
within-push (h ∷ a) (m ∷ b) x y v w = (v.0, within-push a b x y v.1 w)

module _ (name : List ℕ) where
  -- a name that is changed to no more rows
  pub within-changed_at : (f : ℕ → ℕ) → ((m n : ℕ) → m ≤ n → f m ≤ f n) → (a b : List (Held ℕ)) → AreWithin a b → AreWithin (changed_at name f a) (changed_at name f b)
  within-changed_at f more [] [] v = tt
  within-changed_at f more [] (m ∷ b) v = absurd v
  within-changed_at f more (h ∷ a) [] v = absurd v
  within-changed_at f more (h ∷ a) (m ∷ b) v = (at (bytes_eq name h.name) (bytes_eq name m.name) (ap (bytes_eq name) v.0.name), within-changed_at f more a b v.1)
    where
      at : (x y : Bool) → x ≡ y → IsWithin (if x then made_of f h else h) (if y then made_of f m else m)
      at true true e = record { name = v.0.name; what = v.0.what; rows = more h.rows m.rows v.0.rows }
      at true false e = absurd (true≢false e)
      at false true e = absurd (true≢false (sym e))
      at false false e = v.0

  -- a name that is taken out
  pub within-without : (a b : List (Held ℕ)) → AreWithin a b → AreWithin (without name a) (without name b)
  within-without [] [] v = tt
  within-without [] (m ∷ b) v = absurd v
  within-without (h ∷ a) [] v = absurd v
  within-without (h ∷ a) (m ∷ b) v = at (bytes_eq name h.name) (bytes_eq name m.name) (ap (bytes_eq name) v.0.name) (within-without a b v.1)
    where
      at : (x y : Bool) → x ≡ y → AreWithin (without name a) (without name b)
          → AreWithin (cond (not x) (h ∷ without name a) (without name a)) (cond (not y) (m ∷ without name b) (without name b))
      at true true e rest = rest
      at true false e rest = absurd (true≢false e)
      at false true e rest = absurd (true≢false (sym e))
      at false false e rest = (v.0, rest)

  -- what each name is
  pub within-known : (a b : List (Held ℕ)) → AreWithin a b → known_of a name ≡ known_of b name
  within-known [] [] v = refl
  within-known [] (m ∷ b) v = absurd v
  within-known (h ∷ a) [] v = absurd v
  within-known (h ∷ a) (m ∷ b) v = at (bytes_eq name h.name) (bytes_eq name m.name) (ap (bytes_eq name) v.0.name) (within-known a b v.1)
    where
      at : (x y : Bool) → x ≡ y → known_of a name ≡ known_of b name → option_map described (cond x (Some h) (found a name)) ≡ option_map described (cond y (Some m) (found b name))
      at true true e rest = ap Some v.0.what
      at true false e rest = absurd (true≢false e)
      at false true e rest = absurd (true≢false (sym e))
      at false false e rest = rest

  -- how many rows each name has
  pub within-named : (a b : List (Held ℕ)) → AreWithin a b → named_sizes a name ≤ named_sizes b name
  within-named [] [] v = omega arith
  within-named [] (m ∷ b) v = absurd v
  within-named (h ∷ a) [] v = absurd v
  within-named (h ∷ a) (m ∷ b) v = at (bytes_eq name h.name) (bytes_eq name m.name) (ap (bytes_eq name) v.0.name) (within-named a b v.1)
    where
      at : (x y : Bool) → x ≡ y → named_sizes a name ≤ named_sizes b name
          → or_else 0 (option_map (λ h. h.rows) (cond x (Some h) (found a name))) ≤ or_else 0 (option_map (λ h. h.rows) (cond y (Some m) (found b name)))
      at true true e rest = v.0.rows
      at true false e rest = absurd (true≢false e)
      at false true e rest = absurd (true≢false (sym e))
      at false false e rest = rest

module _ {V : Type 0} (name : List ℕ) (size : V → ℕ) where
  -- the sizes of changed names are within a change of their sizes, where this is so of the rows under the name
  pub within-made : (g : V → V) (f : ℕ → ℕ) (db : List (Held V)) → AllByRecursion (λ h. bytes_eq name h.name ≡ true → size (g h.rows) ≤ f (size h.rows)) db
      → AreWithin (all_made_of size (changed_at name g db)) (changed_at name f (all_made_of size db))
  within-made g f [] all = tt
  within-made g f (h ∷ hs) all = (one (bytes_eq name h.name) all.0, within-made g f hs all.1)
    where
      one : (b : Bool) → (b ≡ true → size (g h.rows) ≤ f (size h.rows)) → IsWithin (made_of size (if b then made_of g h else h)) (if b then made_of f (made_of size h) else made_of size h)
      one true e = record { name = refl; what = refl; rows = e refl }
      one false e = record { name = refl; what = refl; rows = omega arith }

  -- the same, where it is so of any rows
  pub within-made_everywhere : (g : V → V) (f : ℕ → ℕ) (db : List (Held V)) → ((rows : V) → size (g rows) ≤ f (size rows))
      → AreWithin (all_made_of size (changed_at name g db)) (changed_at name f (all_made_of size db))
  within-made_everywhere g f db each = within-made g f db (everywhere db)
    where
      everywhere : (db : List (Held V)) → AllByRecursion (λ h. bytes_eq name h.name ≡ true → size (g h.rows) ≤ f (size h.rows)) db
      everywhere [] = tt
      everywhere (h ∷ hs) = (λ _. each h.rows, everywhere hs)

  -- and where the rows under the name are changed to those of which it is so
  pub within-made_to : (old new : V) (f : ℕ → ℕ) (db : List (Held V)) → rows_of db name ≡ Some old → IsDistinct bytes_eq (map (λ h. h.name) db) → size new ≤ f (size old)
      → AreWithin (all_made_of size (changed_at name (λ _. new) db)) (changed_at name f (all_made_of size db))
  within-made_to old new f db is apart most = within-made (λ _. new) f db (each db (rows_found name db old is apart))
    where
      each : (db : List (Held V)) → AllByRecursion (λ h. bytes_eq name h.name ≡ true → h.rows ≡ old) db → AllByRecursion (λ h. bytes_eq name h.name ≡ true → size new ≤ f (size h.rows)) db
      each [] all = tt
      each (h ∷ hs) all = (λ here. subst (λ rows. size new ≤ f (size rows)) (sym (all.0 here)) most, each hs all.1)

-- answers over names with no more rows have no more rows at most
module _ (a b : Sizes) (more : (name : List ℕ) → a name ≤ b name) where
  tables_more : (tables : List From1) (m n : ℕ) → m ≤ n → fold (λ size table. size * a table.name) m tables ≤ fold (λ size table. size * b table.name) n tables
  tables_more [] m n h = h
  tables_more (table ∷ tables) m n h = tables_more tables (m * a table.name) (n * b table.name) (mul-le m (a table.name) n (b table.name) h (more table.name))

  core_more : (core : Core) → core_size a core ≤ core_size b core
  core_more core = tables_more core.tables 1 1 (omega arith)

  combined_more : (op : SetOp) (k l m n : ℕ) → k ≤ m → l ≤ n → combined_size op k l ≤ combined_size op m n
  combined_more op.Union k l m n g h = omega (arith, g, h)
  combined_more op.Except k l m n g h = g
  combined_more op.Intersect k l m n g h = g

  rests_more : (rests : List Rest) (m n : ℕ) → m ≤ n
      → fold (λ size rest. combined_size rest.op size (core_size a rest.core)) m rests ≤ fold (λ size rest. combined_size rest.op size (core_size b rest.core)) n rests
  rests_more [] m n h = h
  rests_more (rest ∷ rests) m n h =
      rests_more rests (combined_size rest.op m (core_size a rest.core)) (combined_size rest.op n (core_size b rest.core))
      (combined_more rest.op m (core_size a rest.core) n (core_size b rest.core) h (core_more rest.core))

  pub query_more : (query : Query) → query_size a query ≤ query_size b query
  query_more query = rests_more query.rest (core_size a query.first) (core_size b query.first) (core_more query.first)

-- a statement leaves no more rows where there were no more
pub within-after : (a b : List (Held ℕ)) → AreWithin a b → (stmt : OfNames) → AreWithin (name_sizes_after a stmt) (name_sizes_after b stmt)
within-after a b v (t.Create name columns, of) = within-push a b _ _ v (record { name = refl; what = refl; rows = omega arith })
within-after a b v (t.Insert name tuples, of) = within-changed_at name (λ n. n + length tuples) (λ m n h. omega (arith, h)) a b v
within-after a b v (t.Delete name cond, of) = v
within-after a b v (t.Update name sets cond, of) = within-changed_at name (λ n. 2 * n) (λ m n h. omega (arith, h)) a b v
within-after a b v (t.Drop name, of) = within-without name a b v
within-after a b v (t.Tables, of) = v
within-after a b v (t.Keep name query, of) = within-push a b _ _ v (record { name = refl; what = refl; rows = query_more (named_sizes a) (named_sizes b) (λ n. within-named n a b v) query })
within-after a b v (t.PrintName name day, of) = v
within-after a b v (t.PrintQuery query day, of) = v
within-after a b v (t.Save name file, of) = absurd of
within-after a b v (t.OpenFile name file, of) = absurd of
within-after a b v (t.ImportFile name file, of) = absurd of
within-after a b v (t.Explain query, of) = v
within-after a b v (t.Valid name day, of) = v
within-after a b v (t.Live name query, of) = within-push a b _ _ v (record { name = refl; what = refl; rows = query_more (named_sizes a) (named_sizes b) (λ n. within-named n a b v) query })

-- the sizes of names with one more that has no more rows
pub within-added : (old : List (Held Relation)) (h : Held Relation) (most : Held ℕ) → IsWithin (made_of length h) most → AreWithin (sizes_at (old ++ h ∷ [])) (sizes_at old ++ most ∷ [])
within-added old h most v =
    subst (λ sizes. AreWithin sizes (sizes_at old ++ most ∷ [])) (sym (all_made_of-push length old h)) (within-push (sizes_at old) (sizes_at old) (made_of length h) most (within-refl (sizes_at old)) v)

-- the sizes of names without one
pub within-dropped : (name : List ℕ) (old : List (Held Relation)) → AreWithin (sizes_at (without name old)) (without name (sizes_at old))
within-dropped name old = subst (λ sizes. AreWithin sizes (without name (sizes_at old))) (sym (all_made_of-without length name old)) (within-refl (without name (sizes_at old)))

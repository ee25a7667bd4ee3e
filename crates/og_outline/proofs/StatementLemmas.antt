-- What a statement on names makes of an outline.
use Rattle.std.proofs.Common.{◌≡◌, ◌++◌, ◌+◌, ◌*◌, ℕ, List, [], ◌∷◌, Option, Some, None, length, refl, sym, ap, ◌∙◌}
use Rattle.std.proofs.lemmas.List.{append-nil}
use Rattle.og_value.specs.declared.kind.What.TheVariants as what
use Rattle.og_value.specs.declared.value.Value.{Value}
use Rattle.og_query.specs.Sizes.{query_size}
use Rattle.og_query.specs.declared.query.Query.{Query}
use Rattle.og_query.specs.declared.typed.Typed.TheVariants as t
use Rattle.og_db.specs.Effects.{Effect, Store, imported, on_names, size_after, sizes_after}
use Rattle.og_db.specs.Held.{Held, made_of, without}
use Rattle.og_db.specs.Live.{Live, live_after, settled}
use Rattle.og_db.specs.Statements.{OfNames, name_sizes_after, named_sizes}
use Rattle.og_db.proofs.LiveNames.{all_made_of-settled}
use Rattle.og_db.proofs.WorldLemmas.{all_made_of-without}
use Rattle.og_outline.specs.Outlines.{IsOutlineOf, Outlined, bare, live_at, lives_in, names_differ, outlined_after, outlined_drop}
use Rattle.og_outline.proofs.DropLemmas.{dropped-settled, lives_in-dropped}
use Rattle.og_outline.proofs.OutlineLemmas.{IsOutlineIn, bare-changed, bare-grown, bare-push, bare-refreshed, lives_in-push, of_sizes, one_more}

module _ (o : Outlined) (sizes : Store ℕ) (is : IsOutlineIn o sizes) where
  -- a statement that leaves the names as they are
  stays : (stmt : OfNames) → live_after sizes.live stmt.0 ≡ sizes.live → bare (name_sizes_after sizes.names stmt) ≡ bare sizes.names → IsOutlineIn o (size_after sizes (on_names stmt))
  stays stmt now same = record {
    names = is.names ∙ sym same
        ∙ sym (bare-grown (λ after. query_size (named_sizes after)) sizes.live [] stmt.0 (now ∙ sym (append-nil sizes.live)) (name_sizes_after sizes.names stmt));
    live = is.live ∙ sym now;
    files = is.files;
  }

  -- a statement that adds a name
  grows : (h : Held (Option Query)) (most : Held ℕ) → made_of {W = Unit {0}} (λ _. tt) h ≡ made_of (λ _. tt) most → (stmt : OfNames) → name_sizes_after sizes.names stmt ≡ sizes.names ++ most ∷ []
      → live_after sizes.live stmt.0 ≡ sizes.live ++ live_at h.name h.rows → IsOutlineIn (record { names = o.names ++ h ∷ []; files = o.files }) (size_after sizes (on_names stmt))
  grows h most one stmt more now = record {
    names = bare-push o.names sizes.names is.names h most one ∙ ap (λ hs. bare hs) (sym more)
        ∙ sym (bare-grown (λ after. query_size (named_sizes after)) sizes.live (live_at h.name h.rows) stmt.0 now (name_sizes_after sizes.names stmt));
    live = lives_in-push o.names h ∙ ap (λ live. live ++ live_at h.name h.rows) is.live ∙ sym now;
    files = is.files;
  }

  -- a DROP, where no two names are the same
  drops : names_differ o → (name : List ℕ) → IsOutlineIn (outlined_drop name o) (size_after sizes (on_names (t.Drop name, tt)))
  drops apart name = record {
    names = dropped-settled name o.names apart
        ∙ all_made_of-settled (λ _. tt) before (live_after before (t.Drop name)) (without name o.names)
        ∙ ap (settled before (live_after before (t.Drop name))) (all_made_of-without (λ _. tt) name o.names ∙ ap (without name) is.names ∙ sym (all_made_of-without (λ _. tt) name sizes.names))
        ∙ sym (all_made_of-settled (λ _. tt) before (live_after before (t.Drop name)) left)
        ∙ ap (λ live. bare (settled live (live_after live (t.Drop name)) left)) is.live
        ∙ sym (bare-refreshed (query_size (named_sizes left)) (live_after sizes.live (t.Drop name)) (settled sizes.live (live_after sizes.live (t.Drop name)) left));
    live = lives_in-dropped name o.names ∙ ap (λ live. live_after live (t.Drop name)) is.live;
    files = is.files;
  }
    where
      before : List Live
      before = lives_in o.names

      left : List (Held ℕ)
      left = without name sizes.names

  -- each statement that acts on names alone
  stepped : names_differ o → (stmt : OfNames) → IsOutlineIn (outlined_after o stmt.0) (size_after sizes (on_names stmt))
  stepped apart (t.Create name columns, of) =
      grows (record { name = name; what = what.Table; columns = columns; rows = None }) (record { name = name; what = what.Table; columns = columns; rows = 0 }) refl (t.Create name columns, of) refl (sym (append-nil sizes.live))
  stepped apart (t.Insert name rows, of) = stays (t.Insert name rows, of) refl (bare-changed name (λ n. n + length rows) sizes.names)
  stepped apart (t.Delete name cond, of) = stays (t.Delete name cond, of) refl refl
  stepped apart (t.Update name sets cond, of) = stays (t.Update name sets cond, of) refl (bare-changed name (λ n. 2 * n) sizes.names)
  stepped apart (t.Drop name, of) = drops apart name
  stepped apart (t.Tables, of) = stays (t.Tables, of) refl refl
  stepped apart (t.Keep name query, of) =
      grows (record { name = name; what = what.Kept; columns = query.first.schema; rows = None })
      (record { name = name; what = what.Kept; columns = query.first.schema; rows = query_size (named_sizes sizes.names) query }) refl (t.Keep name query, of) refl (sym (append-nil sizes.live))
  stepped apart (t.PrintName name day, of) = stays (t.PrintName name day, of) refl refl
  stepped apart (t.PrintQuery query day, of) = stays (t.PrintQuery query day, of) refl refl
  stepped apart (t.Save name file, of) = absurd of
  stepped apart (t.OpenFile name file, of) = absurd of
  stepped apart (t.ImportFile name file, of) = absurd of
  stepped apart (t.Explain query, of) = stays (t.Explain query, of) refl refl
  stepped apart (t.Valid name day, of) = stays (t.Valid name day, of) refl refl
  stepped apart (t.Live name query, of) =
      grows (record { name = name; what = what.Live; columns = query.first.schema; rows = Some query })
      (record { name = name; what = what.Live; columns = query.first.schema; rows = query_size (named_sizes sizes.names) query }) refl (t.Live name query, of) refl refl

  -- an IMPORT
  imports : (name : List ℕ) (rows : List (List Value)) → IsOutlineIn o (size_after sizes (imported name rows))
  imports name rows =
      let same = stays (t.Insert name rows, tt) refl (bare-changed name (λ n. n + length rows) sizes.names) in
      record { names = same.names; live = is.live; files = is.files }

-- one statement more that acts on names alone
pub one_statement : (o : Outlined) (effects : List Effect) (stmt : OfNames) → names_differ o → IsOutlineOf o effects → IsOutlineOf (outlined_after o stmt.0) (effects ++ on_names stmt ∷ [])
one_statement o effects stmt apart is = one_more (outlined_after o stmt.0) effects (on_names stmt) (stepped o (sizes_after effects) (of_sizes o effects is) apart stmt)

-- one IMPORT more
pub one_import : (o : Outlined) (effects : List Effect) (name : List ℕ) (rows : List (List Value)) → IsOutlineOf o effects → IsOutlineOf o (effects ++ imported name rows ∷ [])
one_import o effects name rows is = one_more o effects (imported name rows) (imports o (sizes_after effects) (of_sizes o effects is) name rows)

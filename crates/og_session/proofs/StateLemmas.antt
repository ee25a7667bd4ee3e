-- States of the names and the files.
use Rattle.std.proofs.Common.{◌≡◌, ◌++◌, ◌∷◌, ◌∙◌, ap, List, [], ℕ, ℤ, Option, Some, refl, sym, subst}
use Rattle.std.proofs.lemmas.List.Sums.{fold-append}
use Rattle.og_value.specs.declared.value.Value.{Value}
use Rattle.og_query.specs.declared.typed.Typed.TheVariants as t
use Rattle.og_io.specs.Folders.{Folder}
use Rattle.og_db.specs.Database.{Relation}
use Rattle.og_db.specs.Effects.{Effect, imported, on_names, ordinary_statement, saved, size_after, sizes_after, world_of_day}
use Rattle.og_db.specs.Held.{Held}
use Rattle.og_db.specs.Runs.{AreWithin, IsWorldOf, sizes_at}
use Rattle.og_session.specs.Ends.{IsHeldState, IsLeft}
use Rattle.og_session.specs.Headline.{IsStateOf}
use Rattle.og_session.specs.Names.{IsDone, IsRunning, Watched, lives_of}

-- before any statement the files are those at the start
pub state_at_start : (start : Folder) (db : List (Held Relation)) (folder : Option Folder) → IsWorldOf [] [] [] → db ≡ [] → folder ≡ Some start → IsStateOf start [] db folder
state_at_start start db folder world empty told =
    subst (λ d. IsStateOf start [] d folder) (sym empty)
    (subst (IsStateOf start [] []) (sym told) (record { files = []; names = []; held = λ name no. refl; world = world; left = refl }))

-- what a run holds before any statement
pub held_at_start : (start : Folder) (held : Watched) (folder : Option Folder) → IsWorldOf [] [] [] → (held.names ≡ []) × (held.views ≡ []) → folder ≡ Some start → IsHeldState start [] held folder
held_at_start start held folder world empty told =
    subst (λ h. IsHeldState start [] h folder) (λ i. record { names = sym empty.0 i; views = sym empty.1 i })
    (subst (IsHeldState start [] (record { names = []; views = [] })) (sym told)
    (record { files = []; held_files = λ name no. refl; running = record { world = world; live = refl } }))

-- what a run would leave
pub left_state : (start : Folder) (effects : List Effect) (held : Watched) (folder : Option Folder) → IsHeldState start effects held folder → IsLeft start effects held folder
left_state start effects held folder state = record { files = state.files; names = held.names; held = state.held_files; world = state.running.world; left = refl }

-- what it holds after an effect that leaves the views
pub more_running : (old new : Watched) (files now : List (Held Relation)) (effects : List Effect) (effect : Effect) → IsRunning old files effects → IsWorldOf new.names now (effects ++ effect ∷ []) → new.views ≡ old.views
    → (size_after (sizes_after effects) effect).live ≡ (sizes_after effects).live → IsRunning new now (effects ++ effect ∷ [])
more_running old new files now effects effect running world views stays = record {
  world = world;
  live = ap (λ s. s.live) (fold-append size_after (record { names = []; files = []; live = [] }) effects (effect ∷ [])) ∙ stays ∙ running.live ∙ ap lives_of (sym views);
}

-- what an IMPORT leaves is what an INSERT of its rows does
pub imported_done : (old new : Watched) (name : List ℕ) (rows : List (List Value)) → IsDone old new (on_names (t.Insert name rows, tt)) → IsDone old new (imported name rows)
imported_done old new name rows done files effects running =
    let after = done files effects running in record {
      world = record {
        names = λ d day. after.world.names d day ∙ ap (λ w. w.names) (worlds d);
        saved = λ d day. after.world.saved d day ∙ ap (λ w. w.files) (worlds d);
        sizes = subst (λ s. AreWithin (sizes_at new.names) s.names) sizes after.world.sizes;
        saved_sizes = subst (λ s. AreWithin (sizes_at files) s.files) sizes after.world.saved_sizes;
      };
      live = sym (ap (λ s. s.live) sizes) ∙ after.live;
    }
  where
    worlds : (d : ℤ) → world_of_day d (effects ++ on_names (t.Insert name rows, tt) ∷ []) ≡ world_of_day d (effects ++ imported name rows ∷ [])
    worlds d =
        fold-append (ordinary_statement d) (record { names = []; files = []; live = [] }) effects (on_names (t.Insert name rows, tt) ∷ [])
        ∙ sym (fold-append (ordinary_statement d) (record { names = []; files = []; live = [] }) effects (imported name rows ∷ []))

    sizes : sizes_after (effects ++ on_names (t.Insert name rows, tt) ∷ []) ≡ sizes_after (effects ++ imported name rows ∷ [])
    sizes =
        fold-append size_after (record { names = []; files = []; live = [] }) effects (on_names (t.Insert name rows, tt) ∷ [])
        ∙ sym (fold-append size_after (record { names = []; files = []; live = [] }) effects (imported name rows ∷ []))

-- What is written at the end of a translation.
use Rattle.std.proofs.Common.{◌≡◌, ◌++◌, ℕ, true, false, List, Option, Err, inl, inr, refl, subst}
use Rattle.std.specs.Io.KnownBytes.{Appends}
use Rattle.std.proofs.KnownBytes.{Appends-nil}
use Rattle.og_base.specs.Told.{AppendsFront}
use Rattle.og_syntax.specs.declared.tree.Stmt.{Stmt}
use Rattle.og_io.specs.declared.sink.PutRefusal.{PutRefusal}
use Rattle.og_io.specs.declared.sink.PutRefusal.TheVariants as puts
use Rattle.og_faults.specs.Stops.{stop_of_put}
use Rattle.og_session.specs.Runs.{Run}
use Rattle.og_sql.specs.Comments.{told}
use Rattle.og_sql.specs.Ends.{End, is_cut, line_of}
use Rattle.og_sql.specs.Head.{head}
use Rattle.og_sql.specs.Translations.{IsCarried, IsTranslation, IsWritten, all, front, none}
use Rattle.og_sql.specs.declared.stop.SqlStop.TheVariants as sql

module _ (stmts : List Stmt) (run : Run) (end : End) (body : List ℕ) (uncut : is_cut end ≡ false) (carried : IsCarried stmts run end body) where
  -- the whole text
  abbrev pub whole_text : List ℕ
  whole_text = head ++ body ++ told (line_of end)

  is_translation : IsTranslation stmts run end whole_text
  is_translation = record { body = body; carried = carried; whole = refl }

  -- it was written
  pub whole-written : (old new : Option (List ℕ)) (text : List ℕ) → text ≡ whole_text → Appends old new text → IsWritten stmts run end old new
  whole-written old new text is appended = all uncut whole_text is_translation (subst (Appends old new) is appended)

  -- the sink refused it
  pub front-written : (old new : Option (List ℕ)) (text : List ℕ) (refusal : PutRefusal) → text ≡ whole_text → AppendsFront old new text → IsWritten stmts run (Err (sql.Run (stop_of_put refusal))) old new
  front-written old new text puts.Failed is begun = front (inl refl) end uncut whole_text is_translation (subst (AppendsFront old new) is begun)
  front-written old new text puts.NoMemory is begun = front (inr refl) end uncut whole_text is_translation (subst (AppendsFront old new) is begun)

-- nothing was written, since the run was cut or memory ran out
pub none-written : (stmts : List Stmt) (run : Run) (end : End) (old : Option (List ℕ)) → is_cut end ≡ true → IsWritten stmts run end old old
none-written stmts run end old cut = none cut (Appends-nil old)

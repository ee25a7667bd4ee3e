use native.Mathlib.Numerals.{unary_clauses}
use Rattle.std.proofs.Common.{refl, arith, ◌∙◌, sym, subst, Some, None}
use Rattle.std.proofs.lemmas.Str.Pattern.{rfind_char}
use Rattle.og_io.proofs.Neighbours.{folder_to_slash, no_folder}
use Rattle.og_io.specs.Neighbours.{IsFolderOf}
use Rattle.og_io.proofs.replaced.folder_of.Goals as goal

pub returns-in-Some : goal.returns-in-Some
returns-in-Some c =
    let found = rfind_char 47 c.args.name.now (Some c.in-Some.at) c.in-Some.ensures.cases (omega arith) in
    subst (IsFolderOf c.args.name.now) (sym (c.range.ensures.value ∙ simp unary_clauses refl)) (folder_to_slash c.args.name.now c.in-Some.at found.0 found.1 found.2)

pub returns-in-None : goal.returns-in-None
returns-in-None c = no_folder c.args.name.now (rfind_char 47 c.args.name.now None c.in-None.ensures.cases (omega arith))

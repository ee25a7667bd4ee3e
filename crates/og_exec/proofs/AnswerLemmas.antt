-- Answers that are made of relations.
use Rattle.std.proofs.Common.{◌≡◌, Result, Ok, IfOk, subst}
use Rattle.std.proofs.lemmas.Result.{IfOk-weaker}
use Rattle.og_exec.specs.Answers.{rel_of}
use Rattle.og_exec.specs.Tables.{Relation}
use Rattle.og_exec.specs.declared.answer.Answer.{Answer}

-- what holds of a relation holds of the answer that it was made
pub of_made : {E : Type 0} (P : Relation → Type 0) (rel : Result Relation E) (answer : Result Answer E)
    → IfOk answer (λ a. rel ≡ Ok (rel_of a)) → IfOk rel P → IfOk answer (λ a. P (rel_of a))
of_made P rel answer made holds = IfOk-weaker answer _ _ (λ a is. subst (λ r. IfOk r P) is holds) made

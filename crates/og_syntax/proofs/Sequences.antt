-- Readers one after the other, where one of them gives nothing.
use Rattle.std.proofs.Common.{Err, ap}
use Rattle.og_syntax.specs.declared.refusal.Refusal.{Refusal}
use Rattle.og_syntax.specs.declared.refusal.Refusal.TheVariants as r
use Rattle.og_syntax.specs.Reading.{Reads, Outcome, and_then, Gives, Passes}

module _ {A B C : Type 0} where
  -- a part that is not read
  pub no_first : (read : Outcome A) (f : A → Reads B) (g : B → Reads C) (why : Refusal) → Gives {A = A} (Err why) read → Gives {A = C} (Err why) (and_then (and_then read f) g)
  no_first read f g r.NoMemory h = tt
  no_first read f g r.Syntax h = ap (λ o. and_then (and_then o f) g) h

module _ {B C : Type 0} where
  -- a lexeme that does not come
  pub no_lexeme : (read : Outcome (Unit {0})) (f : Unit {0} → Reads B) (g : B → Reads C) (why : Refusal) → Passes (Err why) read → Gives {A = C} (Err why) (and_then (and_then read f) g)
  no_lexeme read f g r.NoMemory h = tt
  no_lexeme read f g r.Syntax h = ap (λ o. and_then (and_then o f) g) h

use Rattle.std.proofs.lemmas.List.Elements.{All-map}
use Rattle.og_db.specs.Database.{HaveKinds}
use Rattle.og_db.specs.Entries.{held_of}
use Rattle.og_db.proofs.FitLemmas.{named_held}
use Rattle.og_db.proofs.database.Db.rows_fit.Goals as goal

pub returns-clause-all : goal.returns-clause-all
returns-clause-all c = rw (← c.self.view_is) (All-map (λ h. HaveKinds h.columns h.rows) held_of c.self.inside.names.entries c.self.invariant)

pub returns-clause-held : goal.returns-clause-held
returns-clause-held c = named_held c.args.self.now (returns-clause-all c)

use Rattle.std.proofs.Common.{◌≡◌, ◌∙◌, filter, ap, map, rules}
use Rattle.std.proofs.lemmas.List.Elements.{All-filter}
use Rattle.indexmap.proofs.CallerLemmas.{filter-RetainsPairs}
use Rattle.og_db.specs.Database.{HaveKinds}
use Rattle.og_db.specs.Entries.{held_of}
use Rattle.og_db.specs.Runs.{is_stored, stored}
use Rattle.og_db.proofs.EntryLemmas.{stored-entries}
use Rattle.og_db.proofs.database.Db.drop_live.Goals as goal

-- the entries that are left
left : (c : goal.After-retain) → c.retain.new.self.entries ≡ filter (λ e. is_stored e.1.what) c.self.inside.names.entries
left c = filter-RetainsPairs _ (λ e. is_stored e.1.what) _ (λ k v b w g call. search rules) _ _ c.retain.ensures.filtered

pub invariant_of-self : goal.invariant_of-self
invariant_of-self c = rw (left c) (All-filter (λ e. is_stored e.1.what) (λ e. HaveKinds e.1.schema e.1.rel) c.self.inside.names.entries c.self.invariant)

pub returns : goal.returns
returns c = ap (map held_of) (left c) ∙ stored-entries c.self.inside.names.entries ∙ ap stored c.self.view_is

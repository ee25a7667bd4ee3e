use Rattle.std.proofs.Common.{◌++◌, [], ◌∷◌, ◌∙◌, append_assoc, ap, subst, sym}
use Rattle.std.proofs.lemmas.Map.Iter.{rest_more}
use Rattle.std.specs.List.{IsDistinct}
use Rattle.std.specs.Map.{keys_of}
use Rattle.std.specs.Map.Iter.{deref_pair}
use Rattle.std.specs.Str.{bytes_eq}
use Rattle.og_db.specs.Held.{known_of}
use Rattle.og_outline.proofs.EntryLemmas.{Entry, blank, blank-push, blank_new}
use Rattle.og_outline.proofs.outline.Outline.to_db.Goals as goal

pub enter-requires-clause-new : goal.enter-requires-clause-new
enter-requires-clause-new c =
    let inv = c.names.invariant in
    let e : Entry = (c.in-Some.key.now, c.in-Some.known.now) in
    let after = c.next.new.self in
    let more = rest_more deref_pair c.names.key-iterator after c.next.result (c.in-Some.key, c.in-Some.known) c.in-Some.is c.next.ensures.steps in
    ap (λ db. known_of db c.in_ok-name.name) inv.2
    ∙ ap (known_of (blank inv.0)) c.in_ok-name.ensures
    ∙ blank_new inv.0 after e (subst (λ es. IsDistinct bytes_eq (keys_of es)) (inv.1 ∙ ap (λ rest. inv.0 ++ rest) more) c.iter-key-items.ensures.unique)

pub names-preserved : goal.names-preserved
names-preserved c =
    let inv = c.names.invariant in
    let e : Entry = (c.in-Some.key.now, c.in-Some.known.now) in
    let after = c.next.new.self in
    let more = rest_more deref_pair c.names.key-iterator after c.next.result (c.in-Some.key, c.in-Some.known) c.in-Some.is c.next.ensures.steps in (
      inv.0 ++ e ∷ [],
      inv.1 ∙ ap (λ rest. inv.0 ++ rest) more ∙ sym (append_assoc inv.0 (e ∷ []) after),
      c.in_ok-enter.ensures.entered
          ∙ (λ i. inv.2 i ++ record { name = c.in_ok-name.ensures i; what = e.1.what; columns = c.in_ok-schema.ensures i; rows = c.new.ensures i } ∷ [])
          ∙ sym (blank-push inv.0 e),
    )

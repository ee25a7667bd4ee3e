use Rattle.std.proofs.Common.{◌≡◌, ◌++◌, OnOk, subst, ap, sym, ◌∙◌}
use Rattle.og_plan.specs.Parts.{places_of}
use Rattle.og_plan.proofs.PartEquations.{places_of-And, places_of-Or}
use Rattle.og_plan.proofs.places.+places.Goals as goal

pub places_of-returns-in-And : goal.places_of-returns-in-And
places_of-returns-in-And t c =
    subst (λ places. OnOk c.all_places.result (c.all_places.new.out.items ≡ c.args.out.now.items ++ places))
    (sym (places_of-And c.in-And.conds) ∙ ap places_of (sym c.in-And.is)) c.all_places.ensures

pub places_of-returns-in-Or : goal.places_of-returns-in-Or
places_of-returns-in-Or t c =
    subst (λ places. OnOk c.all_places-in-Or.result (c.all_places-in-Or.new.out.items ≡ c.args.out.now.items ++ places))
    (sym (places_of-Or c.in-Or.conds) ∙ ap places_of (sym c.in-Or.is)) c.all_places-in-Or.ensures

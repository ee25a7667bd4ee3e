use Rattle.std.proofs.Common.{◌≡◌, ◌++◌, Some, ap, ◌∙◌}
use Rattle.og_rel.specs.Places.{others_at}
use Rattle.og_rel.proofs.PlaceLemmas.{others-append}
use Rattle.og_view.proofs.ViewLemmas.{held_alone}
use Rattle.og_view.proofs.view.View.hold.Goals as goal

pub returns-clause-next : goal.returns-clause-next
returns-clause-next c =
    let v = c.args.self.now in
    let at = c.args.change.at.items in
    let held : c.self.inside.result ≡ v.result = held_alone c.self.inside.result c.self.inside.next (ap (λ v. v.next) c.self.view_is ∙ c.requires.none) ∙ ap (λ v. v.result) c.self.view_is in
    ap Some (ap (others_at at) c.in_ok-append.ensures.appended ∙ ap (λ held. others_at at (held ++ c.args.change.rows)) held ∙ others-append at v.result c.args.change.rows c.requires.at)

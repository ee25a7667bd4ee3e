use Rattle.std.proofs.Common.{◌≡◌, ◌∙◌, ℕ, List, true, ap, rules, subst, sym}
use Rattle.og_view.specs.Views.{Seen}
use Rattle.og_db.specs.Live.{kept_at}
use Rattle.og_db.specs.Database.{HaveKinds}
use Rattle.og_session.specs.Following.{view_ends}
use Rattle.og_session.proofs.DropLemmas.{parts_at, settled_by, taken_out}
use Rattle.og_session.proofs.settle.settle_at.Goals as goal

pub into_rel-requires : goal.into_rel-requires
into_rel-requires c =
    let p = parts_at c.args.views.now.entries (c.in-Some.key, c.in-Some.view) c.args.at (sym c.in-Some.ensures.entry) in
    (c.requires.live p.0 p.1 (c.in-Some.key, c.in-Some.view) p.2 p.3).1

pub settle-requires : goal.settle-requires
settle-requires c =
    let p = parts_at c.args.views.now.entries (c.in-Some.key, c.in-Some.view) c.args.at (sym c.in-Some.ensures.entry) in
    let live = c.requires.live p.0 p.1 (c.in-Some.key, c.in-Some.view) p.2 p.3 in
    (c.in-Some.view.query.first.schema, live.0, subst (HaveKinds c.in-Some.view.query.first.schema) (sym c.into_rel.ensures) live.2)

pub returns : goal.returns
returns c front back v parts place =
    let ends : view_ends c.args.name.now v ≡ true = sym (c.ends_at.ensures front back v parts place) ∙ search rules in
    let out = taken_out c.args.name.now c.args.views.now.entries c.shift_remove_index.new.self.entries front back v (c.in-Some.key, c.in-Some.view) c.args.at ends c.in-Some.ensures.entry c.in-Some.ensures.entries parts place in
    (out.1, settled_by c.args.name.now c.args.db.now c.settle.new.self v ends (c.settle.ensures ∙ ap (λ rel. kept_at c.in-Some.key rel c.args.db.now) c.into_rel.ensures ∙ ap (λ (u : List ℕ × Seen). kept_at u.0 u.1.result c.args.db.now) out.0))

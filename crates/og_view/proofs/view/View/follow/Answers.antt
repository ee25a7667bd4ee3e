use Rattle.std.proofs.Common.{◌≡◌, ◌≤◌, length, refl, sym, ap, subst, ◌∙◌, arith}
use Rattle.std.specs.List.{All}
use Rattle.std.proofs.lemmas.List.{length-append}
use Rattle.std.proofs.lemmas.List.Elements.{All-append}
use Rattle.std.proofs.lemmas.Result.{on_ok_weaker}
use Rattle.og_rel.specs.Relations.{HasDays}
use Rattle.og_query.specs.Sizes.{query_size}
use Rattle.og_exec.specs.Tables.{sizes_of}
use Rattle.og_rel.specs.Places.{others_at}
use Rattle.og_rel.proofs.PlaceLemmas.{All-others, length-others}
use Rattle.og_db.specs.Deltas.{after_at, rows_after}
use Rattle.og_db.specs.Held.{rows_of}
use Rattle.og_db.specs.Statements.{or_else}
use Rattle.og_view.specs.Changes.{changed_by}
use Rattle.og_view.specs.Views.{IsAnswerOver, to_be}
use Rattle.og_view.proofs.AnswerLemmas.{answer_of}
use Rattle.og_view.proofs.ChangedLemmas.{fits_changed}
use Rattle.og_view.proofs.DeltaLemmas.{answer-applied, answer-unused}
use Rattle.og_view.proofs.ViewLemmas.{held_alone}
use Rattle.og_view.proofs.view.View.follow.Goals as goal

pub returns-then-not-uses-clause-next : goal.returns-then-not-uses-clause-next
returns-then-not-uses-clause-next g c after applied =
    let v = c.args.self.now in
    answer-unused c.args.tables.now c.args.name.now c.args.delta.now c.requires.delta after applied v.query (to_be v) (sym c.if-not-uses.ensures)
    (subst (IsAnswerOver c.args.tables.now v.query) (ap (or_else v.result) (sym c.requires.none)) c.requires.answer)

pub overflow_sub-others : goal.overflow_sub-others
overflow_sub-others g c =
    let v = c.args.self.now in
    let change = c.in_ok-change.change in
    let held : c.self.inside.result ≡ v.result = held_alone c.self.inside.result c.self.inside.next (ap (λ v. v.next) c.self.view_is ∙ c.requires.none) ∙ ap (λ v. v.result) c.self.view_is in
    omega (arith, c.len-2.ensures, change.at.ok, c.len.ensures, ap length (c.rel.ensures ∙ held), length-others change.at.items v.result c.in_ok-change.ensures.at)

pub returns-then-others-most-clause-next : goal.returns-then-others-most-clause-next
returns-then-others-most-clause-next g c =
    on_ok_weaker c.renew.result (λ answer after applied. answer-applied c.args.tables.now c.args.name.now c.args.delta.now c.requires.delta after applied c.args.self.now.query (to_be c.renew.new.self) answer) c.renew.ensures.next

pub returns-clause-next : goal.returns-clause-next
returns-clause-next g c =
    let v = c.args.self.now in
    let answer = c.requires.answer in
    let tables = c.args.tables.now in
    let name = c.args.name.now in
    let delta = c.args.delta.now in
    let after = after_at name delta tables in
    let change = c.in_ok-change.change in
    let at = change.at.items in
    let rel = changed_by change v.result in
    let held : c.self.inside.result ≡ v.result = held_alone c.self.inside.result c.self.inside.next (ap (λ v. v.next) c.self.view_is ∙ c.requires.none) ∙ ap (λ v. v.result) c.self.view_is in
    let days : All (λ p. HasDays p.1) rel =
    All-append (λ p. HasDays p.1) (others_at at v.result) change.rows
    (All-others (λ p. HasDays p.1) at v.result (subst (All (λ p. HasDays p.1)) (c.rel-2.ensures ∙ held) c.some_days.ensures)) c.some_days-2.ensures in
    let most : length rel ≤ query_size (sizes_of (rows_of after)) v.query =
    subst (λ q. length rel ≤ query_size (sizes_of (rows_of after)) q) (c.query.ensures ∙ ap (λ v. v.query) c.self.view_is)
    (omega (
      arith,
      length-append (others_at at v.result) change.rows,
      length-others at v.result c.in_ok-change.ensures.at,
      c.len-2.ensures,
      change.at.ok,
      c.len.ensures,
      ap length (c.rel.ensures ∙ held),
      c.len-else-others-most.ensures,
      c.if-others-most.false,
      c.if-len-most.false,
      c.size_of-most.ensures,
    )) in
    on_ok_weaker c.hold.result (λ next later applied.
    answer-applied tables name delta c.requires.delta later applied v.query (to_be c.hold.new.self)
    (subst (IsAnswerOver after v.query) (sym (ap (or_else c.hold.new.self.result) next))
    (answer_of after v.query rel answer.live (fits_changed tables name (rows_after delta) after refl v.query answer.fits) c.rows_fit.ensures.after c.in_ok-change.ensures.law most days))) c.hold.ensures.next

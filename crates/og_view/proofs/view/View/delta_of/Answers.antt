use Rattle.std.proofs.Common.{◌≡◌, true, pos, refl, ap, ◌∙◌, arith}
use Rattle.std.specs.List.{All}
use Rattle.std.proofs.lemmas.List.Elements.{All-weaker}
use Rattle.og_value.specs.Values.{row_at}
use Rattle.og_rel.specs.Places.{places}
use Rattle.og_reduce.specs.Sieves.{row_passes, tests_from}
use Rattle.og_db.specs.Deltas.{after_at, rest_at}
use Rattle.og_view.proofs.DeltaLemmas.{grown-added, grown-gone}
use Rattle.og_view.proofs.MoreLemmas.{no_rows}
use Rattle.og_view.proofs.RederivedLemmas.{change-extended, change-replaced}
use Rattle.og_view.proofs.ViewLemmas.{held_alone}
use Rattle.og_view.proofs.view.View.delta_of.Goals as goal

pub returns-then-len-eq0 : goal.returns-then-len-eq0
returns-then-len-eq0 g c =
    let v = c.args.self.now in
    let answer = c.requires.answer in
    let tables = c.args.over.now.tables.now in
    let name = c.args.over.now.name.now in
    let delta = c.args.over.now.delta.now in
    change-extended v.query answer.live tables (rest_at name delta tables) (after_at name delta tables) name delta.gone delta.added (grown-gone tables name delta c.requires.delta) (grown-added tables name delta c.requires.delta)
    v.result c.in_ok-lost.lost c.in_ok-added.added answer.law c.in_ok-lost.ensures c.in_ok-added.ensures (record { at = c.new.result; rows = c.in_ok-added.added })
    (no_rows c.in_ok-lost.lost (omega (arith, c.len.ensures, c.if-len-eq0.true))) c.new.ensures.items refl

pub returns : goal.returns
returns g c =
    let v = c.args.self.now in
    let answer = c.requires.answer in
    let tables = c.args.over.now.tables.now in
    let name = c.args.over.now.name.now in
    let delta = c.args.over.now.delta.now in
    let sieve = c.in_ok-sieve.sieve in
    let pass : All (λ p. row_passes sieve p.0 ≡ true) c.in_ok-lost.lost =
    All-weaker (λ p. row_passes (tests_from 0 c.in_ok-keys.keys.items) p.0 ≡ true) (λ p. row_passes sieve p.0 ≡ true)
    (λ p is. c.in_ok-sieve.ensures (row_at p.0 (pos 0)) (ap (λ columns. row_passes (tests_from 0 columns) p.0) c.as_slice.ensures.value ∙ is)) c.in_ok-lost.lost c.in_ok-keys.ensures.each in
    let held : c.self.inside.result ≡ v.result = held_alone c.self.inside.result c.self.inside.next (ap (λ v. v.next) c.self.view_is ∙ c.requires.none) ∙ ap (λ v. v.result) c.self.view_is in
    change-replaced v.query answer.live tables (rest_at name delta tables) (after_at name delta tables) name delta.gone delta.added (grown-gone tables name delta c.requires.delta) (grown-added tables name delta c.requires.delta)
    v.result c.in_ok-lost.lost c.in_ok-added.added answer.law c.in_ok-lost.ensures c.in_ok-added.ensures (record { at = c.in_ok-at.at; rows = c.append.new.self })
    sieve c.in_ok-rows.rows pass c.in_ok-rows.ensures (c.in_ok-at.ensures ∙ ap (places (λ p. row_passes sieve p.0)) held) c.in_ok-append.ensures.appended

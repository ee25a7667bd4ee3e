use Rattle.std.proofs.Common.{◌≡◌, ◌<◌, ◌++◌, ◌-◌, [], ◌∷◌, ℕ, List, None, Some, length, rules, refl, ap, subst, sym, ◌∙◌, arith}
use Rattle.std.specs.List.{IsDistinct}
use Rattle.std.specs.Map.{keys_of}
use Rattle.std.specs.Str.{bytes_eq}
use Rattle.std.proofs.lemmas.List.{append-nil, append_assoc}
use Rattle.std.proofs.lemmas.List.Elements.{recursion_from_All}
use Rattle.og_value.specs.declared.kind.What.TheVariants as what
use Rattle.og_db.specs.Database.{HaveKinds}
use Rattle.og_db.specs.Held.{known_of}
use Rattle.og_view.specs.Views.{Seen}
use Rattle.og_session.specs.Following.{lasting, settle_one, settle_views}
use Rattle.og_session.specs.Names.{AreLiveViews, IsLiveView}
use Rattle.og_session.proofs.DropLemmas.{all_at, apart_behind, known_settled, last_of, lasting-cons, none_left, same_place}
use Rattle.og_session.proofs.settle.settle_all.Goals as goal

pub views-init : goal.views-init
views-init c =
    let entries = c.args.views.now.entries in
    let count : length entries ≡ c.len-count.result = search rules in
    (entries, [], sym (append-nil entries), omega (arith, count), sym (append-nil entries), refl)

pub settle_at-requires : goal.settle_at-requires
settle_at-requires c =
    let entries = c.args.views.now.entries in
    let name = c.args.name.now in
    let inv = c.views.invariant in
    let within : c.views.done < c.len-count.result = search rules in
    let last = last_of inv.0 (omega (arith, inv.3, within)) in
    let now : c.views.views.entries ≡ last.0 ++ last.1 ∷ lasting name inv.1 = inv.4 ∙ ap (λ f. f ++ lasting name inv.1) last.2 ∙ append_assoc last.0 (last.1 ∷ []) (lasting name inv.1) in
    let old : entries ≡ last.0 ++ last.1 ∷ inv.1 = inv.2 ∙ ap (λ f. f ++ inv.1) last.2 ∙ append_assoc last.0 (last.1 ∷ []) inv.1 in
    let at : length last.0 ≡ c.len-count.result - 1 - c.views.done = omega (arith, last.3, inv.3, within) in
    let apart = apart_behind last.0 inv.1 last.1 (subst (λ es. IsDistinct bytes_eq (keys_of es)) old c.len-count.ensures.unique) in
    let live = all_at (IsLiveView c.args.db.now) last.0 inv.1 last.1 (recursion_from_All (IsLiveView c.args.db.now) (last.0 ++ last.1 ∷ inv.1) (subst (λ es. AreLiveViews c.args.db.now es) old c.requires)) in
    record {
      live = λ front back v parts place.
          let same : v ≡ last.1 = same_place c.views.views.entries front back last.0 (lasting name inv.1) v last.1 parts now (place ∙ sym at) in
          subst (λ (u : List ℕ × Seen). (known_of c.views.db u.0 ≡ Some (what.Live, u.1.query.first.schema)) × (u.1.next ≡ None) × HaveKinds u.1.query.first.schema u.1.result) (sym same)
          (ap (λ d. known_of d last.1.0) inv.5 ∙ known_settled name last.1.0 inv.1 c.args.db.now apart ∙ live.known, live.settled, live.answer.kinds);
    }

pub views-preserved : goal.views-preserved
views-preserved c =
    let entries = c.args.views.now.entries in
    let name = c.args.name.now in
    let inv = c.views.invariant in
    let within : c.views.done < c.len-count.result = search rules in
    let last = last_of inv.0 (omega (arith, inv.3, within)) in
    let now : c.views.views.entries ≡ last.0 ++ last.1 ∷ lasting name inv.1 = inv.4 ∙ ap (λ f. f ++ lasting name inv.1) last.2 ∙ append_assoc last.0 (last.1 ∷ []) (lasting name inv.1) in
    let old : entries ≡ last.0 ++ last.1 ∷ inv.1 = inv.2 ∙ ap (λ f. f ++ inv.1) last.2 ∙ append_assoc last.0 (last.1 ∷ []) inv.1 in
    let at : length last.0 ≡ c.len-count.result - 1 - c.views.done = omega (arith, last.3, inv.3, within) in
    let s = c.settle_at.ensures last.0 (lasting name inv.1) last.1 now at in
    (last.0, last.1 ∷ inv.1, old, omega (arith, last.3, inv.3), s.0 ∙ ap (λ rest. last.0 ++ rest) (lasting-cons name last.1 inv.1), s.1 ∙ ap (settle_one name last.1) inv.5)

pub returns-clause-apart : goal.returns-clause-apart
returns-clause-apart c = c.len-count.ensures.unique

pub returns-clause-left : goal.returns-clause-left
returns-clause-left c =
    let name = c.args.name.now in
    let inv = c.views.invariant in
    let nil = none_left inv.0 c.views.done c.len-count.result inv.3 (search rules) in
    inv.4 ∙ ap (λ f. f ++ lasting name inv.1) nil ∙ ap (lasting name) (sym (inv.2 ∙ ap (λ f. f ++ inv.1) nil))

pub returns-clause-settled : goal.returns-clause-settled
returns-clause-settled c =
    let inv = c.views.invariant in
    let nil = none_left inv.0 c.views.done c.len-count.result inv.3 (search rules) in
    inv.5 ∙ ap (λ vs. settle_views c.args.name.now vs c.args.db.now) (sym (inv.2 ∙ ap (λ f. f ++ inv.1) nil))

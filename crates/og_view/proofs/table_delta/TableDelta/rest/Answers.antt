use Rattle.std.proofs.Common.{◌++◌, Some, length, ap, subst, sym, ◌∙◌}
use Rattle.std.specs.Cmp.Lexicographic.{same_text}
use Rattle.std.specs.Option.{option_map}
use Rattle.std.proofs.lemmas.List.Elements.{filter-append}
use Rattle.og_rel.specs.Places.{ArePlaces, others_at}
use Rattle.og_reduce.specs.Sieves.{row_passes, sifted}
use Rattle.og_db.specs.Deltas.{rest_at, rest_of}
use Rattle.og_db.specs.Held.{rows_of}
use Rattle.og_view.proofs.ChangedLemmas.{rows_of-another, rows_of-here, rows_of-none}
use Rattle.og_view.proofs.table_delta.TableDelta.rest.Goals as goal

pub returns-in_default : goal.returns-in_default
returns-in_default c =
    let over = c.args.self.now in
    sym (ap (option_map (sifted c.args.sieve.now)) (rows_of-none over.tables.now over.name.now (rest_of over.delta.now) c.args.name.now (sym c.in_default.ensures)))

pub others-requires : goal.others-requires
others-requires c =
    let over = c.args.self.now in
    let own = c.in-Some.own.now in
    subst (λ at. ArePlaces at (length own)) (sym c.as_slice.ensures.value)
    (c.requires.rows own (ap (rows_of over.tables.now) (same_text over.name.now c.args.name.now c.if-eq.ensures) ∙ sym c.in-Some.ensures)).at

pub returns-then-eq : goal.returns-then-eq
returns-then-eq c =
    let over = c.args.self.now in
    let delta = over.delta.now in
    let sieve = c.args.sieve.now in
    let own = c.in-Some.own.now in
    let here = same_text over.name.now c.args.name.now c.if-eq.ensures in
    ap Some
    (c.in_ok-append.ensures.appended
    ∙ (λ i. c.in_ok-rows.ensures i ++ c.in_ok-passing.ensures i)
    ∙ (λ i. sifted sieve (others_at (c.as_slice.ensures.value i) own) ++ sifted sieve delta.left)
    ∙ sym (filter-append (λ p. row_passes sieve p.0) (others_at delta.at.items own) delta.left))
    ∙ sym (ap (option_map (sifted sieve))
    (ap (rows_of (rest_at over.name.now delta over.tables.now)) (sym here) ∙ rows_of-here over.tables.now over.name.now (rest_of delta) own (ap (rows_of over.tables.now) here ∙ sym c.in-Some.ensures)))

pub returns : goal.returns
returns c =
    let over = c.args.self.now in
    let sieve = c.args.sieve.now in
    ap Some c.in_ok-of_table.ensures
    ∙ sym (ap (option_map (sifted sieve)) (rows_of-another over.tables.now over.name.now (rest_of over.delta.now) c.args.name.now (sym c.if-eq.ensures) ∙ sym c.in-Some.ensures))

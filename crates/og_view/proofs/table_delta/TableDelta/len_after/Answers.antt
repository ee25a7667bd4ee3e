use Rattle.std.proofs.Common.{◌≡◌, Some, length, ap, sym, ◌∙◌, arith}
use Rattle.std.specs.Cmp.Lexicographic.{same_text}
use Rattle.std.proofs.lemmas.List.{length-append}
use Rattle.og_exec.specs.Tables.{size_or_none, sizes_of}
use Rattle.og_rel.specs.Places.{others_at}
use Rattle.og_rel.proofs.PlaceLemmas.{length-others}
use Rattle.og_db.specs.Deltas.{after_at, rest_of, rows_after}
use Rattle.og_db.specs.Held.{rows_of}
use Rattle.og_view.proofs.ChangedLemmas.{rows_of-another, rows_of-here, rows_of-none}
use Rattle.og_view.proofs.table_delta.TableDelta.len_after.Goals as goal

pub returns-in_default : goal.returns-in_default
returns-in_default c =
    let over = c.args.self.now in
    let none : sizes_of (rows_of (after_at over.name.now over.delta.now over.tables.now)) c.args.name.now ≡ 0 =
    ap size_or_none (rows_of-none over.tables.now over.name.now (rows_after over.delta.now) c.args.name.now (sym c.in_default.ensures)) in
    omega (arith, none)

pub returns-then-eq : goal.returns-then-eq
returns-then-eq c =
    let over = c.args.self.now in
    let delta = over.delta.now in
    let own = c.in-Some.own.now in
    let here = same_text over.name.now c.args.name.now c.if-eq.ensures in
    let is : rows_of over.tables.now over.name.now ≡ Some own = ap (rows_of over.tables.now) here ∙ sym c.in-Some.ensures in
    let size : sizes_of (rows_of (after_at over.name.now delta over.tables.now)) c.args.name.now ≡ length (rows_after delta own) =
    ap (sizes_of (rows_of (after_at over.name.now delta over.tables.now))) (sym here) ∙ ap size_or_none (rows_of-here over.tables.now over.name.now (rows_after delta) own is) in
    omega (
      arith,
      size,
      length-append (rest_of delta own) delta.added,
      length-append (others_at delta.at.items own) delta.left,
      length-others delta.at.items own (c.requires.rows own is).at,
      c.len-len.ensures,
      ap length c.rel.ensures,
      c.len.ensures,
      c.saturating_sub-others.ensures,
      c.len-then-eq.ensures,
      c.saturating_add-rest.ensures,
      c.len-then-eq-2.ensures,
      c.saturating_add.ensures,
    )

pub returns-else-eq : goal.returns-else-eq
returns-else-eq c =
    let over = c.args.self.now in
    let name = c.args.name.now in
    let size : sizes_of (rows_of (after_at over.name.now over.delta.now over.tables.now)) name ≡ length c.in-Some.own.now =
    ap size_or_none (rows_of-another over.tables.now over.name.now (rows_after over.delta.now) name (sym c.if-eq.ensures) ∙ sym c.in-Some.ensures) in
    omega (arith, size, c.len-len.ensures, ap length c.rel.ensures)

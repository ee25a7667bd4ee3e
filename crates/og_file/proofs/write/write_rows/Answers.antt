use Rattle.std.proofs.Common.{◌++◌, ◌∷◌, [], ◌∙◌, ap, map, sym, subst, rules, take, append_assoc, append-nil}
use Rattle.std.specs.List.{All}
use Rattle.std.proofs.lemmas.List.Elements.{All-nil}
use Rattle.csv.proofs.RoundTrip.{rows_text}
use Rattle.og_file.specs.SavedFile.{Pair}
use Rattle.og_file.specs.Writers.{HasText}
use Rattle.og_file.specs.Writing.{IsReadAgain, row_record}
use Rattle.og_file.proofs.WriteLemmas.{all_next, all_of, fields_all, fields_next, pair_at, rows_push}
use Rattle.og_file.proofs.write.write_rows.Goals as goal

pub rows-init : goal.rows-init
rows-init g c = (
  λ records had. subst (λ rows. HasText c.args.writer.now (rows_text rows)) (sym (append-nil records)) had,
  All-nil (λ p. All IsReadAgain p.0),
)

pub rows-preserved : goal.rows-preserved
rows-preserved g c =
    let i = c.rows.i in
    let pair : Pair = (c.row.result.now, c.days.result.now) in
    let at = pair_at c.args.rel.now i c.row.result.now c.days.result.now (search rules) c.row.ensures c.days.ensures in
    let next = fields_next row_record c.args.rel.now i pair at in (
      λ records had.
          let before = records ++ take i (map row_record c.args.rel.now) in
          let same = ap (λ rows. rows_text (records ++ rows)) next ∙ ap rows_text (sym (append_assoc records (take i (map row_record c.args.rel.now)) (row_record pair ∷ []))) ∙ rows_push before (row_record pair) in
          subst (HasText c.write_row.new.writer) (sym same) (c.in_ok-write_row.ensures.text (rows_text before) (c.rows.invariant.0 records had)),
      all_next (λ p. All IsReadAgain p.0) c.args.rel.now i pair at c.rows.invariant.1 c.in_ok-write_row.ensures.cells,
    )

pub returns-clause-text : goal.returns-clause-text
returns-clause-text g c = λ records had. rw (fields_all row_record c.args.rel.now c.rows.i (search rules)) at (c.rows.invariant.0 records had)

pub returns-clause-cells : goal.returns-clause-cells
returns-clause-cells g c = all_of (λ p. All IsReadAgain p.0) c.args.rel.now c.rows.i (search rules) c.rows.invariant.1

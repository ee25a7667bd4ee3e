use Rattle.std.proofs.Common.{◌≡◌, ◌+◌, ◌≤◌, ◌<◌, suc, rules, [], drop, length, reverse, ap, refl, sym, subst, ◌∙◌, arith}
use Rattle.std.proofs.lemmas.List.{length-reverse, reverse-reverse}
use Rattle.std.proofs.lemmas.Result.{err_from_is_err_and}
use Rattle.og_faults.proofs.CountLemmas.{fault_after}
use Rattle.og_outline.specs.Outlines.{IsOutlineOf}
use Rattle.og_session.proofs.LeftLemmas.{drop-next, left_first}
use Rattle.og_session.specs.Runs.{run_from}
use Rattle.og_sql.proofs.RunSteps.{at_start, not_begun, turn-last, turn-more, turn-stopped}
use Rattle.og_sql.proofs.pieces.put_pieces.Goals as goal

pub stmts-init : goal.stmts-init
stmts-init g c = record {
  at = λ start contents told holds. at_start contents start c.args.stmts c.args.outline.now _ c.args.text.now.items holds told (subst (λ o. IsOutlineOf o []) (sym c.requires.no_names) c.no_outline.ensures) c.requires.no_text;
  left = ap reverse c.in_ok-left.ensures ∙ reverse-reverse c.args.stmts;
  files = refl;
}

pub returns-in_err-read-clause-carried : goal.returns-in_err-read-clause-carried
returns-in_err-read-clause-carried g c start contents told holds =
    let p = err_from_is_err_and c.from_residual.result c.from_residual.ensures.1 in
    rw (p.1, p.2) (not_begun c.args.stmts (run_from contents 1 [] c.args.stmts) c.args.text.now.items _ c.requires.no_text ((run_from contents 1 [] c.args.stmts).done, refl))

pub returns-in_err-left-clause-carried : goal.returns-in_err-left-clause-carried
returns-in_err-left-clause-carried g c start contents told holds =
    let p = err_from_is_err_and c.from_residual-in_err-left.result c.from_residual-in_err-left.ensures.1 in
    rw (p.1, p.2) (not_begun c.args.stmts (run_from contents 1 [] c.args.stmts) c.args.text.now.items _ c.requires.no_text ((run_from contents 1 [] c.args.stmts).done, refl))

pub returns-in_err-put_piece-clause-carried : goal.returns-in_err-put_piece-clause-carried
returns-in_err-put_piece-clause-carried g c start contents told holds =
    let p = err_from_is_err_and c.from_residual-in_err-put_piece.result c.from_residual-in_err-put_piece.ensures.1 in
    let at = c.stmts.invariant.at start contents told holds in
    let next = left_first c.args.stmts c.stmts.place (subst (λ n. c.stmts.place < n) (ap length c.in_ok-left.ensures ∙ length-reverse c.args.stmts) (search rules)) in
    rw (p.1, p.2)
    (turn-stopped contents start c.args.stmts c.stmts.place (c.stmts.place + 1) (omega arith) c.stmts.outline _ c.stmts.text.items at next.0 next.1 next.2 c.put_piece.new.outline c.put_piece.new.text.items c.in_err-put_piece.field-0.0
    c.in_err-put_piece.ensures.kept (c.in_err-put_piece.ensures.ends next.0 next.1 (c.stmts.invariant.left ∙ next.2) start contents at.before at.held))

pub returns-in_err-put_piece-clause-files : goal.returns-in_err-put_piece-clause-files
returns-in_err-put_piece-clause-files g c =
    let p = err_from_is_err_and c.from_residual-in_err-put_piece.result c.from_residual-in_err-put_piece.ensures.1 in
    rw (p.1, p.2) (fault_after _ _ _ _ c.stmts.invariant.files c.in_err-put_piece.ensures.files)

pub put_piece-requires : goal.put_piece-requires
put_piece-requires g c =
    let next = left_first c.args.stmts c.stmts.place (subst (λ n. c.stmts.place < n) (ap length c.in_ok-left.ensures ∙ length-reverse c.args.stmts) (search rules)) in
    record { next = (next.0, next.1, c.stmts.invariant.left ∙ next.2) }

pub stmts-preserved : goal.stmts-preserved
stmts-preserved g c =
    let stmts = c.args.stmts in
    let place = c.stmts.place in
    let next = left_first stmts place (subst (λ n. c.stmts.place < n) (ap length c.in_ok-left.ensures ∙ length-reverse c.args.stmts) (search rules)) in
    let left = c.stmts.invariant.left ∙ next.2 in
    let one : place + 1 ≡ suc place = omega arith in
    let after : drop (place + 1) stmts ≡ next.1 = ap (λ n. drop n stmts) one ∙ drop-next place stmts next.1 next.0 next.2 in
    record {
      at = λ start contents told holds.
          let at = c.stmts.invariant.at start contents told holds in
          turn-more contents start stmts place (place + 1) (omega arith) c.stmts.outline _ c.stmts.text.items at next.0 next.1 next.2 c.put_piece.new.outline _ c.put_piece.new.text.items after
          (c.in_ok-put_piece.ensures.folder start at.held.files) (c.in_ok-put_piece.ensures.under next.0 next.1 left) (c.in_ok-put_piece.ensures.ends next.0 next.1 left start contents at.before at.held);
      left = c.in_ok-put_piece.ensures.left next.0 next.1 left ∙ sym after;
      files = c.in_ok-put_piece.ensures.files ∙ c.stmts.invariant.files;
    }

pub returns-clause-carried : goal.returns-clause-carried
returns-clause-carried g c start contents told holds =
    turn-last contents start c.args.stmts c.stmts.place c.stmts.outline _ c.stmts.text.items (c.stmts.invariant.at start contents told holds)
    (subst (λ n. n ≤ c.stmts.place) (ap length c.in_ok-left.ensures ∙ length-reverse c.args.stmts) (search rules))

use Rattle.std.proofs.Common.{◌≡◌, ◌+◌, ◌≤◌, ◌<◌, suc, rules, [], drop, length, reverse, ap, refl, sym, subst, ◌∙◌, arith}
use Rattle.std.specs.List.{AllByRecursion}
use Rattle.std.proofs.KnownBytes.{Appends-nil}
use Rattle.std.proofs.lemmas.List.{length-reverse, reverse-reverse}
use Rattle.std.proofs.lemmas.List.Elements.{recursion_from_All}
use Rattle.std.proofs.lemmas.Result.{err_from_is_err_and}
use Rattle.og_db.specs.Runs.{stored}
use Rattle.og_faults.proofs.CountLemmas.{absence_after, fault_after}
use Rattle.og_script.specs.LiveTexts.{IsLiveStmt}
use Rattle.og_session.specs.Runs.{run_from}
use Rattle.og_session.proofs.GrownLemmas.{grown_more, grown_none}
use Rattle.og_session.proofs.StopLemmas.{not_early}
use Rattle.og_session.proofs.AskLemmas.{none-counted, none_asked}
use Rattle.og_session.proofs.RunLemmas.{last-counted, not_begun, turn-counted, turn-last, turn-more, turn-stopped}
use Rattle.og_session.proofs.StateLemmas.{held_at_start, left_state}
use Rattle.og_session.proofs.LeftLemmas.{drop-next, left_first}
use Rattle.og_session.proofs.carry.run_all.Goals as goal

pub stmts-init : goal.stmts-init
stmts-init g c = record {
  at = λ start contents told holds. record { before = []; state = held_at_start start c.args.names.now _ c.no_statements.ensures c.requires.empty told; written = Appends-nil _; asked = none_asked _; rest = refl };
  left = ap reverse c.in_ok-left.ensures ∙ reverse-reverse c.args.stmts;
  live = recursion_from_All IsLiveStmt c.args.stmts c.requires.live;
  files = refl;
  writes = refl;
  grown = grown_none _;
  absences = omega arith;
}

pub returns-in_err-left-clause-ends : goal.returns-in_err-left-clause-ends
returns-in_err-left-clause-ends g c start contents told holds =
    let p = err_from_is_err_and c.from_residual.result c.from_residual.ensures.1 in
    rw (p.1, p.2) (not_begun start contents (run_from contents 1 [] c.args.stmts) (stored c.args.names.now.names) _ (g.K.Sink.written c.args.out.now)
    (left_state start [] c.args.names.now _ (held_at_start start c.args.names.now _ c.no_statements.ensures c.requires.empty told)))

pub returns-in_err-step-clause-ends : goal.returns-in_err-step-clause-ends
returns-in_err-step-clause-ends g c start contents told holds =
    let p = err_from_is_err_and c.from_residual-in_err-step.result c.from_residual-in_err-step.ensures.1 in
    let stmts = c.args.stmts in
    let at = c.stmts.invariant.at start contents told holds in
    let next = left_first stmts c.stmts.place (subst (λ n. c.stmts.place < n) (ap length c.in_ok-left.ensures ∙ length-reverse c.args.stmts) (search rules)) in
    rw (p.1, p.2)
    (turn-stopped start contents stmts next.1 c.stmts.place (c.stmts.place + 1) next.0 c.stmts.names c.step.new.names (g.F.Files.folder c.stmts.files) (g.F.Files.folder c.step.new.files)
    (g.K.Sink.written c.args.out.now) (g.K.Sink.written c.stmts.out) (g.K.Sink.written c.step.new.out) (g.F.Files.calls c.args.files.now) (g.F.Files.calls c.stmts.files) (g.F.Files.calls c.step.new.files)
    at next.2 (omega arith) c.in_err-step.field-0.0
    (c.in_err-step.ensures.ends next.0 next.1 (c.stmts.invariant.left ∙ next.2) start contents holds at.before at.state))

pub returns-in_err-step-clause-asked : goal.returns-in_err-step-clause-asked
returns-in_err-step-clause-asked g c start contents told holds =
    let p = err_from_is_err_and c.from_residual-in_err-step.result c.from_residual-in_err-step.ensures.1 in
    let stmts = c.args.stmts in
    let at = c.stmts.invariant.at start contents told holds in
    let next = left_first stmts c.stmts.place (subst (λ n. c.stmts.place < n) (ap length c.in_ok-left.ensures ∙ length-reverse c.args.stmts) (search rules)) in
    let left = c.stmts.invariant.left ∙ next.2 in
    rw (p.1, p.2)
    (turn-counted start contents stmts next.1 c.stmts.place (c.stmts.place + 1) next.0 c.stmts.names c.step.new.names (g.F.Files.folder c.stmts.files) (g.F.Files.folder c.step.new.files)
    (g.K.Sink.written c.args.out.now) (g.K.Sink.written c.stmts.out) (g.K.Sink.written c.step.new.out) (g.F.Files.calls c.args.files.now) (g.F.Files.calls c.stmts.files) (g.F.Files.calls c.step.new.files)
    at next.2 (omega arith) c.in_err-step.field-0.0 (c.in_err-step.ensures.asked next.0 next.1 left start contents holds at.before at.state)
    (c.in_err-step.ensures.ends next.0 next.1 left start contents holds at.before at.state))

pub returns-in_err-step-clause-late : goal.returns-in_err-step-clause-late
returns-in_err-step-clause-late g c early =
    let p = err_from_is_err_and c.from_residual-in_err-step.result c.from_residual-in_err-step.ensures.1 in
    not_early c.from_residual-in_err-step.result (rw (p.1, p.2) c.in_err-step.ensures.late) early

pub returns-in_err-step-clause-files : goal.returns-in_err-step-clause-files
returns-in_err-step-clause-files g c =
    let p = err_from_is_err_and c.from_residual-in_err-step.result c.from_residual-in_err-step.ensures.1 in
    rw (p.1, p.2) (fault_after _ _ _ _ c.stmts.invariant.files c.in_err-step.ensures.files)

pub returns-in_err-step-clause-writes : goal.returns-in_err-step-clause-writes
returns-in_err-step-clause-writes g c =
    let p = err_from_is_err_and c.from_residual-in_err-step.result c.from_residual-in_err-step.ensures.1 in
    rw (p.1, p.2) (fault_after _ _ _ _ c.stmts.invariant.writes c.in_err-step.ensures.writes)

pub returns-in_err-step-clause-grown : goal.returns-in_err-step-clause-grown
returns-in_err-step-clause-grown g c = grown_more _ _ _ c.stmts.invariant.grown c.in_err-step.ensures.grown

pub returns-in_err-step-clause-absences : goal.returns-in_err-step-clause-absences
returns-in_err-step-clause-absences g c =
    let p = err_from_is_err_and c.from_residual-in_err-step.result c.from_residual-in_err-step.ensures.1 in
    absence_after c.from_residual-in_err-step.result _ _ _ c.stmts.invariant.absences (rw (p.1, p.2) c.in_err-step.ensures.absences)

pub step-requires-clause-next : goal.step-requires-clause-next
step-requires-clause-next g c κs within =
    let place = c.stmts.place in
    let next = left_first c.args.stmts place (subst (λ n. c.stmts.place < n) (ap length c.in_ok-left.ensures ∙ length-reverse c.args.stmts) (search rules)) in
    (next.0, next.1, c.stmts.invariant.left ∙ next.2, (subst (AllByRecursion IsLiveStmt) next.2 c.stmts.invariant.live).0)

pub stmts-preserved : goal.stmts-preserved
stmts-preserved g c =
    let stmts = c.args.stmts in
    let place = c.stmts.place in
    let next = left_first stmts place (subst (λ n. c.stmts.place < n) (ap length c.in_ok-left.ensures ∙ length-reverse c.args.stmts) (search rules)) in
    let left = c.stmts.invariant.left ∙ next.2 in
    let more = (subst (AllByRecursion IsLiveStmt) next.2 c.stmts.invariant.live).1 in
    let one : place + 1 ≡ suc place = omega arith in
    let after : drop (place + 1) stmts ≡ next.1 = ap (λ n. drop n stmts) one ∙ drop-next place stmts next.1 next.0 next.2 in
    record {
      at = λ start contents told holds.
          let at = c.stmts.invariant.at start contents told holds in
          turn-more start contents stmts next.1 place (place + 1) next.0 _ _ _ _ _ _ _ _ _ _ at next.2 (omega arith) (place + 1) after (omega arith)
          (c.in_ok-step.ensures.asked next.0 next.1 left start contents holds at.before at.state) (c.in_ok-step.ensures.ends next.0 next.1 left start contents holds at.before at.state);
      left = c.in_ok-step.ensures.left next.0 next.1 left ∙ sym after;
      live = subst (AllByRecursion IsLiveStmt) (sym after) more;
      files = c.in_ok-step.ensures.files ∙ c.stmts.invariant.files;
      writes = c.in_ok-step.ensures.writes ∙ c.stmts.invariant.writes;
      grown = grown_more _ _ _ c.stmts.invariant.grown c.in_ok-step.ensures.grown;
      absences = omega (arith, c.in_ok-step.ensures.absences, c.stmts.invariant.absences);
    }

pub returns-clause-ends : goal.returns-clause-ends
returns-clause-ends g c start contents told holds =
    turn-last start contents c.args.stmts c.stmts.place c.stmts.names _ _ _ _ _ (c.stmts.invariant.at start contents told holds)
    (subst (λ n. n ≤ c.stmts.place) (ap length c.in_ok-left.ensures ∙ length-reverse c.args.stmts) (search rules))

pub returns-clause-asked : goal.returns-clause-asked
returns-clause-asked g c start contents told holds =
    last-counted start contents c.args.stmts c.stmts.place c.stmts.names _ _ _ _ _ (c.stmts.invariant.at start contents told holds)
    (subst (λ n. n ≤ c.stmts.place) (ap length c.in_ok-left.ensures ∙ length-reverse c.args.stmts) (search rules))

pub returns-in_err-left-clause-asked : goal.returns-in_err-left-clause-asked
returns-in_err-left-clause-asked g c start contents told holds =
    let p = err_from_is_err_and c.from_residual.result c.from_residual.ensures.1 in
    rw (p.1, p.2) (none-counted (run_from contents 1 [] c.args.stmts) start (stored c.args.names.now.names) _ _ _
    (left_state start [] c.args.names.now _ (held_at_start start c.args.names.now _ c.no_statements.ensures c.requires.empty told)) refl)

pub returns-in_err-left-clause-grown : goal.returns-in_err-left-clause-grown
returns-in_err-left-clause-grown g c = grown_none _

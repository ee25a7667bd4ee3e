use Rattle.std.proofs.Common.{[], Err, ap, sym, subst}
use Rattle.std.proofs.KnownBytes.{Appends-nil}
use Rattle.std.proofs.lemmas.Result.{err_from_is_err_and}
use Rattle.og_words.specs.declared.command.Command.TheVariants as commands
use Rattle.og_script.specs.Scripts.{IsScriptOf}
use Rattle.og_session.specs.Ends.{EndsUnreported, RunAsks}
use Rattle.og_session.specs.Runs.{run_from}
use Rattle.og_session.proofs.AskLemmas.{none_taken, script-asks, words-ask}
use Rattle.og_session.proofs.EndLemmas.{end_late, end_script, end_words, late_read, run_command, run_end, run_words, script_end, words_end}
use Rattle.og_script.proofs.KeptLemmas.{kept_whole}
use Rattle.og_session.proofs.EndedLemmas.{kept_words}
use Rattle.og_session.proofs.StateLemmas.{state_at_start}
use Rattle.og_session.proofs.GrownLemmas.{grown_none}
use Rattle.og_session.proofs.carry.carry_out.Goals as goal

pub returns-in_err-command-clause-told : goal.returns-in_err-command-clause-told
returns-in_err-command-clause-told g c source start run told files defined =
    let p = err_from_is_err_and c.from_residual.result c.from_residual.ensures.1 in
    let folder = g.F.Files.folder c.args.files.now in
    let state = state_at_start start c.args.db.now folder c.no_statements.ensures c.requires.empty files in (
      [],
      Appends-nil _,
      rw (p.1, p.2) (words_end run start c.args.db.now folder state c.in_err-command.field-0.0
          (λ e. c.defined_runs.ensures.no_command c.args.words.now source start run (c.in_err-command.ensures.no_command (ap Err e)) defined)),
    )

pub returns-in_err-command-clause-ended : goal.returns-in_err-command-clause-ended
returns-in_err-command-clause-ended g c =
    let p = err_from_is_err_and c.from_residual.result c.from_residual.ensures.1 in
    rw (p.1, p.2) (end_words c.args.words.now _ c.in_err-command.field-0.0 (λ e. c.in_err-command.ensures.no_command (ap Err e)))

pub returns-in_err-stmts-clause-told : goal.returns-in_err-stmts-clause-told
returns-in_err-stmts-clause-told g c source start run told files defined =
    let p = err_from_is_err_and c.from_residual-in_err-stmts.result c.from_residual-in_err-stmts.ensures.1 in
    let words = c.args.words.now in
    let command = c.in_ok-command.command in
    let is = c.in_ok-command.ensures.command in
    let folder = g.F.Files.folder c.args.files.now in
    let state = state_at_start start c.args.db.now folder c.no_statements.ensures c.requires.empty files in (
      [],
      Appends-nil _,
      rw (p.1, p.2) (script_end run start c.args.db.now folder state command source c.in_err-stmts.field-0.0 c.in_err-stmts.ensures.stops
          (c.in_err-stmts.ensures.stopped source (λ r. told (run_words words command is r)))
          (λ why r fault. c.defined_runs.ensures.no_script words source why start run (run_words words command is r) fault defined)),
    )

pub returns-in_err-stmts-clause-untouched : goal.returns-in_err-stmts-clause-untouched
returns-in_err-stmts-clause-untouched g c none = c.in_err-stmts.ensures.untouched (λ r. none (run_words c.args.words.now c.in_ok-command.command c.in_ok-command.ensures.command r))

pub returns-in_err-stmts-clause-ended : goal.returns-in_err-stmts-clause-ended
returns-in_err-stmts-clause-ended g c =
    let p = err_from_is_err_and c.from_residual-in_err-stmts.result c.from_residual-in_err-stmts.ensures.1 in
    let is = c.in_ok-command.ensures.command in
    rw (p.1, p.2) (end_script c.args.words.now _ c.in_ok-command.command is c.in_err-stmts.field-0.0 c.in_err-stmts.ensures.stops
    (λ source told. c.in_err-stmts.ensures.stopped source (λ r. told (run_words c.args.words.now c.in_ok-command.command is r))))

pub returns-clause-told : goal.returns-clause-told
returns-clause-told g c source start run told files defined =
    let words = c.args.words.now in
    let command = c.in_ok-command.command in
    let is = c.in_ok-command.ensures.command in
    let stmts = c.in_ok-stmts.stmts in
    let found = c.defined_runs.ensures.script words source start run command stmts is (c.in_ok-stmts.ensures.script source (λ r. told (run_words words command is r))) defined in
    let ends = c.run_statements.ensures.ends start found.0 files found.1 in
    let folder = g.F.Files.folder c.run_statements.new.files in (
      ends.0,
      ends.1,
      subst (λ r. EndsUnreported r start c.run_statements.new.db folder ends.0 c.run_statements.result) (sym found.2)
          (run_end (run_from found.0 1 [] stmts) start c.run_statements.new.db folder ends.0 c.run_statements.result ends.2),
    )

pub returns-clause-untouched : goal.returns-clause-untouched
returns-clause-untouched g c none = c.in_ok-stmts.ensures.untouched (λ r. none (run_words c.args.words.now c.in_ok-command.command c.in_ok-command.ensures.command r))

pub returns-clause-ended : goal.returns-clause-ended
returns-clause-ended g c =
    let words = c.args.words.now in
    let command = c.in_ok-command.command in
    let is = c.in_ok-command.ensures.command in
    let stmts = c.in_ok-stmts.stmts in
    end_late words _ command is c.run_statements.result c.run_statements.ensures.late
    (λ source why run told fault. c.defined_runs.ensures.no_fault source why stmts
    (subst (λ k. IsScriptOf k source stmts) (sym (c.defined_runs.ensures.command words (commands.Run run.0) command run.1 is)) (c.in_ok-stmts.ensures.script source (λ r. told))) fault)

pub returns-clause-reads : goal.returns-clause-reads
returns-clause-reads g c = late_read c.run_statements.result _ _ c.run_statements.ensures.late c.in_ok-stmts.ensures.reads

-- ---- what was kept of the source

pub returns-in_err-command-clause-kept : goal.returns-in_err-command-clause-kept
returns-in_err-command-clause-kept g c source run left =
    let p = err_from_is_err_and c.from_residual.result c.from_residual.ensures.1 in
    rw (p.1, p.2) (kept_words source c.args.script.now.items c.in_err-command.field-0.0)

pub returns-in_err-stmts-clause-kept : goal.returns-in_err-stmts-clause-kept
returns-in_err-stmts-clause-kept g c source run left =
    let p = err_from_is_err_and c.from_residual-in_err-stmts.result c.from_residual-in_err-stmts.ensures.1 in
    let command = run_command c.args.words.now c.in_ok-command.command (c.defined_runs.ensures.command c.args.words.now) c.in_ok-command.ensures.command run in
    rw (p.1, p.2) (c.in_err-stmts.ensures.kept_at source command left)

pub returns-in_err-stmts-clause-none_kept : goal.returns-in_err-stmts-clause-none_kept
returns-in_err-stmts-clause-none_kept g c none =
    ap (λ v. v.items) (c.in_err-stmts.ensures.none_kept (λ r. none (run_words c.args.words.now c.in_ok-command.command c.in_ok-command.ensures.command r)))

pub returns-clause-kept : goal.returns-clause-kept
returns-clause-kept g c source run left =
    let command = run_command c.args.words.now c.in_ok-command.command (c.defined_runs.ensures.command c.args.words.now) c.in_ok-command.ensures.command run in
    kept_whole source _ c.run_statements.result (c.in_ok-stmts.ensures.kept source command left)

pub returns-clause-none_kept : goal.returns-clause-none_kept
returns-clause-none_kept g c none =
    ap (λ v. v.items) (c.in_ok-stmts.ensures.none_kept (λ r. none (run_words c.args.words.now c.in_ok-command.command c.in_ok-command.ensures.command r)))

pub returns-in_err-command-clause-grown : goal.returns-in_err-command-clause-grown
returns-in_err-command-clause-grown g c = grown_none _

pub returns-in_err-stmts-clause-grown : goal.returns-in_err-stmts-clause-grown
returns-in_err-stmts-clause-grown g c = grown_none _

-- ---- how often the files were asked

pub returns-in_err-command-clause-asked : goal.returns-in_err-command-clause-asked
returns-in_err-command-clause-asked g c source start run told files defined =
    let p = err_from_is_err_and c.from_residual.result c.from_residual.ensures.1 in
    let folder = g.F.Files.folder c.args.files.now in
    let state = state_at_start start c.args.db.now folder c.no_statements.ensures c.requires.empty files in
    rw (p.1, p.2) (words-ask run start c.args.db.now folder _ state c.in_err-command.field-0.0
    (λ e. c.defined_runs.ensures.no_command c.args.words.now source start run (c.in_err-command.ensures.no_command (ap Err e)) defined))

pub returns-in_err-stmts-clause-asked : goal.returns-in_err-stmts-clause-asked
returns-in_err-stmts-clause-asked g c source start run told files defined =
    let p = err_from_is_err_and c.from_residual-in_err-stmts.result c.from_residual-in_err-stmts.ensures.1 in
    let words = c.args.words.now in
    let command = c.in_ok-command.command in
    let is = c.in_ok-command.ensures.command in
    let folder = g.F.Files.folder c.args.files.now in
    let state = state_at_start start c.args.db.now folder c.no_statements.ensures c.requires.empty files in
    rw (p.1, p.2) (script-asks run start c.args.db.now folder _ state command source c.in_err-stmts.field-0.0 c.in_err-stmts.ensures.stops
    (c.in_err-stmts.ensures.stopped source (λ r. told (run_words words command is r)))
    (λ why r fault. c.defined_runs.ensures.no_script words source why start run (run_words words command is r) fault defined))

pub returns-clause-asked : goal.returns-clause-asked
returns-clause-asked g c source start run told files defined =
    let words = c.args.words.now in
    let command = c.in_ok-command.command in
    let is = c.in_ok-command.ensures.command in
    let stmts = c.in_ok-stmts.stmts in
    let found = c.defined_runs.ensures.script words source start run command stmts is (c.in_ok-stmts.ensures.script source (λ r. told (run_words words command is r))) defined in
    subst (λ r. RunAsks r start c.run_statements.new.db (g.F.Files.folder c.run_statements.new.files) (g.F.Files.calls c.args.files.now) (g.F.Files.calls c.run_statements.new.files) c.run_statements.result) (sym found.2)
    (c.run_statements.ensures.asked start found.0 files found.1)

pub script_of-requires-clause-not_ended : goal.script_of-requires-clause-not_ended
script_of-requires-clause-not_ended g c r = c.requires.not_ended (run_words c.args.words.now c.in_ok-command.command c.in_ok-command.ensures.command r)

-- ---- what was taken of the source

pub returns-in_err-command-clause-taken : goal.returns-in_err-command-clause-taken
returns-in_err-command-clause-taken g c = none_taken _ _

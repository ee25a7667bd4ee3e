use Rattle.std.proofs.Common.{refl}
use Rattle.std.proofs.lemmas.Result.{err_from_is_err_and}
use Rattle.og_db.specs.Effects.{on_names}
use Rattle.og_faults.proofs.CountLemmas.{put_counted}
use Rattle.og_session.specs.Output.{piece_of}
use Rattle.og_session.proofs.StopLemmas.{put_stopped}
use Rattle.og_session.proofs.StateLemmas.{left_state}
use Rattle.og_session.proofs.StepLemmas.{put-stopped, execute-stopped}
use Rattle.og_session.proofs.step.on_names.Goals as goal

pub returns-in-Err-clause-ends : goal.returns-in-Err-clause-ends
returns-in-Err-clause-ends g c of start n before folder state =
    rw c.from.ensures (put-stopped start n before (on_names (c.args.typed, of)) c.args.names.now folder _ _ c.in-Err.refusal (left_state start before c.args.names.now folder state) (c.in-Err.ensures.put of state.files before state.running.world))

pub returns-in-Err-clause-stops : goal.returns-in-Err-clause-stops
returns-in-Err-clause-stops g c = rw c.from.ensures (put_stopped c.in-Err.refusal)

pub returns-in-Err-clause-writes : goal.returns-in-Err-clause-writes
returns-in-Err-clause-writes g c = rw c.from.ensures (put_counted c.in-Err.refusal _ _ c.in-Err.ensures.counted)

pub returns-in_err-execute-clause-ends : goal.returns-in_err-execute-clause-ends
returns-in_err-execute-clause-ends g c of start n before folder state =
    let p = err_from_is_err_and c.from_residual.result c.from_residual.ensures.1 in
    rw (p.1, p.2) (execute-stopped start n before (on_names (c.args.typed, of)) c.args.names.now c.execute.new.names folder _ _ (left_state start before c.args.names.now folder state) c.in_err-execute.ensures.refused
    (c.in_default.ensures.put of state.files before state.running.world))

pub returns-clause-ends : goal.returns-clause-ends
returns-clause-ends g c of start n before folder state = (
  piece_of before (on_names (c.args.typed, of)),
  c.in_default.ensures.put of state.files before state.running.world,
  (on_names (c.args.typed, of), refl, record { files = state.files; held_files = state.held_files; running = c.in_ok-execute.ensures.done of state.files before state.running }, refl),
)

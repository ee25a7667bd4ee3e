use Rattle.std.proofs.Common.{◌+◌, ◌∙◌, refl, arith}
use Rattle.std.specs.List.{flat_map}
use Rattle.std.proofs.lemmas.Result.{err_from_is_err_and}
use Rattle.og_faults.proofs.CountLemmas.{fault_after}
use Rattle.og_output.proofs.PutLemmas.{none_put, block_put, block_refused, rows_of_blocks}
use Rattle.og_output.proofs.puts.put_blocks.Goals as goal

pub rounds-init : goal.rounds-init
rounds-init g c = record { put = none_put _ (flat_map (λ b. b.now) c.args.blocks.now); stays = refl }

pub returns-in_err-put_round-clause-put : goal.returns-in_err-put_round-clause-put
returns-in_err-put_round-clause-put g c =
    let p = err_from_is_err_and c.from_residual.result c.from_residual.ensures.1 in
    let parts = rows_of_blocks c.args.blocks.now c.rounds.next (c.rounds.next + c.min.result) (omega arith) in
    rw (p.1, p.2) (block_refused _ _ _ _ _ _ _ parts c.rounds.invariant.put c.in_err-put_round.field-0.0 c.in_err-put_round.ensures.put)

pub rounds-preserved : goal.rounds-preserved
rounds-preserved g c =
    let parts = rows_of_blocks c.args.blocks.now c.rounds.next (c.rounds.next + c.min.result) (omega arith) in
    record {
      put = block_put _ _ _ _ _ _ _ parts c.rounds.invariant.put c.in_ok-put_round.ensures.put;
      stays = c.in_ok-put_round.ensures.counted ∙ c.rounds.invariant.stays;
    }

pub returns-in_err-put_round-clause-counted : goal.returns-in_err-put_round-clause-counted
returns-in_err-put_round-clause-counted g c =
    let p = err_from_is_err_and c.from_residual.result c.from_residual.ensures.1 in
    rw (p.1, p.2) (fault_after _ _ _ _ c.rounds.invariant.stays c.in_err-put_round.ensures.counted)

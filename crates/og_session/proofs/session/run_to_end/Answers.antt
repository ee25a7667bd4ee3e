use Rattle.std.proofs.Common.{Result, Err, sym, subst}
use Rattle.og_faults.specs.Faults.{fault_line}
use Rattle.og_faults.specs.declared.stop.Stop.{Stop}
use Rattle.og_session.specs.Ends.{Ends, EndsUnreported}
use Rattle.og_session.proofs.AskLemmas.{counted_of, unsaid-counted}
use Rattle.og_session.proofs.EndLemmas.{end_unput, reported, unfaulted, unsaid}
use Rattle.og_session.proofs.GrownLemmas.{grown_by_put, grown_more}
use Rattle.og_session.proofs.EndedLemmas.{kept_put}
use Rattle.og_session.proofs.session.run_to_end.Goals as goal

pub returns-in_default-clause-told : goal.returns-in_default-clause-told
returns-in_default-clause-told g c source start run told files defined =
    unfaulted run start _ _ _ _ c.carry_out-end.result c.in_default.ensures.none (c.carry_out-end.ensures.told source start run told files defined)

pub returns-in-Err-clause-told : goal.returns-in-Err-clause-told
returns-in-Err-clause-told g c source start run told files defined =
    let folder = g.F.Files.folder c.carry_out-end.new.files in
    let e = c.carry_out-end.ensures.told source start run told files defined in
    rw c.from.ensures (unsaid run start c.carry_out-end.new.db folder _ _ _ c.in-Some.fault.now
    (e.0, e.1, subst (λ (r : Result (Unit {0}) Stop). EndsUnreported run start c.carry_out-end.new.db folder e.0 r) c.in-Some.ensures.fault e.2)
    c.in-Err.refusal c.in-Err.ensures.put)

pub returns-in-Err-clause-ended : goal.returns-in-Err-clause-ended
returns-in-Err-clause-ended g c = rw c.from.ensures (end_unput c.args.words.now _ c.in-Err.refusal)

pub returns-clause-told : goal.returns-clause-told
returns-clause-told g c source start run told files defined =
    let folder = g.F.Files.folder c.carry_out-end.new.files in
    let e = c.carry_out-end.ensures.told source start run told files defined in
    let whole = reported run start c.carry_out-end.new.db folder _ _ _ c.in-Some.fault.now
    (e.0, e.1, subst (λ (r : Result (Unit {0}) Stop). EndsUnreported run start c.carry_out-end.new.db folder e.0 r) c.in-Some.ensures.fault e.2) c.in_default-put_fault.ensures.put in
    (whole.0, whole.1, subst (λ (r : Result (Unit {0}) Stop). Ends run start c.carry_out-end.new.db folder whole.0 r) (sym c.in-Some.ensures.fault) whole.2)

pub returns-in-Err-clause-kept : goal.returns-in-Err-clause-kept
returns-in-Err-clause-kept g c source run left = rw c.from.ensures (kept_put source _ c.in-Err.refusal)

pub returns-in-Err-clause-grown : goal.returns-in-Err-clause-grown
returns-in-Err-clause-grown g c = grown_more _ _ _ c.carry_out-end.ensures.grown (grown_by_put _ _ (fault_line c.in-Some.fault.now) (Err c.in-Err.refusal) c.in-Err.ensures.put)

pub returns-clause-grown : goal.returns-clause-grown
returns-clause-grown g c = grown_more _ _ _ c.carry_out-end.ensures.grown (fault_line c.in-Some.fault.now, c.in_default-put_fault.ensures.put)

pub returns-in-Err-clause-asked : goal.returns-in-Err-clause-asked
returns-in-Err-clause-asked g c source start run told files defined =
    let folder = g.F.Files.folder c.carry_out-end.new.files in
    rw c.from.ensures (unsaid-counted run start c.carry_out-end.new.db folder _ _ c.in-Err.refusal
    (counted_of run start c.carry_out-end.new.db folder _ _ c.carry_out-end.result (c.carry_out-end.ensures.asked source start run told files defined)))

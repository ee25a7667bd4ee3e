use Rattle.std.proofs.Common.{rules, ◌≡◌, ◌+◌, subst, sym}
use Rattle.og_file.specs.Records.{IsRecordAt}
use Rattle.og_file.proofs.bad_records.bad_end.Goals as goal

pub returns-in_default-2-clause-none : goal.returns-in_default-2-clause-none
returns-in_default-2-clause-none c = λ next at.
    let behind : c.in-Some.behind ≡ c.args.number + 1 = search rules in
    (rw c.in_default-2.is at c.in_ok-record_at.ensures.none) next (subst (λ n. IsRecordAt c.args.bytes.now n next) (sym behind) at)

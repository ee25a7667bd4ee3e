use Rattle.std.proofs.Common.{◌≡◌}
use Rattle.og_session.specs.Output.{printed, valid_range}
use Rattle.og_output.proofs.LongestLemmas.{one_longest}
use Rattle.og_session.proofs.ValidLemmas.{printed_longest}
use Rattle.og_session.proofs.law.valid_ranges.Goals as goal

pub returns-clause-longest : goal.returns-clause-longest
returns-clause-longest c = printed_longest

pub returns-clause-one : goal.returns-clause-one
returns-clause-one c before name day range is range_is =
    one_longest (λ d. printed before name d ≡ printed before name day) day range (valid_range before name day) range_is (printed_longest before name day is)

use Rattle.std.proofs.Common.{rules, ◌∙◌, sym, subst}
use Rattle.std.specs.Str.{IsUtf8}
use Rattle.og_file.proofs.HeaderLemmas.{IsPlain, decimal-plain, decimal-utf8, reads, reads_none}
use Rattle.og_file.proofs.header.number_of.Goals as goal

pub returns-then-not-is_plain-clause-none : goal.returns-then-not-is_plain-clause-none
returns-then-not-is_plain-clause-none c = λ n less is. cc (sym c.if-not-is_plain.true ∙ c.is_plain.ensures.1 (subst IsPlain (sym is) (decimal-plain n less)))

pub returns-in_default-clause-none : goal.returns-in_default-clause-none
returns-in_default-clause-none c = λ n less is. c.in_default.ensures.cases.0 (subst IsUtf8 (sym is) (decimal-utf8 n less))

pub returns-clause-number : goal.returns-clause-number
returns-clause-number c = rw (c.ok.ensures.value) (reads c.args.digits.now c.parse.result (c.is_plain.ensures.0 c.if-not-is_plain.false) (search rules))

pub returns-clause-none : goal.returns-clause-none
returns-clause-none c = rw (c.ok.ensures.value) (reads_none c.args.digits.now c.parse.result (search rules))

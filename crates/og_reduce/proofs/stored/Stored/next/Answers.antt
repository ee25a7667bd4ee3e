use Rattle.std.proofs.Common.{IfSome, subst, arith, pos}
use Rattle.og_reduce.specs.Columns.{AreNumbers}
use Rattle.og_reduce.proofs.ColumnLemmas.{length-numbers, number-at}
use Rattle.og_reduce.proofs.stored.Stored.next.Goals as goal

pub returns-in-Some-clause-others : goal.returns-in-Some-clause-others
returns-in-Some-clause-others g c k p least before =
    let rel = c.args.self.now in
    let beside = c.in-Some.beside in
    let are = subst (λ o. IfSome o (λ b. AreNumbers b.place b.numbers.now rel)) c.in-Some.is c.requires.beside in
    let long = length-numbers beside.place beside.numbers.now rel are in
    c.next_of.ensures.others k least before _ (number-at beside.place beside.numbers.now rel k (pos 0) p (omega (arith, before, c.next_of.ensures.most, long)) are)

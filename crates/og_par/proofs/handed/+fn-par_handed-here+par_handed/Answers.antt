use Rattle.std.proofs.Common.{sym, ap, ◌∙◌, ◌++◌, ◌∷◌, [], subst}
use Rattle.std.proofs.lemmas.Result.{IfOk-at_ok, IfOk-weaker}
use Rattle.og_par.specs.Phase.{MadeOfEach}
use Rattle.og_par.specs.Handed.{MakesOf}
use Rattle.og_par.proofs.PartLemmas.{MakesOf-met, nothing}
use Rattle.og_par.proofs.PhaseLemmas.{MadeOfEach-one, MadeOfEach-joined}
use Rattle.og_par.proofs.handed.+fn-par_handed-here+par_handed.Goals as goal

pub returns-then-is_empty : goal.returns-then-is_empty
returns-then-is_empty g t c =
    let makes = MakesOf g.F.Fn c.args.make.now in
    let none = nothing c.pop.new.self.items c.pop.new.self.len c.is_empty.result c.pop.new.self.ok.0 c.is_empty.ensures c.if-is_empty.true in
    let one = c.in-Some.ensures.items ∙ ap (λ l. l ++ c.in-Some.last ∷ []) none in
    IfOk-weaker c.make.result _ _ (λ v m. subst (λ l. MadeOfEach makes l v.items) (sym one) (MadeOfEach-one makes c.in-Some.last v.items m))
    (MakesOf-met g.F.Fn c.args.make.now c.in-Some.last c.make.result c.make.ensures)

pub returns : goal.returns
returns g t c =
    let makes = MakesOf g.F.Fn c.args.make.now in
    let made = c.in_ok-before.field-0.items in
    let more = c.in_ok-last.field-0.items in
    let before = IfOk-at_ok (λ v. MadeOfEach makes c.pop.new.self.items v.items) c.in_ok-before.was c.join-last.ensures.second in
    let last = IfOk-at_ok (λ v. makes c.in-Some.last v.items) c.in_ok-last.was c.join-last.ensures.first in
    IfOk-weaker c.followed.result _ _ (λ v e. MadeOfEach-joined makes c.pop.new.self.items (c.in-Some.last ∷ []) c.args.items.items made more v.items c.in-Some.ensures.items e before
    (MadeOfEach-one makes c.in-Some.last more last)) c.followed.ensures

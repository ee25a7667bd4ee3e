use Rattle.std.proofs.Common.{◌≡◌, ◌++◌, Less, option_copied, rules, ap, sym, subst, ◌∙◌}
use Rattle.std.specs.List.Sorted.{IsStrictlySortedBy}
use Rattle.std.proofs.lemmas.List.{append-nil}
use Rattle.og_output.proofs.OrderedLemmas.{no_end, no_start, rises_behind}
use Rattle.og_output.proofs.ordered.comes_after.Goals as goal

pub returns-in_default : goal.returns-in_default
returns-in_default g c _ rows last rise rises =
    let none = no_end rows (ap option_copied (sym c.in_default.is) ∙ last) in
    subst (IsStrictlySortedBy g.F.Ord.cmp) (ap (λ l. l ++ c.args.list.now) (sym none)) rises

pub returns-in_default-first : goal.returns-in_default-first
returns-in_default-first g c _ rows last rise rises =
    let none = no_start c.args.list.now (ap option_copied (sym c.in_default-first.is) ∙ c.first.ensures.value) in
    subst (IsStrictlySortedBy g.F.Ord.cmp) (sym (ap (λ l. rows ++ l) none ∙ append-nil rows)) rise

pub returns : goal.returns
returns g c before rows last rise rises =
    let less : c.cmp.result ≡ Less = search rules in
    rises_behind g.met.F.Ord.total rows c.args.list.now c.in-Some.end.now c.in-Some-first.start.now
    (ap option_copied (sym c.in-Some.is) ∙ last) (ap option_copied (sym c.in-Some-first.is) ∙ c.first.ensures.value) (sym c.cmp.ensures ∙ less) rise rises

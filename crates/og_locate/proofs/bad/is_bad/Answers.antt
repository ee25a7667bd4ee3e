use Rattle.std.proofs.Common.{rules, subst, sym, ◌∙◌}
use Rattle.og_locate.specs.BadTexts.{IsNoneBehind}
use Rattle.og_locate.proofs.bad.is_bad.Goals as goal

pub returns : goal.returns
returns c = (
  λ bad. (search rules, c.in_ok-content.content, c.in_ok-content.ensures.content, subst (IsNoneBehind c.args.earlier c.args.word) c.as_slice.ensures (c.is_none_behind.ensures.0 bad)),
  λ bad.
      c.is_none_behind.ensures.1 (subst (IsNoneBehind c.args.earlier c.args.word) (c.tokens_of_a_script.ensures.one_content c.args.script.now _ bad.1 c.in_ok-content.content bad.2 c.in_ok-content.ensures.content ∙ sym c.as_slice.ensures) bad.3),
)

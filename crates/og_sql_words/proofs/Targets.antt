-- The target by the values of the options, and where there is none.
use Rattle.std.proofs.Common.{◌≡◌, ◌∙◌, List, Option, Some, None, codes, sym, ap, ap₂}
use Rattle.clap.specs.Words.{Row, Text, first_of}
use Rattle.og_sql_words.specs.Asked.{IsTarget, explain_of, live_of, spread_of}
use Rattle.og_sql_words.specs.declared.target.ExplainForm.{ExplainForm}
use Rattle.og_sql_words.specs.declared.target.LiveForm.{LiveForm}
use Rattle.og_sql_words.specs.declared.target.Spread.{Spread}
use Rattle.og_sql_words.specs.declared.target.Target.{Target}

pub is_target : (rows : List Row) (o p q r : Option Text) (x : ExplainForm) (l : LiveForm) (s : Spread)
    → x ≡ explain_of o → o ≡ first_of (codes "explain") rows
    → Some l ≡ live_of p → p ≡ first_of (codes "live") rows
    → spread_of q r ≡ Some s → q ≡ first_of (codes "shard-by") rows → r ≡ first_of (codes "citus") rows
    → IsTarget rows (record { live = l; explain = x; spread = s })
is_target rows o p q r x l s hx eo hl ep hs eq er = record {
  explain = hx ∙ ap explain_of eo;
  live = sym (hl ∙ ap live_of ep);
  spread = sym (ap₂ spread_of eq er) ∙ hs;
}

pub no_live : (rows : List Row) (p : Option Text) → None ≡ live_of p → p ≡ first_of (codes "live") rows → (t : Target) → ¬ IsTarget rows t
no_live rows p none e t h = let bad : None ≡ Some t.live = none ∙ ap live_of e ∙ h.live in cc

pub no_spread : (rows : List Row) (q r : Option Text) → spread_of q r ≡ None → q ≡ first_of (codes "shard-by") rows → r ≡ first_of (codes "citus") rows → (t : Target) → ¬ IsTarget rows t
no_spread rows q r none e f t h = let bad : None ≡ Some t.spread = sym none ∙ ap₂ spread_of e f ∙ h.spread in cc

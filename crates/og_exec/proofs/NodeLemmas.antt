-- What the nodes of a plan ask of their inputs, and their rows and sizes by those of the inputs.
use Rattle.std.proofs.Common.{◌≡◌, ◌++◌, ◌*◌, ◌≤◌, ◌&&◌, ℕ, ℤ, Bool, true, List, Option, Some, None, length, map, refl, sym, ap, ap₂, subst, ◌∙◌, arith}
use Rattle.std.specs.List.{All, list_all}
use Rattle.std.specs.Option.{is_some}
use Rattle.std.proofs.lemmas.Bool.{and_parts}
use Rattle.std.proofs.lemmas.List.{length-map}
use Rattle.std.proofs.lemmas.List.Elements.{All-weaker}
use Rattle.og_value.specs.declared.kind.Kind.{Kind}
use Rattle.og_value.specs.declared.term.SetOp.{SetOp}
use Rattle.og_query.specs.Kinds.{fixed_kind}
use Rattle.og_query.specs.Queries.{Fixed}
use Rattle.og_query.specs.Sizes.{Sizes}
use Rattle.og_query.specs.declared.condition.Cond.{Cond}
use Rattle.og_query.specs.declared.expression.Expr.{Expr}
use Rattle.og_plan.specs.Meaning.{all_hold, are_equal, matches, node_rows}
use Rattle.og_plan.specs.Premises.{named_columns}
use Rattle.og_plan.specs.Shapes.{are_sound, is_key_pair, shape_step, plan_kinds, is_sound, scans_step, scans_of}
use Rattle.og_plan.specs.Sizes.{plan_size}
use Rattle.og_plan.specs.declared.plan.ColPair.{ColPair}
use Rattle.og_plan.specs.declared.plan.Plan.{Plan, fold-Plan}
use Rattle.og_plan.specs.declared.plan.Plan.TheVariants as p
use Rattle.og_plan.specs.declared.plan.PlanSemi.{PlanSemi}
use Rattle.og_plan.proofs.PlanEquations.{fold-Filter, fold-Product, fold-KeyJoin, fold-OverlapJoin, fold-Project, fold-Combine, fold-Semis}
use Rattle.og_exec.specs.Keys.{have_one_key}
use Rattle.og_exec.specs.Tables.{Relation, Relations, rows_on, rows_at, IsThere, AreThere}
use Rattle.og_exec.proofs.KeyLemmas.{keys_are_columns}
use Rattle.og_exec.proofs.MatchLemmas.{matches-same}
use Rattle.og_exec.proofs.ShapeLemmas.{HasKinds, keeps_kinds, day_rows, all_first, all_second}

-- the shape of a plan
abbrev shape : Plan → Option (List Kind) × Bool
shape = fold-Plan (Option (List Kind) × Bool) shape_step

-- what two inputs below a join are
pub record AreSound (left right : Plan) : Type 0 where
  pub first : is_sound left ≡ true
  pub second : is_sound right ≡ true
  pub some_first : is_some (plan_kinds left) ≡ true
  pub some_second : is_some (plan_kinds right) ≡ true

-- what is there, where something is
there_is : {A : Type 0} (o : Option A) → is_some o ≡ true → (x : A) × (o ≡ Some x)
there_is (Some x) e = (x, refl)
there_is None e = cc

sound_parts : (left right : Plan) → are_sound (shape left) (shape right) ≡ true → AreSound left right
sound_parts left right e =
    let a = and_parts (is_some (plan_kinds left) && is_some (plan_kinds right) && is_sound left) (is_sound right) e in
    let b = and_parts (is_some (plan_kinds left) && is_some (plan_kinds right)) (is_sound left) a.0 in
    let c = and_parts (is_some (plan_kinds left)) (is_some (plan_kinds right)) b.0 in
    record { first = b.1; second = a.1; some_first = c.0; some_second = c.1 }

-- the inputs of a plan that is made well are made well
module _ (plan : Plan) (sound : is_sound plan ≡ true) where
  -- of a filter
  pub sound_Filter : (input : Plan) (parts : List Cond) → plan ≡ p.Filter input parts → is_sound input ≡ true
  sound_Filter input parts e = (and_parts (is_some (plan_kinds input)) (is_sound input) (sym (ap (λ s. s.1) (fold-Filter shape_step input parts)) ∙ sym (ap is_sound e) ∙ sound)).1

  -- of a product
  pub sound_Product : (left right : Plan) → plan ≡ p.Product left right → AreSound left right
  sound_Product left right e = sound_parts left right (sym (ap (λ s. s.1) (fold-Product shape_step left right)) ∙ sym (ap is_sound e) ∙ sound)

  -- of a join on keys, and the pairs of its keys
  pub sound_KeyJoin : (left right : Plan) (pairs : List ColPair) (rest : List Cond) → plan ≡ p.KeyJoin left right pairs rest
      → AreSound left right × (list_all (is_key_pair (plan_kinds left) (plan_kinds right)) pairs ≡ true)
  sound_KeyJoin left right pairs rest e =
      let both = and_parts (are_sound (shape left) (shape right)) (list_all (is_key_pair (plan_kinds left) (plan_kinds right)) pairs)
      (sym (ap (λ s. s.1) (fold-KeyJoin shape_step left right pairs rest)) ∙ sym (ap is_sound e) ∙ sound) in
      (sound_parts left right both.0, both.1)

  -- of a join on periods that overlap
  pub sound_OverlapJoin : (left right : Plan) (pair : ColPair) (rest : List Cond) → plan ≡ p.OverlapJoin left right pair rest → AreSound left right
  sound_OverlapJoin left right pair rest e = sound_parts left right (sym (ap (λ s. s.1) (fold-OverlapJoin shape_step left right pair rest)) ∙ sym (ap is_sound e) ∙ sound)

  -- of a projection
  pub sound_Project : (input : Plan) (items : List Expr) → plan ≡ p.Project input items → is_sound input ≡ true
  sound_Project input items e = sym (ap (λ s. s.1) (fold-Project shape_step input items)) ∙ sym (ap is_sound e) ∙ sound

  -- of two answers combined
  pub sound_Combine : (op : SetOp) (left right : Plan) → plan ≡ p.Combine op left right → (is_sound left ≡ true) × (is_sound right ≡ true)
  sound_Combine op left right e = and_parts (is_sound left) (is_sound right) (sym (ap (λ s. s.1) (fold-Combine shape_step op left right)) ∙ sym (ap is_sound e) ∙ sound)

  -- of semis
  pub sound_Semis : (input : Plan) (semis : List PlanSemi) → plan ≡ p.Semis input semis → is_sound input ≡ true
  sound_Semis input semis e = sym (ap (λ s. s.1) (fold-Semis shape_step input semis)) ∙ sym (ap is_sound e) ∙ sound

-- the tables of two inputs are there
abbrev AreBothThere : Relations → Plan → Plan → Type 0
AreBothThere named left right = AreThere named (scans_of left) × AreThere named (scans_of right)

both_there : (named : Relations) (left right : Plan) → AreThere named (scans_of left ++ scans_of right) → AreBothThere named left right
both_there named left right there = (all_first (IsThere named) (scans_of left) (scans_of right) there, all_second (IsThere named) (scans_of left) (scans_of right) there)

-- where the tables of a plan are there, so are those of its inputs
module _ (named : Relations) (plan : Plan) (there : AreThere named (scans_of plan)) where
  -- of a filter
  pub there_Filter : (input : Plan) (parts : List Cond) → plan ≡ p.Filter input parts → AreThere named (scans_of input)
  there_Filter input parts e = subst (AreThere named) (ap scans_of e ∙ fold-Filter scans_step input parts) there

  -- of a product
  pub there_Product : (left right : Plan) → plan ≡ p.Product left right → AreBothThere named left right
  there_Product left right e = both_there named left right (subst (AreThere named) (ap scans_of e ∙ fold-Product scans_step left right) there)

  -- of a join on keys
  pub there_KeyJoin : (left right : Plan) (pairs : List ColPair) (rest : List Cond) → plan ≡ p.KeyJoin left right pairs rest → AreBothThere named left right
  there_KeyJoin left right pairs rest e = both_there named left right (subst (AreThere named) (ap scans_of e ∙ fold-KeyJoin scans_step left right pairs rest) there)

  -- of a join on periods that overlap
  pub there_OverlapJoin : (left right : Plan) (pair : ColPair) (rest : List Cond) → plan ≡ p.OverlapJoin left right pair rest → AreBothThere named left right
  there_OverlapJoin left right pair rest e = both_there named left right (subst (AreThere named) (ap scans_of e ∙ fold-OverlapJoin scans_step left right pair rest) there)

  -- of a projection
  pub there_Project : (input : Plan) (items : List Expr) → plan ≡ p.Project input items → AreThere named (scans_of input)
  there_Project input items e = subst (AreThere named) (ap scans_of e ∙ fold-Project scans_step input items) there

  -- of two answers combined
  pub there_Combine : (op : SetOp) (left right : Plan) → plan ≡ p.Combine op left right → AreBothThere named left right
  there_Combine op left right e = both_there named left right (subst (AreThere named) (ap scans_of e ∙ fold-Combine scans_step op left right) there)

  -- of semis
  pub there_Semis : (input : Plan) (semis : List PlanSemi) → plan ≡ p.Semis input semis → AreThere named (scans_of input)
  there_Semis input semis e =
      all_first (IsThere named) (scans_of input) (map (λ semi. named_columns semi.table) semis) (subst (AreThere named) (ap scans_of e ∙ fold-Semis scans_step input semis) there)

module _ (named : Relations) (d : ℤ) where
  -- the rows of a join on keys, by the keys
  pub rows_KeyJoin : (plan left right : Plan) (pairs : List ColPair) (rest : List Cond) → plan ≡ p.KeyJoin left right pairs rest → is_sound plan ≡ true → AreThere named (scans_of plan)
      → day_rows named d plan ≡ matches (λ x y. have_one_key pairs x y && all_hold d rest (x ++ y)) (day_rows named d left) (day_rows named d right)
  rows_KeyJoin plan left right pairs rest e sound there =
      let s = sound_KeyJoin plan sound left right pairs rest e in
      let t = there_KeyJoin named plan there left right pairs rest e in
      let l = there_is (plan_kinds left) s.0.some_first in
      let r = there_is (plan_kinds right) s.0.some_second in
      let keys = subst (λ o. list_all (is_key_pair (Some l.0) o) pairs ≡ true) r.1 (subst (λ o. list_all (is_key_pair o (plan_kinds right)) pairs ≡ true) l.1 s.1) in
      ap (day_rows named d) e ∙ fold-KeyJoin (node_rows d (rows_at named d)) left right pairs rest
      ∙ sym (matches-same (HasKinds l.0) (HasKinds r.0) (λ x y. have_one_key pairs x y && all_hold d rest (x ++ y)) (λ x y. list_all (are_equal x y) pairs && all_hold d rest (x ++ y))
      (λ x y a b. ap (λ same. same && all_hold d rest (x ++ y)) (keys_are_columns l.0 r.0 x y pairs a b keys))
      (day_rows named d left) (day_rows named d right)
      (keeps_kinds named d left l.0 t.0 l.1) (keeps_kinds named d right r.0 t.1 r.1))

  -- each left row of a join on periods that overlap has as many values as the left input has kinds
  pub wide_OverlapJoin : (plan left right other : Plan) (pair : ColPair) (rest : List Cond) (width : ℕ) → plan ≡ p.OverlapJoin left right pair rest → is_sound plan ≡ true → AreThere named (scans_of plan)
      → other ≡ left → ((kinds : List Kind) → plan_kinds other ≡ Some kinds → width ≡ length kinds) → All (λ x. length x ≡ width) (day_rows named d left)
  wide_OverlapJoin plan left right other pair rest width e sound there same wide =
      let s = sound_OverlapJoin plan sound left right pair rest e in
      let t = there_OverlapJoin named plan there left right pair rest e in
      let l = there_is (plan_kinds left) s.some_first in
      All-weaker (HasKinds l.0) (λ x. length x ≡ width) (λ x has. sym (length-map x fixed_kind) ∙ ap length has ∙ sym (wide l.0 (ap plan_kinds same ∙ l.1))) (day_rows named d left) (keeps_kinds named d left l.0 t.0 l.1)

  -- the rows of a plan with one input, made of those of its answer
  pub of_one : (f : List Fixed → List Fixed) (plan input other : Plan) (made : List Fixed) (answer : Relation)
      → day_rows named d plan ≡ f (day_rows named d input) → other ≡ input
      → made ≡ f (rows_on answer d) → rows_on answer d ≡ day_rows named d other → made ≡ day_rows named d plan
  of_one f plan input other made answer is_f same step before = step ∙ ap f before ∙ ap (λ q. f (day_rows named d q)) same ∙ sym is_f

  -- and rows that are made of those of two inputs
  pub of_two : (f : List Fixed → List Fixed → List Fixed) (rows : List Fixed) (left right : Plan) (made : List Fixed) (first second : Relation)
      → rows ≡ f (day_rows named d left) (day_rows named d right)
      → made ≡ f (rows_on first d) (rows_on second d) → rows_on first d ≡ day_rows named d left → rows_on second d ≡ day_rows named d right → made ≡ rows
  of_two f rows left right made first second is_f step before before_other = step ∙ ap₂ f before before_other ∙ sym is_f

-- a size that is multiplied
more_product : (made a b m n size : ℕ) → made ≤ a * b → a ≤ m → b ≤ n → size ≡ m * n → made ≤ size
more_product made a b m n size h k l e = grind (arith, h, k, l, e)

-- the size of a plan that is that of its input
pub size_of_one : (sizes : Sizes) (plan input other : Plan) (made : ℕ) (answer : Relation)
    → plan_size sizes plan ≡ plan_size sizes input → other ≡ input
    → made ≤ length answer → length answer ≤ plan_size sizes other → made ≤ plan_size sizes plan
size_of_one sizes plan input other made answer e same h k = let size = ap (plan_size sizes) same in omega (arith, e, size, h, k)

-- the size of a plan that multiplies the sizes of its inputs
pub size_of_two : (sizes : Sizes) (plan left right : Plan) (made : ℕ) (first second : Relation)
    → plan_size sizes plan ≡ plan_size sizes left * plan_size sizes right
    → made ≤ length first * length second → length first ≤ plan_size sizes left → length second ≤ plan_size sizes right → made ≤ plan_size sizes plan
size_of_two sizes plan left right made first second e h k l =
    more_product made (length first) (length second) (plan_size sizes left) (plan_size sizes right) (plan_size sizes plan) h k l e

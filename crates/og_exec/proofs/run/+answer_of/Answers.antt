use Rattle.std.proofs.Common.{◌≡◌, ◌++◌, ◌&&◌, ℤ, true, filter, length, sym, ap, subst, ◌∙◌, arith}
use Rattle.std.specs.List.{All}
use Rattle.std.proofs.lemmas.Result.{IfOk-weaker}
use Rattle.og_base.specs.Calendar.{IsRefDay}
use Rattle.og_query.specs.Queries.{image}
use Rattle.og_plan.specs.Meaning.{all_hold, do_overlap, matches, node_rows}
use Rattle.og_plan.specs.Shapes.{scans_of}
use Rattle.og_plan.specs.Sizes.{node_size, plan_size}
use Rattle.og_plan.proofs.PlanEquations.{fold-Filter, fold-Project, fold-Semis, fold-Product, fold-KeyJoin, fold-OverlapJoin}
use Rattle.og_exec.specs.Answers.{rel_of}
use Rattle.og_exec.specs.Images.{images}
use Rattle.og_exec.specs.Keys.{have_one_key}
use Rattle.og_exec.specs.Tables.{AreThere, rows_at, rows_on, sizes_of}
use Rattle.og_exec.proofs.MatchLemmas.{matches-whole}
use Rattle.og_exec.proofs.NodeLemmas.{sound_Product, sound_KeyJoin, sound_OverlapJoin, sound_Combine, there_Filter, there_Product, there_KeyJoin, there_OverlapJoin, there_Project, there_Combine, there_Semis, rows_KeyJoin, wide_OverlapJoin, of_one, of_two, size_of_one, size_of_two}
use Rattle.og_exec.proofs.ShapeLemmas.{day_rows}
use Rattle.og_exec.proofs.run.+answer_of.Goals as goal

pub answer_of-answer_of-requires-clause-tables : goal.answer_of-answer_of-requires-clause-tables
answer_of-answer_of-requires-clause-tables g t c κs within =
    let named = g.T.Tables.named c.args.tables.now in
    subst (λ q. AreThere named (scans_of q)) (sym c.get.ensures) (there_Filter named c.args.plan.now c.requires.tables c.in-Filter.input c.in-Filter.parts c.in-Filter.is)

pub answer_of-both-requires-clause-sound_left : goal.answer_of-both-requires-clause-sound_left
answer_of-both-requires-clause-sound_left g t c κs within = (sound_Product c.args.plan.now c.requires.sound c.in-Product.left c.in-Product.right c.in-Product.is).first

pub answer_of-both-requires-clause-sound_right : goal.answer_of-both-requires-clause-sound_right
answer_of-both-requires-clause-sound_right g t c κs within = (sound_Product c.args.plan.now c.requires.sound c.in-Product.left c.in-Product.right c.in-Product.is).second

pub answer_of-both-requires-clause-tables_left : goal.answer_of-both-requires-clause-tables_left
answer_of-both-requires-clause-tables_left g t c κs within = (there_Product (g.T.Tables.named c.args.tables.now) c.args.plan.now c.requires.tables c.in-Product.left c.in-Product.right c.in-Product.is).0

pub answer_of-both-requires-clause-tables_right : goal.answer_of-both-requires-clause-tables_right
answer_of-both-requires-clause-tables_right g t c κs within = (there_Product (g.T.Tables.named c.args.tables.now) c.args.plan.now c.requires.tables c.in-Product.left c.in-Product.right c.in-Product.is).1

pub answer_of-both-requires-in-KeyJoin-clause-sound_left : goal.answer_of-both-requires-in-KeyJoin-clause-sound_left
answer_of-both-requires-in-KeyJoin-clause-sound_left g t c κs within = (sound_KeyJoin c.args.plan.now c.requires.sound c.in-KeyJoin.left c.in-KeyJoin.right c.in-KeyJoin.pairs c.in-KeyJoin.rest c.in-KeyJoin.is).0.first

pub answer_of-both-requires-in-KeyJoin-clause-sound_right : goal.answer_of-both-requires-in-KeyJoin-clause-sound_right
answer_of-both-requires-in-KeyJoin-clause-sound_right g t c κs within = (sound_KeyJoin c.args.plan.now c.requires.sound c.in-KeyJoin.left c.in-KeyJoin.right c.in-KeyJoin.pairs c.in-KeyJoin.rest c.in-KeyJoin.is).0.second

pub answer_of-both-requires-in-KeyJoin-clause-tables_left : goal.answer_of-both-requires-in-KeyJoin-clause-tables_left
answer_of-both-requires-in-KeyJoin-clause-tables_left g t c κs within = (there_KeyJoin (g.T.Tables.named c.args.tables.now) c.args.plan.now c.requires.tables c.in-KeyJoin.left c.in-KeyJoin.right c.in-KeyJoin.pairs c.in-KeyJoin.rest c.in-KeyJoin.is).0

pub answer_of-both-requires-in-KeyJoin-clause-tables_right : goal.answer_of-both-requires-in-KeyJoin-clause-tables_right
answer_of-both-requires-in-KeyJoin-clause-tables_right g t c κs within = (there_KeyJoin (g.T.Tables.named c.args.tables.now) c.args.plan.now c.requires.tables c.in-KeyJoin.left c.in-KeyJoin.right c.in-KeyJoin.pairs c.in-KeyJoin.rest c.in-KeyJoin.is).1

pub answer_of-both-requires-in-OverlapJoin-clause-sound_left : goal.answer_of-both-requires-in-OverlapJoin-clause-sound_left
answer_of-both-requires-in-OverlapJoin-clause-sound_left g t c κs within = (sound_OverlapJoin c.args.plan.now c.requires.sound c.in-OverlapJoin.left c.in-OverlapJoin.right c.in-OverlapJoin.pair c.in-OverlapJoin.rest c.in-OverlapJoin.is).first

pub answer_of-both-requires-in-OverlapJoin-clause-sound_right : goal.answer_of-both-requires-in-OverlapJoin-clause-sound_right
answer_of-both-requires-in-OverlapJoin-clause-sound_right g t c κs within = (sound_OverlapJoin c.args.plan.now c.requires.sound c.in-OverlapJoin.left c.in-OverlapJoin.right c.in-OverlapJoin.pair c.in-OverlapJoin.rest c.in-OverlapJoin.is).second

pub answer_of-both-requires-in-OverlapJoin-clause-tables_left : goal.answer_of-both-requires-in-OverlapJoin-clause-tables_left
answer_of-both-requires-in-OverlapJoin-clause-tables_left g t c κs within = (there_OverlapJoin (g.T.Tables.named c.args.tables.now) c.args.plan.now c.requires.tables c.in-OverlapJoin.left c.in-OverlapJoin.right c.in-OverlapJoin.pair c.in-OverlapJoin.rest c.in-OverlapJoin.is).0

pub answer_of-both-requires-in-OverlapJoin-clause-tables_right : goal.answer_of-both-requires-in-OverlapJoin-clause-tables_right
answer_of-both-requires-in-OverlapJoin-clause-tables_right g t c κs within = (there_OverlapJoin (g.T.Tables.named c.args.tables.now) c.args.plan.now c.requires.tables c.in-OverlapJoin.left c.in-OverlapJoin.right c.in-OverlapJoin.pair c.in-OverlapJoin.rest c.in-OverlapJoin.is).1

pub answer_of-both-requires-in-Combine-clause-sound_left : goal.answer_of-both-requires-in-Combine-clause-sound_left
answer_of-both-requires-in-Combine-clause-sound_left g t c κs within = (sound_Combine c.args.plan.now c.requires.sound c.in-Combine.op c.in-Combine.left c.in-Combine.right c.in-Combine.is).0

pub answer_of-both-requires-in-Combine-clause-sound_right : goal.answer_of-both-requires-in-Combine-clause-sound_right
answer_of-both-requires-in-Combine-clause-sound_right g t c κs within = (sound_Combine c.args.plan.now c.requires.sound c.in-Combine.op c.in-Combine.left c.in-Combine.right c.in-Combine.is).1

pub answer_of-both-requires-in-Combine-clause-tables_left : goal.answer_of-both-requires-in-Combine-clause-tables_left
answer_of-both-requires-in-Combine-clause-tables_left g t c κs within = (there_Combine (g.T.Tables.named c.args.tables.now) c.args.plan.now c.requires.tables c.in-Combine.op c.in-Combine.left c.in-Combine.right c.in-Combine.is).0

pub answer_of-both-requires-in-Combine-clause-tables_right : goal.answer_of-both-requires-in-Combine-clause-tables_right
answer_of-both-requires-in-Combine-clause-tables_right g t c κs within = (there_Combine (g.T.Tables.named c.args.tables.now) c.args.plan.now c.requires.tables c.in-Combine.op c.in-Combine.left c.in-Combine.right c.in-Combine.is).1

pub answer_of-images_of-requires-clause-tables : goal.answer_of-images_of-requires-clause-tables
answer_of-images_of-requires-clause-tables g t c κs within =
    let named = g.T.Tables.named c.args.tables.now in
    subst (λ q. AreThere named (scans_of q)) (sym c.get-in-Project.ensures) (there_Project named c.args.plan.now c.requires.tables c.in-Project.input c.in-Project.items c.in-Project.is)

pub answer_of-answer_of-requires-in-Semis-clause-tables : goal.answer_of-answer_of-requires-in-Semis-clause-tables
answer_of-answer_of-requires-in-Semis-clause-tables g t c κs within =
    let named = g.T.Tables.named c.args.tables.now in
    subst (λ q. AreThere named (scans_of q)) (sym c.get-in-Semis.ensures) (there_Semis named c.args.plan.now c.requires.tables c.in-Semis.input c.in-Semis.semis c.in-Semis.is)

pub answer_of-returns-in_ok-inputs-in-Product-clause-size : goal.answer_of-returns-in_ok-inputs-in-Product-clause-size
answer_of-returns-in_ok-inputs-in-Product-clause-size g t c =
    let sizes = sizes_of (g.T.Tables.named c.args.tables.now) in
    let i = c.in-Product in
    let inputs = c.in_ok-inputs-in-Product in
    IfOk-weaker c.multiplied.result _ _
    (λ a size. size_of_two sizes c.args.plan.now i.left i.right (length (rel_of a)) (rel_of inputs.inputs.left) (rel_of inputs.inputs.right)
    (ap (plan_size sizes) i.is ∙ fold-Product (node_size sizes) i.left i.right) size inputs.ensures.size_left inputs.ensures.size_right) c.multiplied.ensures.size

pub answer_of-returns-in_ok-inputs-in-KeyJoin-clause-size : goal.answer_of-returns-in_ok-inputs-in-KeyJoin-clause-size
answer_of-returns-in_ok-inputs-in-KeyJoin-clause-size g t c =
    let sizes = sizes_of (g.T.Tables.named c.args.tables.now) in
    let i = c.in-KeyJoin in
    let inputs = c.in_ok-inputs-in-KeyJoin in
    IfOk-weaker c.key_joined.result _ _
    (λ a size. size_of_two sizes c.args.plan.now i.left i.right (length (rel_of a)) (rel_of inputs.inputs.left) (rel_of inputs.inputs.right)
    (ap (plan_size sizes) i.is ∙ fold-KeyJoin (node_size sizes) i.left i.right i.pairs i.rest) size inputs.ensures.size_left inputs.ensures.size_right) c.key_joined.ensures.size

pub answer_of-returns-in_ok-inputs-in-OverlapJoin-clause-size : goal.answer_of-returns-in_ok-inputs-in-OverlapJoin-clause-size
answer_of-returns-in_ok-inputs-in-OverlapJoin-clause-size g t c =
    let sizes = sizes_of (g.T.Tables.named c.args.tables.now) in
    let i = c.in-OverlapJoin in
    let inputs = c.in_ok-inputs-in-OverlapJoin in
    IfOk-weaker c.overlap_joined.result _ _
    (λ a size. size_of_two sizes c.args.plan.now i.left i.right (length (rel_of a)) (rel_of inputs.inputs.left) (rel_of inputs.inputs.right)
    (ap (plan_size sizes) i.is ∙ fold-OverlapJoin (node_size sizes) i.left i.right i.pair i.rest) size inputs.ensures.size_left inputs.ensures.size_right) c.overlap_joined.ensures.size

pub answer_of-returns-in_ok-inputs-in-Product-clause-law : goal.answer_of-returns-in_ok-inputs-in-Product-clause-law
answer_of-returns-in_ok-inputs-in-Product-clause-law g t c =
    let named = g.T.Tables.named c.args.tables.now in
    let i = c.in-Product in
    let inputs = c.in_ok-inputs-in-Product in
    IfOk-weaker c.multiplied.result _ _
    (λ a law d day. of_two named d (matches (λ _ _. true)) (day_rows named d c.args.plan.now) i.left i.right (rows_on (rel_of a) d) (rel_of inputs.inputs.left) (rel_of inputs.inputs.right)
    (ap (day_rows named d) i.is ∙ fold-Product (node_rows d (rows_at named d)) i.left i.right) (law d day) (inputs.ensures.law_left d day) (inputs.ensures.law_right d day)) c.multiplied.ensures.law

pub answer_of-returns-in_ok-inputs-in-KeyJoin-clause-law : goal.answer_of-returns-in_ok-inputs-in-KeyJoin-clause-law
answer_of-returns-in_ok-inputs-in-KeyJoin-clause-law g t c =
    let named = g.T.Tables.named c.args.tables.now in
    let i = c.in-KeyJoin in
    let inputs = c.in_ok-inputs-in-KeyJoin in
    IfOk-weaker c.key_joined.result _ _
    (λ a law d day. of_two named d (λ l r. images (λ row. row) (matches (λ x y. have_one_key i.pairs x y && all_hold d i.rest (x ++ y)) l r))
    (day_rows named d c.args.plan.now) i.left i.right (rows_on (rel_of a) d) (rel_of inputs.inputs.left) (rel_of inputs.inputs.right)
    (rows_KeyJoin named d c.args.plan.now i.left i.right i.pairs i.rest i.is c.requires.sound c.requires.tables
    ∙ matches-whole (λ x y. have_one_key i.pairs x y && all_hold d i.rest (x ++ y)) (day_rows named d i.left) (day_rows named d i.right)) (law d day) (inputs.ensures.law_left d day) (inputs.ensures.law_right d day)) c.key_joined.ensures.law

pub answer_of-returns-in_ok-inputs-in-OverlapJoin-clause-law : goal.answer_of-returns-in_ok-inputs-in-OverlapJoin-clause-law
answer_of-returns-in_ok-inputs-in-OverlapJoin-clause-law g t c =
    let named = g.T.Tables.named c.args.tables.now in
    let i = c.in-OverlapJoin in
    let inputs = c.in_ok-inputs-in-OverlapJoin in
    let width = c.in_ok-width-in-OverlapJoin.width in
    let wide : (d : ℤ) → IsRefDay d → All (λ x. length x ≡ width) (rows_on (rel_of inputs.inputs.left) d) = λ d day.
    subst (All (λ x. length x ≡ width)) (sym (inputs.ensures.law_left d day))
    (wide_OverlapJoin named d c.args.plan.now i.left i.right c.get-in-OverlapJoin.result.now i.pair i.rest width i.is c.requires.sound c.requires.tables c.get-in-OverlapJoin.ensures c.in_ok-width-in-OverlapJoin.ensures) in
    IfOk-weaker c.overlap_joined.result _ _
    (λ a law d day. of_two named d (λ l r. images (λ row. row) (matches (λ x y. do_overlap x y i.pair && all_hold d i.rest (x ++ y)) l r))
    (day_rows named d c.args.plan.now) i.left i.right (rows_on (rel_of a) d) (rel_of inputs.inputs.left) (rel_of inputs.inputs.right)
    (ap (day_rows named d) i.is ∙ fold-OverlapJoin (node_rows d (rows_at named d)) i.left i.right i.pair i.rest
    ∙ matches-whole (λ x y. do_overlap x y i.pair && all_hold d i.rest (x ++ y)) (day_rows named d i.left) (day_rows named d i.right)) (law d day (wide d day)) (inputs.ensures.law_left d day) (inputs.ensures.law_right d day)) c.overlap_joined.ensures.law

pub both-answer_of-requires-clause-tables : goal.both-answer_of-requires-clause-tables
both-answer_of-requires-clause-tables g t c κs within = subst (λ q. AreThere (g.T.Tables.named c.args.tables.now) (scans_of q)) (sym c.get.ensures) c.requires.tables_left

pub both-answer_of-requires-2-clause-tables : goal.both-answer_of-requires-2-clause-tables
both-answer_of-requires-2-clause-tables g t c κs within = subst (λ q. AreThere (g.T.Tables.named c.args.tables.now) (scans_of q)) (sym c.get-2.ensures) c.requires.tables_right

pub answer_of-returns-in_ok-input-in-Filter-clause-law : goal.answer_of-returns-in_ok-input-in-Filter-clause-law
answer_of-returns-in_ok-input-in-Filter-clause-law g t c =
    let named = g.T.Tables.named c.args.tables.now in
    let i = c.in-Filter in
    let input = c.in_ok-input-in-Filter in
    IfOk-weaker c.filtered.result _ _
    (λ a law d day. of_one named d (filter (all_hold d i.parts)) c.args.plan.now i.input c.get.result.now (rows_on (rel_of a) d) (rel_of input.input)
    (ap (day_rows named d) i.is ∙ fold-Filter (node_rows d (rows_at named d)) i.input i.parts) c.get.ensures (law d day) (input.ensures.law d day)) c.filtered.ensures.law

pub answer_of-returns-in_ok-input-in-Filter-clause-size : goal.answer_of-returns-in_ok-input-in-Filter-clause-size
answer_of-returns-in_ok-input-in-Filter-clause-size g t c =
    let sizes = sizes_of (g.T.Tables.named c.args.tables.now) in
    let i = c.in-Filter in
    let input = c.in_ok-input-in-Filter in
    IfOk-weaker c.filtered.result _ _
    (λ a size. size_of_one sizes c.args.plan.now i.input c.get.result.now (length (rel_of a)) (rel_of input.input)
    (ap (plan_size sizes) i.is ∙ fold-Filter (node_size sizes) i.input i.parts) c.get.ensures size input.ensures.size) c.filtered.ensures.size

pub answer_of-returns-in-Project-clause-law : goal.answer_of-returns-in-Project-clause-law
answer_of-returns-in-Project-clause-law g t c =
    let named = g.T.Tables.named c.args.tables.now in
    let i = c.in-Project in
    IfOk-weaker c.images_of.result _ _
    (λ a law d day. law d day ∙ ap (λ plan. images (image d i.items) (day_rows named d plan)) c.get-in-Project.ensures
    ∙ sym (ap (day_rows named d) i.is ∙ fold-Project (node_rows d (rows_at named d)) i.input i.items)) c.images_of.ensures.law

pub answer_of-returns-in-Project-clause-size : goal.answer_of-returns-in-Project-clause-size
answer_of-returns-in-Project-clause-size g t c =
    let sizes = sizes_of (g.T.Tables.named c.args.tables.now) in
    let i = c.in-Project in
    IfOk-weaker c.images_of.result _ _
    (λ a size. omega (arith, size, ap (plan_size sizes) c.get-in-Project.ensures, ap (plan_size sizes) i.is ∙ fold-Project (node_size sizes) i.input i.items)) c.images_of.ensures.size

pub answer_of-returns-in_ok-input-in-Semis-clause-size : goal.answer_of-returns-in_ok-input-in-Semis-clause-size
answer_of-returns-in_ok-input-in-Semis-clause-size g t c =
    let sizes = sizes_of (g.T.Tables.named c.args.tables.now) in
    let i = c.in-Semis in
    let input = c.in_ok-input-in-Semis in
    IfOk-weaker c.sifted.result _ _
    (λ a size. size_of_one sizes c.args.plan.now i.input c.get-in-Semis.result.now (length (rel_of a)) (rel_of input.input)
    (ap (plan_size sizes) i.is ∙ fold-Semis (node_size sizes) i.input i.semis) c.get-in-Semis.ensures size input.ensures.size) c.sifted.ensures.size

pub images_of-both-requires-clause-sound_left : goal.images_of-both-requires-clause-sound_left
images_of-both-requires-clause-sound_left g t c κs within = (sound_KeyJoin c.args.plan.now c.requires.sound c.in-KeyJoin.left c.in-KeyJoin.right c.in-KeyJoin.pairs c.in-KeyJoin.rest c.in-KeyJoin.is).0.first

pub images_of-both-requires-clause-sound_right : goal.images_of-both-requires-clause-sound_right
images_of-both-requires-clause-sound_right g t c κs within = (sound_KeyJoin c.args.plan.now c.requires.sound c.in-KeyJoin.left c.in-KeyJoin.right c.in-KeyJoin.pairs c.in-KeyJoin.rest c.in-KeyJoin.is).0.second

pub images_of-both-requires-clause-tables_left : goal.images_of-both-requires-clause-tables_left
images_of-both-requires-clause-tables_left g t c κs within = (there_KeyJoin (g.T.Tables.named c.args.tables.now) c.args.plan.now c.requires.tables c.in-KeyJoin.left c.in-KeyJoin.right c.in-KeyJoin.pairs c.in-KeyJoin.rest c.in-KeyJoin.is).0

pub images_of-both-requires-clause-tables_right : goal.images_of-both-requires-clause-tables_right
images_of-both-requires-clause-tables_right g t c κs within = (there_KeyJoin (g.T.Tables.named c.args.tables.now) c.args.plan.now c.requires.tables c.in-KeyJoin.left c.in-KeyJoin.right c.in-KeyJoin.pairs c.in-KeyJoin.rest c.in-KeyJoin.is).1

pub images_of-both-requires-in-OverlapJoin-clause-sound_left : goal.images_of-both-requires-in-OverlapJoin-clause-sound_left
images_of-both-requires-in-OverlapJoin-clause-sound_left g t c κs within = (sound_OverlapJoin c.args.plan.now c.requires.sound c.in-OverlapJoin.left c.in-OverlapJoin.right c.in-OverlapJoin.pair c.in-OverlapJoin.rest c.in-OverlapJoin.is).first

pub images_of-both-requires-in-OverlapJoin-clause-sound_right : goal.images_of-both-requires-in-OverlapJoin-clause-sound_right
images_of-both-requires-in-OverlapJoin-clause-sound_right g t c κs within = (sound_OverlapJoin c.args.plan.now c.requires.sound c.in-OverlapJoin.left c.in-OverlapJoin.right c.in-OverlapJoin.pair c.in-OverlapJoin.rest c.in-OverlapJoin.is).second

pub images_of-both-requires-in-OverlapJoin-clause-tables_left : goal.images_of-both-requires-in-OverlapJoin-clause-tables_left
images_of-both-requires-in-OverlapJoin-clause-tables_left g t c κs within = (there_OverlapJoin (g.T.Tables.named c.args.tables.now) c.args.plan.now c.requires.tables c.in-OverlapJoin.left c.in-OverlapJoin.right c.in-OverlapJoin.pair c.in-OverlapJoin.rest c.in-OverlapJoin.is).0

pub images_of-both-requires-in-OverlapJoin-clause-tables_right : goal.images_of-both-requires-in-OverlapJoin-clause-tables_right
images_of-both-requires-in-OverlapJoin-clause-tables_right g t c κs within = (there_OverlapJoin (g.T.Tables.named c.args.tables.now) c.args.plan.now c.requires.tables c.in-OverlapJoin.left c.in-OverlapJoin.right c.in-OverlapJoin.pair c.in-OverlapJoin.rest c.in-OverlapJoin.is).1

pub images_of-returns-in_ok-inputs-in-KeyJoin-clause-size : goal.images_of-returns-in_ok-inputs-in-KeyJoin-clause-size
images_of-returns-in_ok-inputs-in-KeyJoin-clause-size g t c =
    let sizes = sizes_of (g.T.Tables.named c.args.tables.now) in
    let i = c.in-KeyJoin in
    let inputs = c.in_ok-inputs-in-KeyJoin in
    IfOk-weaker c.key_joined.result _ _
    (λ a size. size_of_two sizes c.args.plan.now i.left i.right (length (rel_of a)) (rel_of inputs.inputs.left) (rel_of inputs.inputs.right)
    (ap (plan_size sizes) i.is ∙ fold-KeyJoin (node_size sizes) i.left i.right i.pairs i.rest) size inputs.ensures.size_left inputs.ensures.size_right) c.key_joined.ensures.size

pub images_of-returns-in_ok-inputs-in-OverlapJoin-clause-size : goal.images_of-returns-in_ok-inputs-in-OverlapJoin-clause-size
images_of-returns-in_ok-inputs-in-OverlapJoin-clause-size g t c =
    let sizes = sizes_of (g.T.Tables.named c.args.tables.now) in
    let i = c.in-OverlapJoin in
    let inputs = c.in_ok-inputs-in-OverlapJoin in
    IfOk-weaker c.overlap_joined.result _ _
    (λ a size. size_of_two sizes c.args.plan.now i.left i.right (length (rel_of a)) (rel_of inputs.inputs.left) (rel_of inputs.inputs.right)
    (ap (plan_size sizes) i.is ∙ fold-OverlapJoin (node_size sizes) i.left i.right i.pair i.rest) size inputs.ensures.size_left inputs.ensures.size_right) c.overlap_joined.ensures.size

pub images_of-returns-in_ok-inputs-in-KeyJoin-clause-law : goal.images_of-returns-in_ok-inputs-in-KeyJoin-clause-law
images_of-returns-in_ok-inputs-in-KeyJoin-clause-law g t c =
    let named = g.T.Tables.named c.args.tables.now in
    let i = c.in-KeyJoin in
    let inputs = c.in_ok-inputs-in-KeyJoin in
    IfOk-weaker c.key_joined.result _ _
    (λ a law d day. of_two named d (λ l r. images (image d c.args.items.now) (matches (λ x y. have_one_key i.pairs x y && all_hold d i.rest (x ++ y)) l r))
    (images (image d c.args.items.now) (day_rows named d c.args.plan.now)) i.left i.right (rows_on (rel_of a) d) (rel_of inputs.inputs.left) (rel_of inputs.inputs.right)
    (ap (λ rows. images (image d c.args.items.now) rows) (rows_KeyJoin named d c.args.plan.now i.left i.right i.pairs i.rest i.is c.requires.sound c.requires.tables))
    (law d day) (inputs.ensures.law_left d day) (inputs.ensures.law_right d day)) c.key_joined.ensures.law

pub images_of-returns-in_ok-inputs-in-OverlapJoin-clause-law : goal.images_of-returns-in_ok-inputs-in-OverlapJoin-clause-law
images_of-returns-in_ok-inputs-in-OverlapJoin-clause-law g t c =
    let named = g.T.Tables.named c.args.tables.now in
    let i = c.in-OverlapJoin in
    let inputs = c.in_ok-inputs-in-OverlapJoin in
    let width = c.in_ok-width-in-OverlapJoin.width in
    let wide : (d : ℤ) → IsRefDay d → All (λ x. length x ≡ width) (rows_on (rel_of inputs.inputs.left) d) = λ d day.
    subst (All (λ x. length x ≡ width)) (sym (inputs.ensures.law_left d day))
    (wide_OverlapJoin named d c.args.plan.now i.left i.right c.get.result.now i.pair i.rest width i.is c.requires.sound c.requires.tables c.get.ensures c.in_ok-width-in-OverlapJoin.ensures) in
    IfOk-weaker c.overlap_joined.result _ _
    (λ a law d day. of_two named d (λ l r. images (image d c.args.items.now) (matches (λ x y. do_overlap x y i.pair && all_hold d i.rest (x ++ y)) l r))
    (images (image d c.args.items.now) (day_rows named d c.args.plan.now)) i.left i.right (rows_on (rel_of a) d) (rel_of inputs.inputs.left) (rel_of inputs.inputs.right)
    (ap (λ rows. images (image d c.args.items.now) rows) (ap (day_rows named d) i.is ∙ fold-OverlapJoin (node_rows d (rows_at named d)) i.left i.right i.pair i.rest))
    (law d day (wide d day)) (inputs.ensures.law_left d day) (inputs.ensures.law_right d day)) c.overlap_joined.ensures.law

pub images_of-returns-in_ok-input-in_default-clause-law : goal.images_of-returns-in_ok-input-in_default-clause-law
images_of-returns-in_ok-input-in_default-clause-law g t c =
    IfOk-weaker c.projected.result _ _
    (λ a law d day. law d day ∙ ap (λ rows. images (image d c.args.items.now) rows) (c.in_ok-input-in_default.ensures.law d day)) c.projected.ensures.law

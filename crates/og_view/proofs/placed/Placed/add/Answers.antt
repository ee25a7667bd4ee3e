use Rattle.std.proofs.Common.{◌≡◌, ◌≤◌, ◌<◌, [], length, ap, subst, sym, ◌∙◌, arith}
use Rattle.og_exec.specs.Tables.{rows_on}
use Rattle.og_view.specs.Placed.{more_lists}
use Rattle.og_view.specs.Rows.{rows_over}
use Rattle.og_view.proofs.MoreLemmas.{gathered_all, gathered_more, length-turns, new_rows, nothing_added, table_rows}
use Rattle.og_view.proofs.placed.Placed.add.Goals as goal

pub places-init : goal.places-init
places-init g c d day = nothing_added c.args.more.now d [] (λ i. [])

pub places-preserved : goal.places-preserved
places-preserved g c d day =
    let change = c.args.change.now in
    let named = g.T.Tables.named change.over.now in
    let name = change.name.now in
    let new = change.new.now in
    let core = c.args.self.now in
    let within : c.places.place < length core.tables = subst (λ n. c.places.place < n) (c.len-place-end.ensures ∙ ap (λ core. length core.tables) c.self.view_is) c.places-test.true in
    gathered_more (rows_over d core) (rows_on c.args.more.now d) (rows_on c.places.more d) (rows_on c.add_at.new.more d) (more_lists d named name new core) c.places.place []
    (subst (λ n. c.places.place < n) (sym (length-turns (table_rows d named name new) (new_rows d named name new) core.tables)) within) (c.places.invariant d day) (c.in_ok-add_at.ensures d day)

pub returns : goal.returns
returns g c d day =
    let change = c.args.change.now in
    let named = g.T.Tables.named change.over.now in
    let name = change.name.now in
    let new = change.new.now in
    let core = c.args.self.now in
    let end : c.len-place-end.result ≡ length core.tables = c.len-place-end.ensures ∙ ap (λ core. length core.tables) c.self.view_is in
    let turns : length (more_lists d named name new core) ≡ length core.tables = length-turns (table_rows d named name new) (new_rows d named name new) core.tables in
    let all : length (more_lists d named name new core) ≤ c.places.place = omega (arith, c.places-test.false, end, turns) in
    gathered_all (rows_over d core) (rows_on c.args.more.now d) (rows_on c.places.more d) (more_lists d named name new core) c.places.place all (c.places.invariant d day)

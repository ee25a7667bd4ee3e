-- The views of so many last places are settled, and the others are as they were.
use Rattle.std.proofs.Common.{◌≡◌, ◌++◌, ◌+◌, length}
use Rattle.og_session.specs.Following.{lasting, settle_views}
use Rattle.og_session.specs.Names.{Views}
use Rattle.og_session.proofs.settle.settle_all.Given as goal

abbrev pub invariant-views : goal.invariant-views
invariant-views l =
    (front : Views) × (back : Views) × (l.fn.views.entries ≡ front ++ back) × (length front + l.done ≡ l.count) × (l.views.entries ≡ front ++ lasting l.name back) × (l.db ≡ settle_views l.name back l.fn.db)

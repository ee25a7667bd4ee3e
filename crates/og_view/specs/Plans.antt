-- What the plan of a query is known to be.
use Rattle.std.specs.Prelude.{◌≡◌, ℤ, true}
use Rattle.og_query.specs.Queries.{Named, ordinary_query}
use Rattle.og_query.specs.Sizes.{Sizes, query_size}
use Rattle.og_query.specs.declared.query.Query.{Query}
use Rattle.og_plan.specs.Meaning.{plan_rows}
use Rattle.og_plan.specs.Premises.{AllHaveFitRows, query_tables}
use Rattle.og_plan.specs.Shapes.{is_sound, scans_of}
use Rattle.og_plan.specs.Sizes.{plan_size}
use Rattle.og_plan.specs.declared.plan.Plan.{Plan}

-- the plan means the query over rows that fit, has its size, is made well, and names its tables
pub record IsPlanOf (query : Query) (plan : Plan) : Type 0 where
  pub meaning : (d : ℤ) (rows : Named) → AllHaveFitRows rows query → plan_rows d rows plan ≡ ordinary_query d rows query
  pub size : (sizes : Sizes) → plan_size sizes plan ≡ query_size sizes query
  pub sound : is_sound plan ≡ true
  pub scans : scans_of plan ≡ query_tables query

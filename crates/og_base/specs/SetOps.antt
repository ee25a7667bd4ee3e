-- What the operations on sets say of a day, from what they know of it.
use Rattle.std.specs.Prelude.{Bool, not, ◌&&◌, ◌||◌}
use Rattle.og_base.specs.declared.rt_set.sweep.Op.{Op}
use Rattle.og_base.specs.declared.rt_set.sweep.Op.TheVariants.{Union, Meet, Minus}

-- whether the result holds a day, from whether the two sides hold it
abbrev pub op_holds : Op → Bool → Bool → Bool
op_holds Union left right = left || right
op_holds Meet left right = left && right
op_holds Minus left right = left && not right

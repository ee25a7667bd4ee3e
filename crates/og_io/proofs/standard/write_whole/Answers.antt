use Rattle.std.proofs.Common.{ℕ, arith, length-take, length-drop}
use Rattle.og_io.proofs.Fronts.{Appends-more, AppendsFront-kept, AppendsFront-more}
use Rattle.og_io.proofs.standard.write_whole.Goals as goal

pub loop-taken-preserved : goal.loop-taken-preserved
loop-taken-preserved g c =
    record {
      within = omega (arith, c.in-Ok.ensures.bound, length-take {A = ℕ}, length-drop {A = ℕ});
      written = Appends-more _ _ _ c.args.piece.now c.loop-taken.taken c.in-Ok.count c.loop-taken.invariant.written c.in-Ok.ensures.bytes;
    }

pub returns-in-Ok-eq0-clause-refused : goal.returns-in-Ok-eq0-clause-refused
returns-in-Ok-eq0-clause-refused g c =
    AppendsFront-more _ _ _ c.args.piece.now c.loop-taken.taken c.in-Ok-eq0.field-0 c.loop-taken.invariant.written c.in-Ok-eq0.ensures.bytes

pub returns-in-Err-clause-refused : goal.returns-in-Err-clause-refused
returns-in-Err-clause-refused g c =
    AppendsFront-kept _ _ _ c.args.piece.now c.loop-taken.taken c.loop-taken.invariant.written c.in-Err.ensures.bytes

use Rattle.std.proofs.Common.{◌++◌, take, arith, length-append, length-take}
use Rattle.std.proofs.KnownBytes.{Consumes-trans}
use Rattle.og_io.proofs.reading.read_whole.Goals as goal

pub returns-then-len-count-clause-taken : goal.returns-then-len-count-clause-taken
returns-then-len-count-clause-taken g c =
    let piece = take c.in-Ok.count c.read.new.buf in (
      c.parts.bytes.items ++ piece,
      Consumes-trans _ _ _ _ _ c.parts.invariant.front (c.in-Ok.ensures.bytes.0),
      omega (arith, c.parts.invariant.small, c.in-Ok.ensures.bound, length-append c.parts.bytes.items piece, length-take c.in-Ok.count c.read.new.buf),
    )

pub returns-in_default-extend_from_slice-clause-taken : goal.returns-in_default-extend_from_slice-clause-taken
returns-in_default-extend_from_slice-clause-taken g c =
    let piece = take c.in-Ok.count c.read.new.buf in (
      c.parts.bytes.items ++ piece,
      Consumes-trans _ _ _ _ _ c.parts.invariant.front (c.in-Ok.ensures.bytes.0),
      omega (arith, c.parts.invariant.small, c.in-Ok.ensures.bound, length-append c.parts.bytes.items piece, length-take c.in-Ok.count c.read.new.buf),
    )

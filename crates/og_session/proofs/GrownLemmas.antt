-- The bytes that a sink told stay.
use Rattle.std.proofs.Common.{◌++◌, ℕ, List, [], Option, Result, Ok, Err}
use Rattle.std.proofs.KnownBytes.{Appends-nil, Appends-trans}
use Rattle.og_io.specs.declared.sink.PutRefusal.{PutRefusal}
use Rattle.og_io.specs.declared.sink.PutRefusal.TheVariants as puts
use Rattle.og_output.specs.Puts.{IsPut}
use Rattle.og_session.specs.Headline.{HasGrown}

-- nothing was put
pub grown_none : (told : Option (List ℕ)) → HasGrown told told
grown_none told = ([], Appends-nil told)

-- a piece was put, or it was refused
pub grown_by_put : (old new : Option (List ℕ)) (piece : List ℕ) (r : Result (Unit {0}) PutRefusal) → IsPut old new piece r → HasGrown old new
grown_by_put old new piece (Ok done) put = (piece, put)
grown_by_put old new piece (Err puts.Failed) ((front, prefix, put), some) = (front, put)
grown_by_put old new piece (Err puts.NoMemory) (front, prefix, put) = (front, put)

-- one part after the other
pub grown_more : (old mid new : Option (List ℕ)) → HasGrown old mid → HasGrown mid new → HasGrown old new
grown_more old mid new (first, put) (second, more) = (first ++ second, Appends-trans old mid new first second put more)

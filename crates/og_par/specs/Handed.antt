-- What is made of items that are handed over.
use Rattle.std.specs.Prelude.{◌≡◌, List, Result, Ok, Vec}
use Rattle.std.specs.declared.alloc.Global.{Global}
use Rattle.og_base.specs.declared.memory.NoMemory.{NoMemory}
use denote.Param.Members.{Shared}

-- a list that a call with the item may make
abbrev pub MakesOf : {F T X : Type 0} → Shared F (T × Unit {0}) (Result (Vec X Global) NoMemory) → F → T → List X → Type 0
MakesOf {X = X} g f item made = (list : Vec X Global) × g.post f (item, tt) (Ok list) × (made ≡ list.items)

-- Lists of rows in parts, and in shares of parts.
use Rattle.std.specs.Prelude.{◌≡◌, List, Vec}
use Rattle.std.specs.List.{All, flat_map}
use Rattle.std.specs.List.Sorted.{IsStrictlySortedBy}
use Rattle.std.specs.declared.alloc.Global.{Global}
use Rattle.std.specs.declared.cmp.Ordering.{Ordering}
use Rattle.og_base.specs.Set.{set_of}

-- the rows of the parts, one part after the other
abbrev pub rows_of : {F : Type 0} → List (Vec F Global) → List F
rows_of parts = flat_map (λ part. part.items) parts

-- the rows of the shares, one share after the other
abbrev pub rows_of_shares : {F : Type 0} → List (Vec (Vec F Global) Global) → List F
rows_of_shares shares = flat_map (λ share. rows_of share.items) shares

-- the lists rise, and they have the rows in their order, each once
abbrev pub AreListed : {F : Type 0} → (F → F → Ordering) → List F → List (Vec F Global) → Type 0
AreListed cmp rows lists = (rows_of lists ≡ set_of cmp rows) × All (λ list. IsStrictlySortedBy cmp list.items) lists

-- How many columns were found: none, one or more. Beside private functions alone.
use Rattle.std.specs.Prelude.{List, [], ◌∷◌}
use Rattle.og_check.specs.declared.hits.Hits.{Hits}
use Rattle.og_check.specs.declared.hits.Hits.TheVariants as h
use Rattle.og_check.specs.Sight.{Found}

-- none of a list, the one, or more
abbrev pub hits_of : List Found → Hits
hits_of [] = h.Nothing
hits_of (x ∷ []) = h.One x.0 x.1
hits_of (x ∷ y ∷ more) = h.More

-- with those of a list as well
abbrev pub with_found : Hits → List Found → Hits
with_found h.Nothing xs = hits_of xs
with_found (h.One place kind) xs = hits_of ((place, kind) ∷ xs)
with_found h.More xs = h.More

-- the first, or the second where the first has none
abbrev pub or_hits : Hits → Hits → Hits
or_hits h.Nothing second = second
or_hits first second = first

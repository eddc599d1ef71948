-- Which name is the superior's, and which names stand below one: X.720, section 6.
use Rattle.std.specs.Prelude.{◌≡◌, List, [], ◌∷◌, ◌++◌}
use Rattle.term_model.specs.declared.name.Rdn.{Rdn}

-- the superior's name is without the last part
abbrev pub IsSuperior : List Rdn → List Rdn → Type 0
IsSuperior superior name = (last : Rdn) × (name ≡ superior ++ last ∷ [])

-- a name that is another one, or stands below it
abbrev pub BeginsWith : List Rdn → List Rdn → Type 0
BeginsWith name front = (rest : List Rdn) × (name ≡ front ++ rest)

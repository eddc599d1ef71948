-- The attributes that an object holds, and how many octets they may take; the sizes are this project's own.
use Rattle.std.specs.Prelude.{ℕ, List, map}
use Rattle.term_model.specs.declared.object.Attribute.{Attribute}

-- the most octets of an object, as the encoding of its attributes as SET OF Attribute
abbrev pub most_object : ℕ
most_object = 16384

-- the most octets of a value
abbrev pub most_value : ℕ
most_value = 8192

abbrev pub identifiers : List Attribute → List (List ℕ)
identifiers attributes = map (λ (attribute : Attribute). attribute.id) attributes

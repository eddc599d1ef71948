-- An object's size as the sum of what its attributes take: X.690, section 8.12. Those of a bound log that tell of its
-- records don't count.
use Rattle.std.specs.Prelude.{ℕ, ◌+◌, List, [], ◌∷◌, Bool, ◌&&◌, length, nat_le, if◌then◌else◌}
use Rattle.term_values.specs.Der.{length_octets}
use Rattle.term_model.specs.declared.object.Attribute.{Attribute}
use Rattle.term_model.specs.declared.schema.AttrRec.{AttrRec}
use Rattle.term_model.specs.BoundClasses.{tells_of_records}
use Rattle.term_model.specs.ObjectOperation.{attribute_octets}

-- the octets that an attribute adds, in an object that is one of a bound log or not
abbrev pub weight : List AttrRec → Bool → Attribute → ℕ
weight records bound attribute =
    if bound && tells_of_records records attribute.id then 0 else length (attribute_octets records attribute)

abbrev pub weights : List AttrRec → Bool → List Attribute → ℕ
weights records bound [] = 0
weights records bound (attribute ∷ others) = weight records bound attribute + weights records bound others

-- a SET with so many contents octets is not too long for an object
abbrev pub is_within : ℕ → Bool
is_within contents = nat_le (1 + length (length_octets contents) + contents) 16384

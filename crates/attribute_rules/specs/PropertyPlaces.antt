-- Where the properties of a class stand among its others, by attribute: X.722, section 8.4.
use Rattle.std.specs.Prelude.{ℕ, List, [], map}
use Rattle.std.specs.BTreeMap.{BTreeMap}
use Rattle.std.specs.Option.{option_map_or}
use Rattle.term_model.specs.declared.packages.Property.{Property}
use Rattle.term_model.specs.declared.schema.ClassRec.{ClassRec}
use Rattle.term_model.specs.declared.schema.Set.{Set}
use Rattle.term_model.specs.ObjectOperation.{class_record}
use Rattle.term_model.specs.Places.{HasPlaces}

-- the attributes that properties are of
abbrev pub attributes_of : List Property → List (List ℕ)
attributes_of properties = map (λ (property : Property). property.attribute) properties

-- the properties of a class, none where it has no record
abbrev pub properties_of : Set → List ℕ → List Property
properties_of schema class =
    option_map_or (λ (of_class : ClassRec). of_class.properties) (class_record schema.classes class) []

-- under each attribute stands the place of the first property of the class that is of it
abbrev pub HasPropertyPlaces : Set → List ℕ → BTreeMap (List ℕ) ℕ → Type 0
HasPropertyPlaces schema class places = HasPlaces places (attributes_of (properties_of schema class))

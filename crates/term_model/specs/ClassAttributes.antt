-- What the records of a schema say of an attribute in a class: X.722, sections 8.4 and 8.7.
use Rattle.std.specs.Prelude.{ℕ, List, Bool, false, Option, find, option_and_then}
use Rattle.std.specs.List.{list_all}
use Rattle.std.specs.Option.{option_map, option_map_or}
use Rattle.term_values.specs.Syntaxes.{TypeSyntax}
use Rattle.term_values.specs.Typed.{TypedValue}
use Rattle.term_model.specs.declared.packages.Property.{Property}
use Rattle.term_model.specs.declared.schema.AttrRec.{AttrRec}
use Rattle.term_model.specs.declared.schema.ClassRec.{ClassRec}
use Rattle.term_model.specs.declared.schema.Set.{Set}
use Rattle.term_model.specs.Comparing.{is_same_octets, is_same_oid}
use Rattle.term_model.specs.ObjectOperation.{attribute_record, class_record}
use Rattle.term_values.specs.FitTest.{value_fits}

-- the properties of an attribute among these
abbrev pub property_among : List Property → List ℕ → Option Property
property_among properties attribute =
    find (λ (property : Property). is_same_oid property.attribute attribute) properties

-- the properties that an attribute has in a class, joined over all packages of the class
abbrev pub property_of : Set → List ℕ → List ℕ → Option Property
property_of schema class attribute =
    option_and_then (λ (of_class : ClassRec). property_among of_class.properties attribute)
    (class_record schema.classes class)

-- the syntax of an attribute's values
abbrev pub syntax_of : List AttrRec → List ℕ → Option TypeSyntax
syntax_of records attribute =
    option_map (λ (of_attribute : AttrRec). of_attribute.syntax) (attribute_record records attribute)

-- the attribute has this label
abbrev pub is_labelled : List AttrRec → List ℕ → List ℕ → Bool
is_labelled records label attribute =
    option_map_or (λ (of_attribute : AttrRec). is_same_octets of_attribute.label label)
    (attribute_record records attribute) false

-- PERMITTED VALUES: the value is one of each of these types
abbrev pub is_permitted : List TypeSyntax → TypedValue → Bool
is_permitted permitted value = list_all (λ syntax. value_fits syntax value) permitted

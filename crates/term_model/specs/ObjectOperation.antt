-- What a request does to one object: X.711, section 7.4.
use Rattle.std.specs.Prelude.{ℕ, List, [], ◌++◌, Bool, true, false, ◌&&◌, filter, find, map, Option}
use Rattle.std.specs.List.{list_any}
use Rattle.std.specs.Option.{option_map_or}
use Rattle.term_values.specs.declared.tag.Tag.{Tag}
use Rattle.term_values.specs.Der.{encoded}
use Rattle.term_values.specs.Oid.{oid_contents}
use Rattle.term_values.specs.Rearranged.{joined, rising}
use Rattle.term_values.specs.Tag.{context, universal}
use Rattle.term_values.specs.Written.{der}
use Rattle.term_model.specs.declared.name.Rdn.{Rdn}
use Rattle.term_model.specs.declared.object.Attribute.{Attribute}
use Rattle.term_model.specs.declared.object.Object.{Object}
use Rattle.term_model.specs.declared.packages.Property.{Property}
use Rattle.term_model.specs.declared.schema.AttrRec.{AttrRec}
use Rattle.term_model.specs.declared.schema.ClassRec.{ClassRec}
use Rattle.term_model.specs.declared.schema.Set.{Set}
use Rattle.term_model.specs.Comparing.{is_same_oid}
use Rattle.term_model.specs.GetRequest.{class_octets, instance_octets, global_form}

-- managers may read the attribute of an object of this class
abbrev pub lets_read : List ℕ → Property → Bool
lets_read attribute property = property.get && is_same_oid property.attribute attribute

-- the record of a class
abbrev pub class_record : List ClassRec → List ℕ → Option ClassRec
class_record records class = find (λ (of_class : ClassRec). is_same_oid of_class.id class) records

abbrev pub is_readable : Set → List ℕ → List ℕ → Bool
is_readable schema class attribute =
    option_map_or (λ (of_class : ClassRec). list_any (lets_read attribute) of_class.properties)
    (class_record schema.classes class) false

-- the record of an attribute
abbrev pub attribute_record : List AttrRec → List ℕ → Option AttrRec
attribute_record records attribute = find (λ (of_attribute : AttrRec). is_same_oid of_attribute.id attribute) records

-- the written encoding of an attribute's value, in the attribute's syntax
abbrev pub value_octets : List AttrRec → Attribute → List ℕ
value_octets records attribute =
    option_map_or (λ (of_attribute : AttrRec). der of_attribute.syntax attribute.value)
    (attribute_record records attribute.id) []

-- Attribute ::= SEQUENCE { attributeId, attributeValue }, with the identifier in globalForm
abbrev pub attribute_octets : List AttrRec → Attribute → List ℕ
attribute_octets records attribute =
    encoded true (universal 16) (encoded false global_form (oid_contents attribute.id)
    ++ value_octets records attribute)

-- the attributes that a Get without a list gives
abbrev pub readable : Set → Object → List Attribute
readable schema object = filter (λ (attribute : Attribute). is_readable schema object.class attribute.id) object.attrs

-- the tags of currentTime and of the attribute list in a result
abbrev pub current_time : Tag
current_time = context 5

abbrev pub attribute_list : Tag
attribute_list = context 6

-- SET OF Attribute, implicitly tagged
abbrev pub attributes_octets : List AttrRec → List Attribute → List ℕ
attributes_octets records attributes =
    encoded true attribute_list (joined (rising (map (attribute_octets records) attributes)))

-- currentTime, a moment's text, implicitly tagged
abbrev pub time_octets : List ℕ → List ℕ
time_octets time = encoded false current_time time

-- the GetResult of an object, granted at the moment that this text tells
abbrev pub get_one : Set → List Rdn → Object → List ℕ → List ℕ
get_one schema name object time =
    encoded true (universal 16)
    (class_octets object.class
    ++ (instance_octets name ++ (time_octets time ++ attributes_octets schema.attributes (readable schema object))))

-- an object's encoding as SET OF Attribute, which its size is measured by
abbrev pub object_octets : List AttrRec → Object → List ℕ
object_octets records object =
    encoded true (universal 17) (joined (rising (map (attribute_octets records) object.attrs)))

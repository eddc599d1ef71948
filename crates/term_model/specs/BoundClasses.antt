-- Discriminators and logs are known by their labels: a class that is or derives from the one labelled so is bound where
-- it has the attributes of that class by label and syntax, in mandatory packages; else its objects are ordinary.
-- docs/PROFILE.md, section 15.
use Rattle.std.specs.Prelude.{ℕ, List, [], Bool, false, ◌&&◌, ◌||◌, codes, filter, not, length}
use Rattle.std.specs.List.{list_all, list_any}
use Rattle.std.specs.Option.{option_map_or}
use Rattle.term_values.specs.Syntaxes.{TypeSyntax}
use Rattle.term_model.specs.declared.object.Attribute.{Attribute}
use Rattle.term_model.specs.declared.object.Object.{Object}
use Rattle.term_model.specs.declared.packages.PackageRec.{PackageRec}
use Rattle.term_model.specs.declared.packages.Property.{Property}
use Rattle.term_model.specs.declared.schema.AttrRec.{AttrRec}
use Rattle.term_model.specs.declared.schema.ClassRec.{ClassRec}
use Rattle.term_model.specs.declared.schema.Set.{Set}
use Rattle.term_model.specs.Comparing.{is_same_octets}
use Rattle.term_model.specs.ObjectOperation.{attribute_record, class_record, object_octets}
use Rattle.term_model.specs.ClassAttributes.{is_labelled}
use Rattle.term_model.specs.ControlSyntaxes.{discriminator_attributes, log_attributes}
use Rattle.term_model.specs.PresentPackages.{classes_above, packages_of}
use Rattle.term_values.specs.SameSyntax.{same_syntax}

-- the record of the attribute has this label and this syntax
abbrev pub is_attribute : List AttrRec → List ℕ × TypeSyntax → List ℕ → Bool
is_attribute records wanted attribute =
    option_map_or
    (λ (of_attribute : AttrRec). is_same_octets of_attribute.label wanted.0 && same_syntax of_attribute.syntax wanted.1)
    (attribute_record records attribute) false

-- the packages have such an attribute
abbrev pub have_attribute : List AttrRec → List PackageRec → List ℕ × TypeSyntax → Bool
have_attribute records packages wanted =
    list_any
    (λ (of_package : PackageRec).
    list_any (λ (property : Property). is_attribute records wanted property.attribute) of_package.attributes)
    packages

-- the class with this identifier has this label
abbrev pub is_class_labelled : List ClassRec → List ℕ → List ℕ → Bool
is_class_labelled records label class =
    option_map_or (λ (of_class : ClassRec). is_same_octets of_class.label label) (class_record records class) false

-- a class that is, or derives from, one with this label, and has these attributes in mandatory packages
abbrev pub is_bound_as : Set → List ℕ → List (List ℕ × TypeSyntax) → List ℕ → Bool
is_bound_as schema label attributes class =
    list_any (is_class_labelled schema.classes label) (classes_above schema.classes class)
    && list_all (have_attribute schema.attributes (packages_of schema class [])) attributes

abbrev pub is_bound_discriminator : Set → List ℕ → Bool
is_bound_discriminator schema class =
    is_bound_as schema (codes "eventForwardingDiscriminator") discriminator_attributes class

abbrev pub is_bound_log : Set → List ℕ → Bool
is_bound_log schema class = is_bound_as schema (codes "log") log_attributes class

-- the attributes of a log that tell of its records, by label
abbrev pub tells_of_records : List AttrRec → List ℕ → Bool
tells_of_records records attribute =
    is_labelled records (codes "availabilityStatus") attribute
    || is_labelled records (codes "currentLogSize") attribute
    || is_labelled records (codes "numberOfRecords") attribute

-- the attributes that count for an object's size: all but those of a bound log that tell of its records
abbrev pub counts : Set → List ℕ → List ℕ → Bool
counts schema class attribute = not (is_bound_log schema class && tells_of_records schema.attributes attribute)

abbrev pub measured : Set → Object → Object
measured schema object =
    record object { attrs = filter (λ (attribute : Attribute). counts schema object.class attribute.id) object.attrs }

-- the octets of an object, as the encoding of the attributes that count as SET OF Attribute
abbrev pub object_size : Set → Object → ℕ
object_size schema object = length (object_octets schema.attributes (measured schema object))

-- Examples of creations and of an opening, computed: a network with an element below its root; X.711, section 7.4,
-- m-Create; docs/PROFILE.md, sections 15 and 16.
use Rattle.std.specs.Prelude.{◌≡◌, ◌++◌, map, ℕ, pos, Some, None, Ok, Err, List, [], ◌∷◌, true, false, refl, codes}
use Rattle.term_values.specs.BerReading.{front_of, identifier_of, length_at}
use Rattle.term_values.specs.Der.{identifier_octets, length_octets}
use Rattle.term_values.specs.Octets.{integer_contents, integer_in}
use Rattle.term_values.specs.Oid.{subidentifier}
use Rattle.term_values.specs.CmipTypes.{set_of}
use Rattle.term_values.specs.Syntaxes.{TypeSyntax}
use Rattle.term_values.specs.Syntaxes.TypeSyntax.{Integer, ObjectIdentifier}
use Rattle.term_values.specs.Typed.{listed}
use Rattle.term_values.specs.Typed.TypedValue.{Identifier, Int, Many}
use Rattle.term_model.specs.declared.filter_item.Given.{Given}
use Rattle.term_model.specs.declared.name.Rdn.{Rdn}
use Rattle.term_model.specs.declared.name_binding.BindRec.{BindRec}
use Rattle.term_model.specs.declared.object.Attribute.{Attribute}
use Rattle.term_model.specs.declared.object.Object.{Object}
use Rattle.term_model.specs.declared.objects.NamedObject.{NamedObject}
use Rattle.term_model.specs.declared.request.IdRef.TheVariants as ids
use Rattle.term_model.specs.declared.request.Named.TheVariants as named
use Rattle.term_model.specs.declared.results.FailureReason.TheVariants as reasons
use Rattle.term_model.specs.declared.packages.Property.{Property}
use Rattle.term_model.specs.declared.schema.AttrRec.{AttrRec}
use Rattle.term_model.specs.declared.schema.InstRec.{InstRec}
use Rattle.term_model.specs.declared.schema.Set.{Set}
use Rattle.term_model.specs.CmisErrors.{duplicate_instance, invalid_attribute_value, invalid_instance}
use Rattle.term_model.specs.CmisErrors.{missing_attribute_value, no_such_attribute, no_such_instance}
use Rattle.term_model.specs.CmisErrors.{no_such_object_class, processing_failure}
use Rattle.term_model.specs.Creating.{Asking, create_named}
use Rattle.term_model.specs.GetRequest.{instance_octets}
use Rattle.term_model.specs.Opening.{opened}
use Rattle.term_model.proofs.ExampleNetwork.{element, element_class, element_oid, element_package, id_oid, id_property}
use Rattle.term_model.proofs.ExampleNetwork.{id_template, id_value, load_oid, load_property, load_template, load_value}
use Rattle.term_model.proofs.ExampleNetwork.{network, ordered}

-- elements below elements, by elementId
abbrev pub binding_oid : List ℕ
binding_oid = 2 ∷ 999 ∷ 6 ∷ 1 ∷ []

abbrev pub element_binding : BindRec
element_binding = record {
  id = binding_oid;
  label = codes "element-element";
  subordinate = record { class = element_oid; subclasses = false };
  superior = record { class = element_oid; subclasses = false };
  attribute = id_oid;
  create = Some (record { with_reference_object = true; with_automatic_instance_naming = true });
  delete = None;
}

-- the parts {elementId = 5} and {elementId = 6}
abbrev pub five : Rdn
five = record { attribute = id_oid; value = 2 ∷ 1 ∷ 5 ∷ [] }

abbrev pub six : Rdn
six = record { attribute = id_oid; value = 2 ∷ 1 ∷ 6 ∷ [] }

abbrev pub id_is : ℕ → Attribute
id_is n = record { id = id_oid; value = Int (pos n) }

abbrev pub element_at : List Rdn → ℕ → InstRec
element_at name n = record {
  root = false;
  class = element_oid;
  name = name;
  given = id_is n ∷ load_value ∷ [];
  chosen = [];
}

abbrev pub root_at : InstRec
root_at = record { root = true; class = element_oid; name = []; given = id_value ∷ load_value ∷ []; chosen = [] }

abbrev pub bound_network : List InstRec → Set
bound_network instances = record network { bindings = element_binding ∷ []; instances = instances }

-- the elements that stand at the names
abbrev pub element_five : Object
element_five = record {
  class = element_oid;
  binding = Some binding_oid;
  chosen = [];
  attrs = id_is 5 ∷ load_value ∷ [];
}

abbrev pub two_elements : List NamedObject
two_elements =
    record { name = []; object = element } ∷ record { name = five ∷ []; object = element_five } ∷ []

-- a root with an element below it is opened
opens : opened (bound_network (root_at ∷ element_at (five ∷ []) 5 ∷ [])) ≡ Ok two_elements
unfolding identifier_octets length_octets integer_contents integer_in subidentifier identifier_of length_at front_of
opens = refl

abbrev pub elements : Set
elements = bound_network []

-- what a manager asks for: an element with these values; the instance stands in these octets
abbrev pub asked_for : List ℕ → List Given → Asking
asked_for octets given = record {
  class = ids.Global element_oid;
  instance = octets;
  reference = None;
  given = given;
  clause = true;
}

abbrev pub load_is : ℕ → Given
load_is n = record { id = ids.Global load_oid; value = Some (Int (pos n)); raw = 2 ∷ 1 ∷ n ∷ [] }

abbrev id_given : ℕ → Given
id_given n = record { id = ids.Global id_oid; value = Some (Int (pos n)); raw = 2 ∷ 1 ∷ n ∷ [] }

-- an element 6 is created with the load that is given, and is named by its name
created_six : create_named elements two_elements (asked_for [] (load_is 3 ∷ [])) (named.Object (six ∷ []))
    ≡ Ok (record {
      class = element_oid;
      binding = Some binding_oid;
      chosen = [];
      attrs = id_is 6 ∷ record { id = load_oid; value = Int (pos 3) } ∷ [];
    })
unfolding identifier_octets length_octets integer_contents integer_in subidentifier identifier_of length_at front_of
created_six = refl

-- the first step: a class that no document defines
unknown_class : create_named elements two_elements
    (record (asked_for [] []) { class = ids.Local (pos 1) }) (named.Object (six ∷ []))
    ≡ Err (no_such_object_class (ids.Local (pos 1)))
unknown_class = refl

-- the second: the root's own name, and one that names nothing of the system
root_again : create_named elements two_elements (asked_for (1 ∷ []) []) (named.Object [])
    ≡ Err (invalid_instance (1 ∷ []))
root_again = refl

no_name : create_named elements two_elements (asked_for (1 ∷ []) []) named.NonSpecific
    ≡ Err (invalid_instance (1 ∷ []))
no_name = refl

-- the third: below an element that isn't there, whose name is given back
no_superior : create_named elements two_elements (asked_for [] []) (named.Object (six ∷ five ∷ []))
    ≡ Err (no_such_instance (instance_octets (six ∷ [])))
unfolding integer_in identifier_of length_at front_of
no_superior = refl

-- the fourth: an element that is there
again : create_named elements two_elements (asked_for (1 ∷ []) []) (named.Object (five ∷ []))
    ≡ Err (duplicate_instance (1 ∷ []))
unfolding integer_in identifier_of length_at front_of
again = refl

-- the sixth: an element is not named by its load
unlicensed : create_named elements two_elements (asked_for (1 ∷ []) [])
    (named.Object (record { attribute = load_oid; value = 2 ∷ 1 ∷ 5 ∷ [] } ∷ []))
    ≡ Err (invalid_instance (1 ∷ []))
unfolding integer_in identifier_of length_at front_of
unlicensed = refl

-- the seventh: without a CREATE clause managers create none
uncreatable : create_named
    (record elements { bindings = record element_binding { create = None } ∷ [] }) two_elements
    (asked_for (1 ∷ []) []) (named.Object (six ∷ []))
    ≡ Err (processing_failure (ids.Global element_oid) (1 ∷ []) reasons.NotCreatable)
unfolding integer_in identifier_of length_at front_of
uncreatable = refl

-- the eighth: an attribute that it hasn't, one that stands twice, and a value other than the name's
no_such : create_named elements two_elements
    (asked_for [] (record { id = ids.Global binding_oid; value = None; raw = [] } ∷ []))
    (named.Object (six ∷ []))
    ≡ Err (no_such_attribute (ids.Global binding_oid))
unfolding integer_in identifier_of length_at front_of
no_such = refl

repeated : create_named elements two_elements (asked_for [] (load_is 3 ∷ load_is 4 ∷ [])) (named.Object (six ∷ []))
    ≡ Err (invalid_attribute_value (ids.Global load_oid) (2 ∷ 1 ∷ 4 ∷ []))
unfolding identifier_octets length_octets integer_contents integer_in identifier_of length_at front_of
repeated = refl

misnamed : create_named elements two_elements (asked_for [] (id_given 9 ∷ [])) (named.Object (six ∷ []))
    ≡ Err (invalid_attribute_value (ids.Global id_oid) (2 ∷ 1 ∷ 9 ∷ []))
unfolding identifier_octets length_octets integer_contents integer_in identifier_of length_at front_of
misnamed = refl

-- the ninth: without a load
missing : create_named elements two_elements (asked_for [] []) (named.Object (six ∷ []))
    ≡ Err (missing_attribute_value (load_oid ∷ []))
unfolding identifier_octets length_octets integer_contents integer_in identifier_of length_at front_of
missing = refl

-- the third instance can't be opened where it is the second one again
opened_twice : opened (bound_network (root_at ∷ element_at (five ∷ []) 5 ∷ element_at (five ∷ []) 5 ∷ []))
    ≡ Err (record { index = 3; error = pos 11 })
unfolding identifier_octets length_octets integer_contents integer_in subidentifier identifier_of length_at front_of
opened_twice = refl

-- no ROOT, one that isn't the first instance, and a second one
no_root : opened (bound_network []) ≡ Err (record { index = 0; error = pos 0 })
no_root = refl

root_behind : opened (bound_network (element_at (five ∷ []) 5 ∷ root_at ∷ []))
    ≡ Err (record { index = 2; error = pos 0 })
root_behind = refl

second_root : opened (bound_network (root_at ∷ root_at ∷ [])) ≡ Err (record { index = 2; error = pos 0 })
unfolding identifier_octets length_octets integer_contents integer_in subidentifier identifier_of length_at front_of
second_root = refl

-- a value comes from the initial value before the default
abbrev pub with_values : List InstRec → Set
with_values instances = record (bound_network instances) {
  classes = record element_class {
    properties =
        id_property ∷ record load_property { default = Some (Int (pos 2)); initial = Some (Int (pos 3)) } ∷ [];
  } ∷ [];
}

initial_first : create_named (with_values []) two_elements (asked_for [] []) (named.Object (six ∷ []))
    ≡ Ok (record {
      class = element_oid;
      binding = Some binding_oid;
      chosen = [];
      attrs = id_is 6 ∷ record { id = load_oid; value = Int (pos 3) } ∷ [];
    })
unfolding identifier_octets length_octets integer_contents integer_in subidentifier identifier_of length_at front_of
initial_first = refl

-- and a list may give no other value than the initial one
not_initial : create_named (with_values []) two_elements (asked_for [] (load_is 4 ∷ [])) (named.Object (six ∷ []))
    ≡ Err (invalid_attribute_value (ids.Global load_oid) (2 ∷ 1 ∷ 4 ∷ []))
unfolding identifier_octets length_octets integer_contents integer_in identifier_of length_at front_of
not_initial = refl

-- the tenth step: a default that is not permitted
abbrev with_range : Set
with_range = record (bound_network []) {
  classes = record element_class {
    properties =
        id_property
        ∷ record load_property { default = Some (Int (pos 2)); permitted = Integer [] ((pos 5, pos 9) ∷ []) ∷ [] }
        ∷ [];
  } ∷ [];
}

unpermitted_default : create_named with_range two_elements (asked_for [] []) (named.Object (six ∷ []))
    ≡ Err (invalid_attribute_value (ids.Global load_oid) (2 ∷ 1 ∷ 2 ∷ []))
unfolding identifier_octets length_octets integer_contents integer_in subidentifier identifier_of length_at front_of
unpermitted_default = refl

-- the objectClass, nameBinding and packages of an object, which names a conditional package
abbrev pub top_oid : ℕ → List ℕ
top_oid n = 2 ∷ 999 ∷ 9 ∷ 7 ∷ n ∷ []

abbrev top_template : ℕ → List ℕ → TypeSyntax → AttrRec
top_template n label syntax = record { id = top_oid n; label = label; syntax = syntax; rules = ordered }

abbrev top_property : ℕ → Property
top_property n = record id_property { attribute = top_oid n }

abbrev pub extra_oid : List ℕ
extra_oid = 2 ∷ 999 ∷ 4 ∷ 1 ∷ []

-- the load stands in a conditional package
abbrev pub topped : Set
topped = record (bound_network []) {
  attributes =
      id_template ∷ load_template ∷ top_template 1 (codes "objectClass") ObjectIdentifier
      ∷ top_template 2 (codes "nameBinding") ObjectIdentifier
      ∷ top_template 3 (codes "packages") (set_of ObjectIdentifier) ∷ [];
  classes = record element_class {
    mandatory = record element_package {
      attributes = id_property ∷ top_property 1 ∷ top_property 2 ∷ top_property 3 ∷ [];
    } ∷ [];
    conditional = record element_package { id = Some extra_oid; attributes = load_property ∷ [] } ∷ [];
    properties = id_property ∷ load_property ∷ top_property 1 ∷ top_property 2 ∷ top_property 3 ∷ [];
  } ∷ [];
}

abbrev packages_are : List (List ℕ) → Given
packages_are packages = record {
  id = ids.Global (top_oid 3);
  value = Some (Many (listed (map Identifier packages)));
  raw = 9 ∷ [];
}

abbrev topped_object : List (List ℕ) → List Attribute → Object
topped_object packages load = record {
  class = element_oid;
  binding = Some binding_oid;
  chosen = packages;
  attrs = id_is 6 ∷ load
      ++ (record { id = top_oid 1; value = Identifier element_oid }
      ∷ record { id = top_oid 2; value = Identifier binding_oid }
      ∷ record { id = top_oid 3; value = Many (listed (map Identifier packages)) } ∷ []);
}

unnamed_package : create_named topped two_elements (asked_for [] []) (named.Object (six ∷ []))
    ≡ Ok (topped_object [] [])
unfolding identifier_octets length_octets integer_contents integer_in subidentifier identifier_of length_at front_of
unnamed_package = refl

named_package : create_named topped two_elements (asked_for [] (packages_are (extra_oid ∷ []) ∷ load_is 4 ∷ []))
    (named.Object (six ∷ []))
    ≡ Ok (topped_object (extra_oid ∷ []) (record { id = load_oid; value = Int (pos 4) } ∷ []))
unfolding identifier_octets length_octets integer_contents integer_in subidentifier identifier_of length_at front_of
named_package = refl

-- an attribute of a package that isn't named, and a package that the class hasn't
absent_load : create_named topped two_elements (asked_for [] (load_is 4 ∷ [])) (named.Object (six ∷ []))
    ≡ Err (no_such_attribute (ids.Global load_oid))
unfolding integer_in identifier_of length_at front_of
absent_load = refl

other_package : create_named topped two_elements (asked_for [] (packages_are (binding_oid ∷ []) ∷ []))
    (named.Object (six ∷ []))
    ≡ Err (invalid_attribute_value (ids.Global (top_oid 3)) (9 ∷ []))
unfolding identifier_octets length_octets integer_contents integer_in subidentifier identifier_of length_at front_of
other_package = refl

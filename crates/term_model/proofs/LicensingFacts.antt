-- Examples of classes, packages, name bindings and of what managers may modify, computed: X.722, sections 5.2, 8.3, 8.4
-- and 8.6; docs/PROFILE.md, section 15. The classes are those of CreatingFacts and ObjectGetFacts.
use Rattle.std.specs.Prelude.{◌≡◌, pos, negsuc, [], ◌∷◌, true, false, None, Some, codes, refl}
use Rattle.term_model.specs.declared.creation.Outline.{Outline}
use Rattle.term_model.specs.declared.name_binding.BindRec.{BindRec}
use Rattle.term_model.specs.declared.schema.Set.{Set}
use Rattle.term_values.specs.Typed.TypedValue.{Int}
use Rattle.term_model.specs.Licensing.{is_bound_class, licenses, licensing, names_by}
use Rattle.term_model.specs.Modifiable.{is_filled, is_operator, last_attribute, lets_modify, modifiable}
use Rattle.term_model.specs.Modifiable.{naming_attribute}
use Rattle.term_model.specs.PresentPackages.{is_among, is_chosen, packages_by, packages_in, superclasses, with_new}
use Rattle.term_model.specs.PresentPackages.{with_superclasses}
use Rattle.term_model.proofs.CreatingFacts.{binding_oid, element_binding, elements, five, top_oid, topped}
use Rattle.term_model.proofs.ExampleNetwork.{element_oid, id_oid, load_oid, load_property}
use Rattle.term_model.proofs.ExampleNetwork.{load_template, network}
use Rattle.term_model.proofs.ObjectGetFacts.{adding_package, chosen_oid, heavy_class, heavy_network, heavy_oid}
use Rattle.term_model.proofs.ObjectGetFacts.{using_package}

-- ---- packages of `heavy`, which derives from `element`

among : is_among (id_oid ∷ load_oid ∷ []) load_oid ≡ true
among = refl

not_among : is_among (id_oid ∷ []) load_oid ≡ false
not_among = refl

-- identifiers behind others, each once
added_once : with_new (id_oid ∷ []) (load_oid ∷ id_oid ∷ load_oid ∷ []) ≡ id_oid ∷ load_oid ∷ []
added_once = refl

heavy_superclasses : superclasses heavy_network.classes heavy_oid ≡ element_oid ∷ []
heavy_superclasses = refl

itself_alone : with_superclasses heavy_network.classes 0 (heavy_oid ∷ []) ≡ heavy_oid ∷ []
itself_alone = refl

with_element : with_superclasses heavy_network.classes 1 (heavy_oid ∷ []) ≡ heavy_oid ∷ element_oid ∷ []
with_element = refl

chosen_by : is_chosen (chosen_oid ∷ []) adding_package ≡ true
chosen_by = refl

-- a package that isn't registered is never chosen
unregistered : is_chosen (chosen_oid ∷ []) using_package ≡ false
unregistered = refl

own_packages : packages_in (chosen_oid ∷ []) heavy_class ≡ using_package ∷ adding_package ∷ []
own_packages = refl

mandatory_alone : packages_by heavy_network.classes [] heavy_oid ≡ using_package ∷ []
mandatory_alone = refl

-- ---- which bindings license an element below an element

bound_itself : is_bound_class elements (record { class = element_oid; subclasses = false }) element_oid ≡ true
bound_itself = refl

-- a class that derives from it only with AND SUBCLASSES
heavy_not_bound : is_bound_class heavy_network (record { class = element_oid; subclasses = false }) heavy_oid ≡ false
heavy_not_bound = refl

heavy_bound : is_bound_class heavy_network (record { class = element_oid; subclasses = true }) heavy_oid ≡ true
heavy_bound = refl

element_not_heavy : is_bound_class heavy_network (record { class = heavy_oid; subclasses = true }) element_oid ≡ false
element_not_heavy = refl

abbrev below_heavy : BindRec
below_heavy = record element_binding { superior = record { class = heavy_oid; subclasses = false } }

licensed : licenses elements element_oid element_oid element_binding ≡ true
licensed = refl

other_superior : licenses heavy_network element_oid element_oid below_heavy ≡ false
other_superior = refl

abbrev element_outline : Outline
element_outline = record { bound_log = false; chosen = []; attributes = id_oid ∷ load_oid ∷ [] }

named_by_id : names_by elements element_outline id_oid ≡ true
named_by_id = refl

-- an attribute that the object wouldn't have, and objectClass, which the agent writes
named_by_none : names_by elements element_outline binding_oid ≡ false
named_by_none = refl

named_by_class : names_by topped (record element_outline { attributes = top_oid 1 ∷ [] }) (top_oid 1) ≡ false
named_by_class = refl

one_licenses : licensing elements element_oid element_outline element_oid id_oid ≡ element_binding ∷ []
one_licenses = refl

-- elements are not named by their load
none_licenses : licensing elements element_oid element_outline element_oid load_oid ≡ []
none_licenses = refl

-- ---- what managers may modify

-- the root is named by the last part of the system's name
root_named_by : naming_attribute network [] ≡ Some id_oid
root_named_by = refl

no_name : last_attribute [] ≡ None
no_name = refl

last_of_two : last_attribute (five ∷ record { attribute = load_oid; value = [] } ∷ []) ≡ Some load_oid
last_of_two = refl

-- the load has GET-REPLACE alone
may_replace : lets_modify (pos 0) load_property ≡ true
may_replace = refl

may_not_add : lets_modify (pos 1) load_property ≡ false
may_not_add = refl

may_remove : lets_modify (pos 2) (record load_property { remove = true }) ≡ true
may_remove = refl

-- setToDefault needs a default
without_default : lets_modify (pos 3) (record load_property { set_to_default = true }) ≡ false
without_default = refl

with_default : lets_modify (pos 3) (record load_property { set_to_default = true; default = Some (Int (pos 5)) }) ≡ true
with_default = refl

last_operator : is_operator (pos 3) ≡ true
last_operator = refl

no_operator : is_operator (pos 4) ≡ false
no_operator = refl

negative_operator : is_operator (negsuc 0) ≡ false
negative_operator = refl

class_filled : is_filled topped.attributes (top_oid 1) ≡ true
class_filled = refl

load_not_filled : is_filled topped.attributes load_oid ≡ false
load_not_filled = refl

load_modifiable : modifiable network (five ∷ []) element_oid (pos 0) load_oid ≡ Some load_property
load_modifiable = refl

-- an attribute without REPLACE, the one by which the object is named though it had REPLACE, and one that the agent
-- fills
load_not_added : modifiable network (five ∷ []) element_oid (pos 1) load_oid ≡ None
load_not_added = refl

abbrev named_by_load : Set
named_by_load = record network { system = record { attribute = load_oid; value = 2 ∷ 1 ∷ 7 ∷ [] } ∷ [] }

name_not_modifiable : modifiable named_by_load [] element_oid (pos 0) load_oid ≡ None
name_not_modifiable = refl

abbrev labelled_class : Set
labelled_class = record network { attributes = record load_template { label = codes "objectClass" } ∷ [] }

class_not_modifiable : modifiable labelled_class (five ∷ []) element_oid (pos 0) load_oid ≡ None
class_not_modifiable = refl

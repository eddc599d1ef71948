-- The elements of the examples: elements below elements, by elementId.
use Rattle.std.specs.Prelude.{ℕ, pos, Some, List, [], ◌∷◌, true, false, codes}
use Rattle.term_values.specs.Typed.TypedValue.{Int}
use Rattle.term_model.specs.declared.filter_item.Given.{Given}
use Rattle.term_model.specs.declared.name.Rdn.{Rdn}
use Rattle.term_model.specs.declared.name_binding.BindRec.{BindRec}
use Rattle.term_model.specs.declared.name_binding.DeleteClause.TheVariants as clauses
use Rattle.term_model.specs.declared.object.Attribute.{Attribute}
use Rattle.term_model.specs.declared.object.Object.{Object}
use Rattle.term_model.specs.declared.objects.NamedObject.{NamedObject}
use Rattle.term_model.specs.declared.request.IdRef.TheVariants as ids
use Rattle.term_model.specs.declared.schema.Set.{Set}
use Rattle.term_model.proofs.ExampleNetwork.{element, element_oid, id_oid, load_oid, network as unbound}

abbrev pub binding_oid : List ℕ
binding_oid = 2 ∷ 999 ∷ 6 ∷ 1 ∷ []

-- managers may create them in each way, and delete those that contain no others
abbrev pub element_element : BindRec
element_element = record {
  id = binding_oid;
  label = codes "element-element";
  subordinate = record { class = element_oid; subclasses = false };
  superior = record { class = element_oid; subclasses = false };
  attribute = id_oid;
  create = Some (record { with_reference_object = true; with_automatic_instance_naming = true });
  delete = Some clauses.OnlyIfNoContainedObjects;
}

-- the network with these name bindings
abbrev pub bound_by : List BindRec → Set
bound_by bindings = record unbound { bindings = bindings; instances = [] }

abbrev pub network : Set
network = bound_by (element_element ∷ [])

-- the part {elementId = n}
abbrev pub part : ℕ → Rdn
part n = record { attribute = id_oid; value = 2 ∷ 1 ∷ n ∷ [] }

abbrev pub id_is : ℕ → Attribute
id_is n = record { id = id_oid; value = Int (pos n) }

abbrev pub element_with : ℕ → ℕ → Object
element_with n load = record {
  class = element_oid;
  binding = Some binding_oid;
  chosen = [];
  attrs = id_is n ∷ record { id = load_oid; value = Int (pos load) } ∷ [];
}

abbrev pub entry : List Rdn → Object → NamedObject
entry name object = record { name = name; object = object }

abbrev pub root : NamedObject
root = entry [] element

-- 5 below the root
abbrev pub five_alone : List NamedObject
five_alone = root ∷ entry (part 5 ∷ []) (element_with 5 7) ∷ []

-- and 6 below 5
abbrev pub five_and_six : List NamedObject
five_and_six = root ∷ entry (part 5 ∷ []) (element_with 5 7) ∷ entry (part 5 ∷ part 6 ∷ []) (element_with 6 7) ∷ []

-- members of a creation's list
abbrev pub load_is : ℕ → Given
load_is n = record { id = ids.Global load_oid; value = Some (Int (pos n)); raw = 2 ∷ 1 ∷ n ∷ [] }

abbrev pub id_given : ℕ → Given
id_given n = record { id = ids.Global id_oid; value = Some (Int (pos n)); raw = 2 ∷ 1 ∷ n ∷ [] }

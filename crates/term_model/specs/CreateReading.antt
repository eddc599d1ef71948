-- What the argument of m-Create gives: X.711, section 7.4; docs/PROFILE.md, section 14. The relation is in
-- CreateDenoting of request_laws.
use Rattle.std.specs.Prelude.{List, [], Option, None, Some, option_and_then}
use Rattle.std.specs.Prelude.{if◌then◌else◌}
use Rattle.std.specs.Option.{option_map}
use Rattle.term_values.specs.Decoding.{inside_of}
use Rattle.term_values.specs.FilterTrees.{is_context}
use Rattle.term_values.specs.Tag.{context, universal}
use Rattle.term_values.specs.Tree.{TreeValue, TreeValues}
use Rattle.term_values.specs.Tree.TreeValues.{Nothing, Then}
use Rattle.term_values.specs.TreeTags.{tag_of}
use Rattle.term_model.specs.declared.filter_item.Given.{Given}
use Rattle.term_model.specs.declared.request.IdRef.{IdRef}
use Rattle.term_model.specs.declared.request.Instance.{Instance}
use Rattle.term_model.specs.declared.request.Place.{Place}
use Rattle.term_model.specs.declared.request.Place.TheVariants as places
use Rattle.term_model.specs.declared.request.Request.{Request}
use Rattle.term_model.specs.declared.request.Request.TheVariants as requests
use Rattle.term_model.specs.declared.schema.AttrRec.{AttrRec}
use Rattle.term_model.specs.declared.schema.Set.{Set}
use Rattle.term_model.specs.Assertions.{given_in, id_in}
use Rattle.term_model.specs.Parts.{inside_under, one_under}
use Rattle.term_model.specs.ArgumentRows.{all_in, at_end, at_front, begins_place}
use Rattle.term_model.specs.InstanceNames.{instance_in}
use Rattle.term_model.specs.RequestHeads.{is_controlled}

-- the trees that stand for the components behind the class
pub record CreateTrees : Type 0 where
  pub place : Option TreeValue
  pub access : Option TreeValue
  pub reference : Option TreeValue
  pub rest : TreeValues

abbrev pub create_trees : TreeValues → CreateTrees
create_trees trees =
    let place = at_front begins_place trees in
    let access = at_front (is_context 5) place.1 in
    let reference = at_front (is_context 6) access.1 in
    record { place = place.0; access = access.0; reference = reference.0; rest = reference.1 }

-- the instance itself, or superiorObjectInstance [8] EXPLICIT
abbrev pub place_in : Set → TreeValue → Option Place
place_in set tree =
    if is_context 8 (tag_of tree)
    then option_map places.Below (option_and_then (instance_in set) (one_under (context 8) tree))
    else option_map places.At (instance_in set tree)

abbrev pub place_of : Set → Option TreeValue → Option Place
place_of set None = Some places.Free
place_of set (Some tree) = place_in set tree

-- referenceObjectInstance [6] EXPLICIT
abbrev pub reference_of : Set → Option TreeValue → Option (Option Instance)
reference_of set None = Some None
reference_of set (Some tree) =
    option_map Some (option_and_then (instance_in set) (one_under (context 6) tree))

-- attributeList [7]: the attributes in the order in which they came
abbrev pub attribute_in : List AttrRec → TreeValue → Option Given
attribute_in records tree = option_and_then (given_in records) (inside_under (universal 16) tree)

abbrev pub givens_of : List AttrRec → Option TreeValue → Option (List Given)
givens_of records None = Some []
givens_of records (Some tree) = option_and_then (all_in (attribute_in records)) (inside_of tree)

abbrev pub create_attributes : Set → Option TreeValue → TreeValues → Option (List Given)
create_attributes set access rest =
    if is_controlled access
    then option_and_then (givens_of set.attributes) (at_end 7 rest)
    else None

-- where the object is to be created, and the one whose values are taken over
abbrev pub create_instances : Set → Option TreeValue → Option TreeValue → Option (Place × Option Instance)
create_instances set place reference =
    option_and_then (λ found. option_map (λ other. (found, other)) (reference_of set reference)) (place_of set place)

abbrev pub create_with : Set → IdRef → List Given → Option TreeValue → Option TreeValue → Option Request
create_with set class given place reference =
    option_map (λ (instances : Place × Option Instance). requests.Create class instances.0 instances.1 given)
    (create_instances set place reference)

abbrev pub create_of : Set → IdRef → CreateTrees → Option Request
create_of set class trees =
    option_and_then (λ given. create_with set class given trees.place trees.reference)
    (create_attributes set trees.access trees.rest)

abbrev pub create_in : Set → TreeValues → Option Request
create_in set Nothing = None
create_in set (Then class rest) =
    option_and_then (λ id. create_of set id (create_trees rest)) (id_in 0 1 class)

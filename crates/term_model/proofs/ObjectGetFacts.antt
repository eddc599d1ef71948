-- Examples of what a Get does to one object, computed: X.711, section 7.4; docs/PROFILE.md. The object is an element
-- with elementId 1, which managers may read, and load 7; a group `sizes` has the load as a member.
use Rattle.std.specs.Prelude.{◌≡◌, ℕ, pos, false, List, [], ◌∷◌, ◌++◌, None, Some, Ok, Err, codes, refl}
use Rattle.term_values.specs.Der.{identifier_octets, length_octets}
use Rattle.term_values.specs.Octets.{integer_contents}
use Rattle.term_values.specs.Oid.{subidentifier}
use Rattle.term_model.specs.declared.object.Object.{Object}
use Rattle.term_model.specs.declared.packages.PackageRec.{PackageRec}
use Rattle.term_model.specs.declared.packages.Property.{Property}
use Rattle.term_model.specs.declared.reply.Reply.TheVariants as reply
use Rattle.term_model.specs.declared.request.IdRef.TheVariants as ids
use Rattle.term_model.specs.declared.results.AttributeValue.{AttributeValue}
use Rattle.term_model.specs.declared.results.GetInfoStatus.TheVariants as get_info
use Rattle.term_model.specs.declared.schema.ClassRec.{ClassRec}
use Rattle.term_model.specs.declared.schema.Set.{Set}
use Rattle.term_model.specs.CmisErrors.{get_list_error}
use Rattle.term_model.specs.ObjectGet.{get_effect, got}
use Rattle.term_model.specs.PresentPackages.{classes_above, packages_of}
use Rattle.term_model.proofs.ExampleNetwork.{element, element_class, element_oid, element_package, id_oid, id_property}
use Rattle.term_model.proofs.ExampleNetwork.{load_oid, load_property, network}

-- the time 0
abbrev time : List ℕ
time = codes "19700101000000Z"

-- an attribute with its value, whole numbers of one octet
abbrev id_told : AttributeValue
id_told = record { id = id_oid; value = 2 ∷ 1 ∷ 1 ∷ [] }

abbrev load_told : AttributeValue
load_told = record { id = load_oid; value = 2 ∷ 1 ∷ 7 ∷ [] }

-- the attributes that have GET, where no list came
all_read : get_effect network [] element None time ≡ Ok (got element_oid [] time (id_told ∷ load_told ∷ []))
unfolding identifier_octets length_octets integer_contents
all_read = refl

-- the octets of class, name and time of the root
abbrev front : List ℕ
front =
    0x80 ∷ 0x04 ∷ 0x88 ∷ 0x37 ∷ 0x03 ∷ 0x01 ∷ 0xA4 ∷ 0x00 ∷ 0x85 ∷ 0x0F ∷ time

-- the load, asked for twice, in a result of 38 octets: it is given once
load_read : get_effect network [] element (Some (ids.Global load_oid ∷ ids.Global load_oid ∷ [])) time ≡ Ok (record {
  changes = [];
  reply = reply.Single (0x30 ∷ 0x26 ∷ (front
      ++ (0xA6 ∷ 0x0B ∷ 0x30 ∷ 0x09 ∷ 0x80 ∷ 0x04 ∷ 0x88 ∷ 0x37 ∷ 0x07 ∷ 0x02 ∷ 0x02 ∷ 0x01 ∷ 0x07 ∷ [])));
  sources = [];
})
unfolding identifier_octets length_octets integer_contents subidentifier
load_read = refl

-- an attribute that the object has not, one named in localForm, and the load: noSuchAttribute 5 for each of the two,
-- and the load
abbrev unknown : List ℕ
unknown = 2 ∷ 999 ∷ 7 ∷ 3 ∷ []

two_absent : get_effect network [] element
    (Some (ids.Global unknown ∷ ids.Local (pos 2) ∷ ids.Global load_oid ∷ ids.Global unknown ∷ [])) time
    ≡ Err (get_list_error element_oid [] time
    (get_info.Error (pos 5) (ids.Global unknown) ∷ get_info.Error (pos 5) (ids.Local (pos 2))
    ∷ get_info.Attribute load_told ∷ []))
unfolding identifier_octets length_octets integer_contents
two_absent = refl

-- a getListError of 54 octets: an attribute that the object has not, and the load
error_octets : get_effect network [] element (Some (ids.Global unknown ∷ ids.Global load_oid ∷ [])) time
    ≡ Err (record {
      code = pos 7;
      parameter = Some (0x30 ∷ 0x31 ∷ (front
          ++ (0xA6 ∷ 0x16 ∷ 0xA0 ∷ 0x09 ∷ 0x0A ∷ 0x01 ∷ 0x05 ∷ 0x80 ∷ 0x04 ∷ 0x88 ∷ 0x37 ∷ 0x07 ∷ 0x03
          ∷ 0xA1 ∷ 0x09 ∷ 0x80 ∷ 0x04 ∷ 0x88 ∷ 0x37 ∷ 0x07 ∷ 0x02 ∷ 0x02 ∷ 0x01 ∷ 0x07 ∷ [])));
    })
unfolding identifier_octets length_octets integer_contents subidentifier
error_octets = refl

-- managers may not read the load, and a class `heavy` that derives from the element's uses the group `sizes`, to
-- which a package that an object chooses adds elementId
abbrev pub heavy_oid : List ℕ
heavy_oid = 2 ∷ 999 ∷ 3 ∷ 2 ∷ []

abbrev sizes : List ℕ
sizes = 2 ∷ 999 ∷ 8 ∷ 1 ∷ []

abbrev pub chosen_oid : List ℕ
chosen_oid = 2 ∷ 999 ∷ 4 ∷ 1 ∷ []

abbrev pub using_package : PackageRec
using_package = record {
  id = None;
  label = codes "usingPackage";
  attributes = [];
  groups = record { group = sizes; added = [] } ∷ [];
  actions = [];
  notifications = [];
}

abbrev pub adding_package : PackageRec
adding_package = record {
  id = Some chosen_oid;
  label = codes "addingPackage";
  attributes = [];
  groups = record { group = sizes; added = id_oid ∷ [] } ∷ [];
  actions = [];
  notifications = [];
}

abbrev hidden_load : Property
hidden_load = record load_property { get = false }

abbrev pub heavy_class : ClassRec
heavy_class = record {
  id = heavy_oid;
  label = codes "heavy";
  superclasses = element_oid ∷ [];
  mandatory = using_package ∷ [];
  conditional = adding_package ∷ [];
  properties = id_property ∷ hidden_load ∷ [];
}

abbrev pub heavy_network : Set
heavy_network = record network {
  classes = element_class ∷ heavy_class ∷ [];
  groups = record { id = sizes; label = codes "sizes"; members = load_oid ∷ []; fixed = false } ∷ [];
}

abbrev heavy : Object
heavy = record element { class = heavy_oid }

-- the class, and the one from which it derives; its packages without and with the one that was chosen
two_classes : classes_above heavy_network.classes heavy_oid ≡ heavy_oid ∷ element_oid ∷ []
two_classes = refl

two_packages : packages_of heavy_network heavy_oid [] ≡ using_package ∷ element_package ∷ []
two_packages = refl

three_packages :
    packages_of heavy_network heavy_oid (chosen_oid ∷ []) ≡ using_package ∷ adding_package ∷ element_package ∷ []
three_packages = refl

-- the group stands for the load, which managers may not read: accessDenied 2 with the load's identifier
group_denied : get_effect heavy_network [] heavy (Some (ids.Global sizes ∷ [])) time
    ≡ Err (get_list_error heavy_oid [] time (get_info.Error (pos 2) (ids.Global load_oid) ∷ []))
group_denied = refl

-- in an object that chose the package, also for elementId
group_added :
    get_effect heavy_network [] (record heavy { chosen = chosen_oid ∷ [] }) (Some (ids.Global sizes ∷ [])) time
    ≡ Err (get_list_error heavy_oid [] time
    (get_info.Error (pos 2) (ids.Global load_oid) ∷ get_info.Attribute id_told ∷ []))
unfolding identifier_octets length_octets integer_contents
group_added = refl

-- no package of an element uses the group: noSuchAttribute 5 with the group's identifier
group_unused : get_effect heavy_network [] element (Some (ids.Global sizes ∷ [])) time
    ≡ Err (get_list_error element_oid [] time (get_info.Error (pos 5) (ids.Global sizes) ∷ []))
group_unused = refl

-- The network of the examples: a class `element` of two attributes in one package, and a root of it with the values 1
-- and 7.
use Rattle.std.specs.Prelude.{ℕ, None, pos, true, false, List, [], ◌∷◌, codes}
use Rattle.term_values.specs.declared.rules.Rules.{Rules}
use Rattle.term_values.specs.Syntaxes.TypeSyntax.{Integer}
use Rattle.term_values.specs.Typed.TypedValue.{Int}
use Rattle.term_model.specs.declared.object.Attribute.{Attribute}
use Rattle.term_model.specs.declared.object.Object.{Object}
use Rattle.term_model.specs.declared.packages.PackageRec.{PackageRec}
use Rattle.term_model.specs.declared.packages.Property.{Property}
use Rattle.term_model.specs.declared.schema.AttrRec.{AttrRec}
use Rattle.term_model.specs.declared.schema.ClassRec.{ClassRec}
use Rattle.term_model.specs.declared.schema.Set.{Set}

abbrev pub element_oid : List ℕ
element_oid = 2 ∷ 999 ∷ 3 ∷ 1 ∷ []

abbrev pub id_oid : List ℕ
id_oid = 2 ∷ 999 ∷ 7 ∷ 1 ∷ []

abbrev pub load_oid : List ℕ
load_oid = 2 ∷ 999 ∷ 7 ∷ 2 ∷ []

abbrev pub ordered : Rules
ordered = record { equality = true; ordering = true; substrings = false; comparison = false; intersection = false }

abbrev pub id_template : AttrRec
id_template = record { id = id_oid; label = codes "elementId"; syntax = Integer [] []; rules = ordered }

abbrev pub load_template : AttrRec
load_template = record { id = load_oid; label = codes "load"; syntax = Integer [] []; rules = ordered }

-- elementId with GET, load with GET-REPLACE
abbrev pub id_property : Property
id_property = record {
  attribute = id_oid;
  get = true;
  replace = false;
  add = false;
  remove = false;
  set_to_default = false;
  default = None;
  initial = None;
  permitted = [];
  required = [];
}

abbrev pub load_property : Property
load_property = record id_property { attribute = load_oid; replace = true }

abbrev pub element_package : PackageRec
element_package = record {
  id = None;
  label = codes "elementPackage";
  attributes = id_property ∷ load_property ∷ [];
  groups = [];
  actions = [];
  notifications = [];
}

abbrev pub element_class : ClassRec
element_class = record {
  id = element_oid;
  label = codes "element";
  superclasses = [];
  mandatory = element_package ∷ [];
  conditional = [];
  properties = id_property ∷ load_property ∷ [];
}

abbrev pub id_value : Attribute
id_value = record { id = id_oid; value = Int (pos 1) }

abbrev pub load_value : Attribute
load_value = record { id = load_oid; value = Int (pos 7) }

abbrev pub network : Set
network = record {
  classes = element_class ∷ [];
  attributes = id_template ∷ load_template ∷ [];
  groups = [];
  bindings = [];
  actions = [];
  notifications = [];
  rules = [];
  instances =
      record { root = true; class = element_oid; name = []; given = id_value ∷ load_value ∷ []; chosen = [] } ∷ [];
  system = record { attribute = id_oid; value = 2 ∷ 1 ∷ 1 ∷ [] } ∷ [];
}

abbrev pub element : Object
element = record { class = element_oid; binding = None; chosen = []; attrs = id_value ∷ load_value ∷ [] }

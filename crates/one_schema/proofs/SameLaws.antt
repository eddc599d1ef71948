-- SameLaws: a schema is the same as itself, and in whatever order joined properties stand they are the same (X.722,
-- section 8; docs/PROFILE.md, section 18).
use Rattle.std.specs.Prelude.{◌∷◌, [], List, get_or, refl}
use Rattle.std.proofs.lemmas.List.Elements.{Contains-get_or}
use Rattle.term_model.specs.declared.packages.Property.{Property}
use Rattle.term_model.specs.declared.schema.ClassRec.{ClassRec}
use Rattle.term_model.specs.declared.schema.Set.{Set}
use Rattle.linked_types.specs.PartIdentifiers.{AreEach}
use Rattle.one_schema.specs.SameSchemas.{AreSaidBy, AreSameClasses, AreSameProperties, AreSameSchemas, HaveSameElements}

property_itself : (p : Property) → AreSameProperties p p
property_itself p = record {
  attribute = refl;
  get = refl;
  replace = refl;
  add = refl;
  remove = refl;
  set_to_default = refl;
  default = refl;
  initial = refl;
  permitted = λ type. (λ has. has, λ has. has);
  required = λ name. (λ has. has, λ has. has);
}

-- the same properties in another order say the same
pub in_any_order : (ones others : List Property) → HaveSameElements ones others → AreSaidBy ones others
in_any_order ones others same k d within =
    let p = get_or ones k d in (p, (same p).0 (Contains-get_or ones k d within), property_itself p)

properties_itself : (ps : List Property) → AreSaidBy ps ps
properties_itself ps = in_any_order ps ps (λ p. (λ has. has, λ has. has))

class_itself : (x : ClassRec) → AreSameClasses x x
class_itself x = record {
  template = record { id = refl; label = refl; superclasses = refl; mandatory = refl; conditional = refl };
  properties = properties_itself x.properties;
  no_others = properties_itself x.properties;
}

classes_itself : (xs : List ClassRec) → AreEach AreSameClasses xs xs
classes_itself [] = tt
classes_itself (x ∷ xs) = (class_itself x, classes_itself xs)

pub same_itself : (schema : Set) → AreSameSchemas schema schema
same_itself schema = record {
  classes = classes_itself schema.classes;
  attributes = refl;
  groups = refl;
  bindings = refl;
  actions = refl;
  notifications = refl;
  rules = refl;
  instances = refl;
  system = refl;
}

-- Examples of inheritance, computed: a class has the attributes of the class from which it derives, and an object has
-- the
-- actions and notifications of a conditional package that its creation chose; X.722, sections 5.2 and 8.3.
use Rattle.std.specs.Prelude.{◌≡◌, ℕ, List, [], ◌∷◌, Some, codes, refl}
use Rattle.std.proofs.Common.{arith, inl, inr}
use Rattle.term_model.specs.declared.packages.PackageRec.{PackageRec}
use Rattle.term_model.specs.declared.schema.ClassRec.{ClassRec}
use Rattle.term_model.specs.declared.schema.Set.{Set}
use Rattle.term_model.specs.Inheritance.{Derives, HasAction, HasAttribute, HasNotification, HasPackage, HasRecord}
use Rattle.term_model.specs.Inheritance.{IsAbove}
use Rattle.term_model.specs.Inheritance.IsAbove.{Further, Itself}
use Rattle.term_model.proofs.ExampleNetwork.{element_class, element_oid, element_package, load_oid, load_property}
use Rattle.term_model.proofs.ExampleNetwork.{network}

-- a board is an element that may be reset
abbrev board_oid : List ℕ
board_oid = 2 ∷ 999 ∷ 3 ∷ 2 ∷ []

abbrev reset_package_oid : List ℕ
reset_package_oid = 2 ∷ 999 ∷ 4 ∷ 1 ∷ []

abbrev reset_oid : List ℕ
reset_oid = 2 ∷ 999 ∷ 9 ∷ 1 ∷ []

abbrev started_oid : List ℕ
started_oid = 2 ∷ 999 ∷ 10 ∷ 1 ∷ []

abbrev reset_package : PackageRec
reset_package = record {
  id = Some reset_package_oid;
  label = codes "resetPackage";
  attributes = [];
  groups = [];
  actions = reset_oid ∷ [];
  notifications = started_oid ∷ [];
}

abbrev board_class : ClassRec
board_class = record {
  id = board_oid;
  label = codes "board";
  superclasses = element_oid ∷ [];
  mandatory = [];
  conditional = reset_package ∷ [];
  properties = element_class.properties;
}

abbrev boards : Set
boards = record network { classes = element_class ∷ board_class ∷ [] }

board_record : HasRecord boards board_oid board_class
board_record = record { known = (1, omega arith, refl); named = refl }

-- a board derives from the element, which is above it, as the board itself is
board_derives : Derives boards board_oid element_oid
board_derives = record { of_class = board_class; has = board_record; from = (0, omega arith, refl) }

element_above : IsAbove boards board_oid element_oid
element_above = Further Itself board_derives

-- so a board has the element's package, and its attribute load
inherited_package : HasPackage boards board_oid [] element_package
inherited_package = record {
  above = element_oid;
  is_above = element_above;
  of_class = element_class;
  record_of = record { known = (0, omega arith, refl); named = refl };
  there = inl (0, omega arith, refl);
}

inherited_attribute : HasAttribute boards board_oid [] load_oid
inherited_attribute = record {
  of_package = element_package;
  has = inherited_package;
  property = load_property;
  stated = (1, omega arith, refl);
  is = refl;
}

-- a board whose creation chose the package has its action and its notification
chosen_package : HasPackage boards board_oid (reset_package_oid ∷ []) reset_package
chosen_package = record {
  above = board_oid;
  is_above = Itself;
  of_class = board_class;
  record_of = board_record;
  there = inr ((0, omega arith, refl), (reset_package_oid, refl, (0, omega arith, refl)));
}

chosen_action : HasAction boards board_oid (reset_package_oid ∷ []) reset_oid
chosen_action = record { of_package = reset_package; has = chosen_package; is = (0, omega arith, refl) }

chosen_notification : HasNotification boards board_oid (reset_package_oid ∷ []) started_oid
chosen_notification = record { of_package = reset_package; has = chosen_package; is = (0, omega arith, refl) }

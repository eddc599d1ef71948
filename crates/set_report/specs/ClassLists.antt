-- What a class has: X.722, sections 5.2 and 8.3. It has the attributes, actions and notifications of the mandatory
-- packages of its own and of all classes from which it derives, and the conditional packages of these classes. Of the
-- members of conditional packages it has none, since an object has such a package only where its creation names it.
use Rattle.std.specs.Prelude.{ℕ, List, [], ◌∷◌, flat_map, option_to_list}
use Rattle.std.specs.Option.{option_map_or}
use Rattle.term_model.specs.declared.packages.PackageRec.{PackageRec}
use Rattle.term_model.specs.declared.schema.ClassRec.{ClassRec}
use Rattle.term_model.specs.Creation.{stated_ids}
use Rattle.term_model.specs.ObjectOperation.{class_record}
use Rattle.term_model.specs.PresentPackages.{classes_above}
use Rattle.set_report.specs.declared.class_lists.Listed.{Listed}
use Rattle.set_report.specs.declared.class_lists.Listed.TheVariants as listed
use Rattle.set_report.specs.Orders.{in_order}

-- the actions of packages
abbrev pub package_actions : List PackageRec → List (List ℕ)
package_actions packages = flat_map (λ (of_package : PackageRec). of_package.actions) packages

-- the notifications of packages
abbrev pub package_notifications : List PackageRec → List (List ℕ)
package_notifications packages = flat_map (λ (of_package : PackageRec). of_package.notifications) packages

-- the identifiers of those packages that are registered
abbrev pub registered_packages : List PackageRec → List (List ℕ)
registered_packages packages = flat_map (λ (of_package : PackageRec). option_to_list of_package.id) packages

-- the label of a package that isn't registered
abbrev pub unregistered_label : PackageRec → List (List ℕ)
unregistered_label of_package = option_map_or (λ (id : List ℕ). []) of_package.id (of_package.label ∷ [])

-- the labels of those packages that aren't
abbrev pub unregistered_packages : List PackageRec → List (List ℕ)
unregistered_packages packages = flat_map unregistered_label packages

-- what a class itself has of a kind
abbrev pub listed_in : Listed → ClassRec → List (List ℕ)
listed_in listed.Attributes of_class = stated_ids of_class.mandatory
listed_in listed.Actions of_class = package_actions of_class.mandatory
listed_in listed.Notifications of_class = package_notifications of_class.mandatory
listed_in listed.Packages of_class = registered_packages of_class.conditional

-- the same of the class of an identifier, where that has a record
abbrev pub listed_by : List ClassRec → (ClassRec → List (List ℕ)) → List ℕ → List (List ℕ)
listed_by records own class = option_map_or own (class_record records class) []

-- what a class has of a kind, with all classes from which it derives, in rising order
abbrev pub inherited : List ClassRec → (ClassRec → List (List ℕ)) → List ℕ → List (List ℕ)
inherited records own class = in_order (flat_map (listed_by records own) (classes_above records class))

-- the labels of the unregistered conditional packages of a class itself
abbrev pub unregistered_in : ClassRec → List (List ℕ)
unregistered_in of_class = unregistered_packages of_class.conditional

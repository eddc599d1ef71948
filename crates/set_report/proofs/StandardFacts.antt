-- Examples of the text of a schema, computed: X.722, section 8; docs/PROFILE.md, section 19.
use Rattle.std.proofs.Common.{◌≡◌, [], ◌∷◌, ◌++◌, true, false, Some, refl}
use Rattle.std.specs.Fmt.{digits}
use Rattle.std.specs.Prelude.{codes}
use Rattle.term_model.specs.declared.packages.PackageRec.{PackageRec}
use Rattle.term_model.specs.declared.packages.Property.{Property}
use Rattle.term_model.specs.declared.schema.ClassRec.{ClassRec}
use Rattle.term_model.specs.declared.schema.Set.{Set}
use Rattle.term_model.proofs.ExampleNetwork.{element_class, element_oid, element_package, id_oid, id_property}
use Rattle.term_model.proofs.ExampleNetwork.{load_property, network}
use Rattle.set_report.specs.Orders.{in_order}
use Rattle.set_report.specs.ReportLines.{attribute_line, operations, unregistered_line}
use Rattle.set_report.specs.ReportText.{attribute_part, binding_lines, bound_lines, class_text, class_texts}
use Rattle.set_report.specs.ReportText.{member_lines, report_text, required_of, super_lines, action_lines}
use Rattle.set_report.specs.ReportText.{conditional_lines, notification_lines}

-- the network of one class with its two attributes
network_reported : report_text network
    ≡ codes "class 2.999.3.1 element\n attribute 2.999.7.1 elementId G\n attribute 2.999.7.2 load GR\n"
    ++ codes "bound eventForwardingDiscriminator no\nbound log no\n"
unfolding digits report_text class_texts class_text super_lines member_lines attribute_part attribute_line required_of
    action_lines notification_lines conditional_lines unregistered_line binding_lines bound_lines
network_reported = refl

-- arcs are told apart as numbers, and an identifier stands before those that it begins
arcs_in_order : in_order ((2 ∷ 999 ∷ 10 ∷ []) ∷ (2 ∷ 999 ∷ 9 ∷ 1 ∷ []) ∷ (2 ∷ 999 ∷ 10 ∷ []) ∷ (2 ∷ 999 ∷ 9 ∷ []) ∷ [])
    ≡ (2 ∷ 999 ∷ 9 ∷ []) ∷ (2 ∷ 999 ∷ 9 ∷ 1 ∷ []) ∷ (2 ∷ 999 ∷ 10 ∷ []) ∷ []
arcs_in_order = refl

-- all five operations
all_operations : operations (record id_property { replace = true; add = true; remove = true; set_to_default = true })
    ≡ codes "GRAMD"
all_operations = refl

-- an attribute without operations: the line ends in a blank
no_operations : attribute_line id_oid (codes "elementId") (Some (record id_property { get = false }))
    ≡ codes " attribute 2.999.7.1 elementId \n"
unfolding digits attribute_line
no_operations = refl

-- a class that derives from `element`: the inherited attributes, of which `load` has a required type in a conditional
-- package, and two conditional packages, of which one isn't registered
watched_load : Property
watched_load = record load_property { set_to_default = true; required = codes "Net.Id" ∷ codes "Net.Count" ∷ [] }

watch_package : PackageRec
watch_package = record element_package {
  id = Some (2 ∷ 999 ∷ 4 ∷ 1 ∷ []);
  label = codes "watchPackage";
  attributes = watched_load ∷ [];
}

spare_package : PackageRec
spare_package = record element_package { label = codes "sparePackage"; attributes = [] }

watch_class : ClassRec
watch_class = record element_class {
  id = 2 ∷ 999 ∷ 3 ∷ 2 ∷ [];
  label = codes "watch";
  superclasses = element_oid ∷ [];
  mandatory = [];
  conditional = watch_package ∷ spare_package ∷ [];
  properties = id_property ∷ watched_load ∷ [];
}

watched : Set
watched = record network { classes = watch_class ∷ element_class ∷ [] }

watch_reported : class_text watched watch_class
    ≡ codes "class 2.999.3.2 watch\n super 2.999.3.1 element\n attribute 2.999.7.1 elementId G\n"
    ++ (codes " attribute 2.999.7.2 load GRD\n required 2.999.7.2 Net.Count\n required 2.999.7.2 Net.Id\n"
    ++ codes " conditional - sparePackage\n conditional 2.999.4.1 watchPackage\n")
unfolding digits class_text super_lines member_lines attribute_part attribute_line required_of action_lines
    notification_lines conditional_lines unregistered_line watched_load watch_package spare_package watch_class watched
watch_reported = refl

-- Examples of docs/PROFILE.md, section 12, computed: a class with a package in line and two attributes, as in a
-- network's document: which templates there are, what their labels mean, and faults.
use Rattle.std.specs.Prelude.{◌≡◌, [], ◌∷◌, None, Some, Contains, codes, refl}
use Rattle.std.proofs.Common.{arith}
use Rattle.token_grammar.specs.declared.qualified_name.QualifiedName.{QualifiedName}
use Rattle.gdmo_names.specs.DocumentTemplates.{templates}
use Rattle.gdmo_names.specs.DoubleNames.{DoubleLabelAt, DoubleIdentifierAt}
use Rattle.gdmo_names.specs.DoubleNames.DoubleLabelAt.{template_label as label_twice}
use Rattle.gdmo_names.specs.FirstLabelFault.{IsNoLater}
use Rattle.gdmo_names.specs.FirstLabelFault.LabelFault.{KindWrong, LabelDouble}
use Rattle.gdmo_names.specs.FirstLabelFault.IsNoLater.{at_one_token}
use Rattle.gdmo_names.specs.FirstNames.{HasArcs, root_arc}
use Rattle.gdmo_names.specs.FirstNames.HasArcs.{number}
use Rattle.gdmo_names.specs.LabelMeaning.{Leads, first_called, label_meaning, target}
use Rattle.gdmo_names.specs.Mentions.Role.{Superclass, MandatoryPackage, PackageAttribute}
use Rattle.gdmo_names.specs.PartTerms.{PartTerms}
use Rattle.gdmo_names.specs.References.Refers.{by_template}
use Rattle.gdmo_names.specs.TemplateTerms.{TemplateTerm}
use Rattle.gdmo_names.specs.TemplateTerms.ReferenceTerm.{ByLabel, InLine}
use Rattle.gdmo_names.specs.TemplateTerms.ReferenceTerms.{NoReferences}
use Rattle.gdmo_names.specs.TemplateTerms.UseTerms.{NoUses}
use Rattle.gdmo_names.specs.UnknownLabels.{UnknownLabelAt}
use Rattle.gdmo_names.specs.UnknownLabels.UnknownLabelAt.{template_label}
use Rattle.gdmo_names.specs.WrongKinds.{WrongKindAt}
use Rattle.gdmo_names.specs.WrongKinds.WrongKindAt.{unregistered}
use Rattle.gdmo_names.proofs.Texts.{word, arcs_of, qualified, attribute_of, package_of}
use Rattle.gdmo_names.proofs.Texts.{use_of, class_of, one_reference, placed, of_templates}

-- element, with elementPackage in line, which has elementId and load; elementId is registered under 2.999.7.1, and
-- load, of the second document, isn't registered
abbrev id_type : QualifiedName
id_type = qualified (word 40 (codes "Net")) (word 44 (codes "Id"))

abbrev element_id : TemplateTerm
element_id = attribute_of (word 10 (codes "elementId")) id_type (Some (arcs_of 60 (codes "7") (codes "1")))

abbrev load : TemplateTerm
load = attribute_of (word 5 (codes "load")) id_type None

abbrev element_package : TemplateTerm
element_package = package_of (word 140 (codes "elementPackage")) None (use_of (ByLabel (word 180
    (codes "elementId"))) [] (use_of (ByLabel (word 195 (codes "load"))) [] NoUses))

abbrev element : TemplateTerm
element = class_of (word 100 (codes "element")) (arcs_of 230 (codes "3") (codes "1")) NoReferences
    (one_reference (InLine element_package))

abbrev network : PartTerms
network = of_templates (placed 1 element ∷ placed 1 element_id ∷ placed 2 load ∷ [])

templates_example : templates network
    ≡ placed 1 element ∷ placed 1 element_package ∷ placed 1 element_id ∷ placed 2 load ∷ []
unfolding templates
templates_example = refl

-- one space of labels: load of the second document, and the package in line
load_means : label_meaning network (codes "load") ≡ Some (placed 2 load)
unfolding label_meaning first_called templates
load_means = refl

package_means : label_meaning network (codes "elementPackage") ≡ Some (placed 1 element_package)
unfolding label_meaning first_called templates
package_means = refl

nothing_means : label_meaning network (codes "port") ≡ None
unfolding label_meaning first_called templates
nothing_means = refl

-- the class has elementPackage, and it has load
package_led : Leads network (placed 1 element) MandatoryPackage (placed 1 element_package)
unfolding target
package_led = record {
  reference = InLine element_package;
  names = (0, omega arith, refl);
  means = record { is_target = refl; of_kind = refl };
}

load_led : Leads network (placed 1 element_package) PackageAttribute (placed 2 load)
unfolding target
load_led = record {
  reference = ByLabel (word 195 (codes "load"));
  names = (1, omega arith, refl);
  means = record { is_target = load_means; of_kind = refl };
}

-- load isn't registered, which is told at its label in the package
package_stands : Contains (templates network) (placed 1 element_package)
unfolding templates
package_stands = (1, omega arith, refl)

unregistered_fault : WrongKindAt network 1 195
unfolding load_led
unregistered_fault = unregistered (record {
  role = PackageAttribute;
  must = refl;
  refers = by_template package_stands load_led.names;
  to = placed 2 load;
  means = load_led.means;
  unregistered = refl;
}) refl

-- the first document has the label a twice: of a class and, in a clause before its own, of an attribute; the class
-- stands first
abbrev pub first_a : TemplateTerm
first_a = class_of (word 0 (codes "a")) (arcs_of 30 (codes "3") (codes "1")) (one_reference (ByLabel (word 20
    (codes "b")))) NoReferences

abbrev pub second_a : TemplateTerm
second_a = attribute_of (word 50 (codes "a")) id_type (Some (arcs_of 80 (codes "3") (codes "1")))

abbrev pub doubled : PartTerms
doubled = of_templates (placed 1 second_a ∷ placed 1 first_a ∷ [])

first_means : label_meaning doubled (codes "a") ≡ Some (placed 1 first_a)
unfolding label_meaning first_called templates
first_means = refl

first_stands : Contains (templates doubled) (placed 1 first_a)
unfolding templates
first_stands = (1, omega arith, refl)

second_stands : Contains (templates doubled) (placed 1 second_a)
unfolding templates
second_stands = (0, omega arith, refl)

double_label : DoubleLabelAt doubled 1 50
double_label = label_twice (record {
  stands = second_stands;
  first = placed 1 first_a;
  first_stands = first_stands;
  before = refl;
  same = refl;
}) refl refl

-- both are registered under 2.999.3.1; the brace of the later one is told
first_arcs : HasArcs doubled (arcs_of 30 (codes "3") (codes "1")) (2 ∷ 999 ∷ 3 ∷ 1 ∷ [])
first_arcs = number refl

second_arcs : HasArcs doubled (arcs_of 80 (codes "3") (codes "1")) (2 ∷ 999 ∷ 3 ∷ 1 ∷ [])
second_arcs = number refl

double_identifier : DoubleIdentifierAt doubled 1 80
double_identifier = record {
  later = placed 1 second_a;
  identifier = arcs_of 80 (codes "3") (codes "1");
  registers = record { stands = second_stands; is = refl };
  first = placed 1 first_a;
  first_identifier = arcs_of 30 (codes "3") (codes "1");
  first_registers = record { stands = first_stands; is = refl };
  before = refl;
  arcs = 2 ∷ 999 ∷ 3 ∷ 1 ∷ [];
  is = record { has = second_arcs; good = refl };
  first_is = record { has = first_arcs; good = refl };
  is_in = refl;
  is_brace = refl;
}

-- no template has the label b of DERIVED FROM
unknown_label : UnknownLabelAt doubled 1 20
unfolding label_meaning first_called templates
unknown_label = template_label (by_template {role = Superclass} first_stands (0, omega arith, refl)) refl refl

-- at one token a wrong kind goes before a double label
ranks_example : IsNoLater KindWrong 1 50 LabelDouble 1 50
ranks_example = at_one_token refl refl (omega arith)

-- the roots' names
iso_example : root_arc (codes "iso") ≡ Some 1
unfolding root_arc
iso_example = refl

joint_example : root_arc (codes "joint-iso-itu-t") ≡ Some 2
unfolding root_arc
joint_example = refl

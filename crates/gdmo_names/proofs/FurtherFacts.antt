-- Further examples of docs/PROFILE.md, section 12, computed: first names, a FIXED group that is added to, a field
-- that is no component, rules, and names of modules.
use Rattle.std.specs.Prelude.{◌≡◌, [], ◌∷◌, true, false, None, Some, Contains, codes, refl}
use Rattle.std.proofs.Common.{inl, arith}
use Rattle.token_grammar.specs.Form.{Bare}
use Rattle.asn1_names.specs.ModuleTerms.{AssignmentTerm}
use Rattle.asn1_names.specs.ModuleTerms.AssignedTerm.{AssignsValue}
use Rattle.asn1_names.specs.ModuleTerms.PlainTerm.{IdentifierTerm as ObjectIdentifierType}
use Rattle.asn1_names.specs.ModuleTerms.TypeTerm.{Plain}
use Rattle.asn1_names.specs.NameMeaning.{module_meaning, first_module, meaning_within, assigned_in, first_assignment}
use Rattle.asn1_names.specs.NameMeaning.Meaning.{ValueAt, Nothing}
use Rattle.asn1_names.specs.NameMeaning.ModuleMeaning.{NoModule}
use Rattle.asn1_names.specs.TypeBase.HasBase.{itself}
use Rattle.gdmo_names.specs.DocumentTemplates.{templates}
use Rattle.gdmo_names.specs.DoubleNames.{DoubleLabelAt}
use Rattle.gdmo_names.specs.DoubleNames.DoubleLabelAt.{module_name as module_twice}
use Rattle.gdmo_names.specs.DoubleNames.IsModuleAgain.{standard as standard_again}
use Rattle.gdmo_names.specs.ClassMembers.{CanBeNamedBy}
use Rattle.gdmo_names.specs.ClassMembers.CanName.{subclass}
use Rattle.gdmo_names.specs.ClassMembers.Derives.{directly}
use Rattle.gdmo_names.specs.ClassMembers.IsNamedBy.{by_binding}
use Rattle.gdmo_names.specs.FirstNames.{DefinesName, DefinesNameFirst, HasArcs, IsIdentifier, root_arc}
use Rattle.gdmo_names.specs.FirstNames.HasArcs.{number, root, defined}
use Rattle.gdmo_names.specs.LabelMeaning.{Leads, Means, first_called, label_meaning, target}
use Rattle.gdmo_names.specs.Mentions.Role.{SubordinateClass, NamingAttribute, Superclass, PackageGroup, RuleClass}
use Rattle.gdmo_names.specs.Mentions.Role.{StepAttribute}
use Rattle.gdmo_names.specs.PartTerms.{ModulePart, RuleTerm, PartTerms, arcs_at}
use Rattle.gdmo_names.specs.PartTerms.StepTerm.{AddTo}
use Rattle.gdmo_names.specs.RuleWords.NamesByLabel.{add}
use Rattle.gdmo_names.specs.TemplateTerms.{RowTerms, TemplateTerm}
use Rattle.gdmo_names.specs.TemplateTerms.BodyTerm.{BindingBody, GroupBody, PackageBody}
use Rattle.gdmo_names.specs.TemplateTerms.LifeTerm.{NoLife}
use Rattle.gdmo_names.specs.TemplateTerms.ReferenceTerm.{ByLabel}
use Rattle.gdmo_names.specs.TemplateTerms.ReferenceTerms.{NoReferences}
use Rattle.gdmo_names.specs.TemplateTerms.RowTerms.{NoRows, Row}
use Rattle.gdmo_names.specs.TemplateTerms.TemplateTerm.{Template}
use Rattle.gdmo_names.specs.TemplateTerms.UseTerms.{NoUses}
use Rattle.gdmo_names.specs.TypeMeaning.{qualified_meaning}
use Rattle.gdmo_names.specs.WrongKinds.{WrongKindAt}
use Rattle.gdmo_names.specs.WrongKinds.IsRow.{first}
use Rattle.gdmo_names.specs.WrongKinds.WrongKindAt.{fixed_group, naming_attribute}
use Rattle.gdmo_names.proofs.Texts.{word, digits, arcs_of, named_arcs, qualified, attribute_of}
use Rattle.gdmo_names.proofs.Texts.{class_of, one_reference, placed, of_templates}

-- Net has net OBJECT IDENTIFIER ::= {2 999 3 1}; {net 5} is 2.999.3.1.5
abbrev net_value : AssignmentTerm
net_value = record {
  name = word 30 (codes "net");
  assigned = AssignsValue (Plain (word 34 (codes "OBJECT")) ObjectIdentifierType []) None Bare;
}

abbrev net_module : ModulePart
net_module = record {
  text = record {
    document = 1;
    name = word 0 (codes "Net");
    is_implicit = false;
    imports = [];
    assignments = net_value ∷ [];
  };
  identifiers = [];
  arcs = Some (arcs_of 60 (codes "3") (codes "1")) ∷ [];
}

abbrev with_net : PartTerms
with_net = record { modules = net_module ∷ []; outermost = []; rules = []; instances = [] }

net_means : assigned_in (net_module.text ∷ []) 0 (codes "net")
    ≡ ValueAt 0 0 (Plain (word 34 (codes "OBJECT")) ObjectIdentifierType []) None Bare
unfolding assigned_in first_assignment
net_means = refl

net_defined : DefinesName with_net (codes "net") 0 0
net_defined = record {
  of = Plain (word 34 (codes "OBJECT")) ObjectIdentifierType [];
  number = None;
  text = Bare;
  means = net_means;
  is_identifier = record {
    written_in = 0;
    word = word 34 (codes "OBJECT");
    limits = [];
    base = itself refl;
  };
}

net_first : DefinesNameFirst with_net (codes "net") 0 0
net_first = record { defines = net_defined; first = λ v j below. absurd (omega (arith, below)) }

net_no_root : root_arc (codes "net") ≡ None
unfolding root_arc
net_no_root = refl

net_arcs_at : arcs_at with_net 0 0 ≡ Some (Some (arcs_of 60 (codes "3") (codes "1")))
unfolding arcs_at
net_arcs_at = refl

named_example : HasArcs with_net (named_arcs 90 (word 91 (codes "net")) (codes "5")) (2 ∷ 999 ∷ 3 ∷ 1 ∷ 5 ∷ [])
named_example = defined refl net_no_root net_first net_arcs_at (number refl)

identifier_example : IsIdentifier with_net (named_arcs 90 (word 91 (codes "net")) (codes "5"))
    (2 ∷ 999 ∷ 3 ∷ 1 ∷ 5 ∷ [])
identifier_example = record { has = named_example; good = refl }

iso_arcs : HasArcs with_net (named_arcs 90 (word 91 (codes "iso")) (codes "3")) (1 ∷ 3 ∷ [])
unfolding root_arc
iso_arcs = root refl refl

-- Net has no type of the name Id, and there is no module Other
no_type : qualified_meaning (net_module.text ∷ []) (qualified (word 5 (codes "Net")) (word 9 (codes "Id"))) ≡ Nothing
unfolding qualified_meaning module_meaning first_module meaning_within assigned_in first_assignment
no_type = refl

no_module : module_meaning (net_module.text ∷ []) (codes "Other") ≡ NoModule
unfolding module_meaning first_module
no_module = refl

-- a module that is called CMIP-1 has the name of one before all documents
abbrev own_standard : ModulePart
own_standard = record {
  text = record {
    document = 2;
    name = word 7 (codes "CMIP-1");
    is_implicit = false;
    imports = [];
    assignments = [];
  };
  identifiers = [];
  arcs = [];
}

standard_twice : DoubleLabelAt (record { modules = own_standard ∷ []; outermost = []; rules = []; instances = [] }) 2 7
standard_twice = module_twice 0 refl (standard_again refl) refl refl

-- a group that is FIXED, to which a package adds an attribute
abbrev fixed : TemplateTerm
fixed = Template (word 10 (codes "states")) (Some (arcs_of 40 (codes "8") (codes "1"))) (GroupBody NoReferences true)

abbrev rows : RowTerms
rows = Row (ByLabel (word 140 (codes "states"))) (one_reference (ByLabel (word 150 (codes "load")))) NoRows

abbrev adding : TemplateTerm
adding = Template (word 100 (codes "adding")) None (PackageBody NoReferences NoUses rows NoRows NoRows)

abbrev groups : PartTerms
groups = of_templates (placed 1 fixed ∷ placed 2 adding ∷ [])

adding_stands : Contains (templates groups) (placed 2 adding)
unfolding templates
adding_stands = (1, omega arith, refl)

states_means : label_meaning groups (codes "states") ≡ Some (placed 1 fixed)
unfolding label_meaning first_called templates
states_means = refl

states_target : Means groups 2 PackageGroup (ByLabel (word 140 (codes "states"))) (placed 1 fixed)
unfolding target
states_target = record { is_target = states_means; of_kind = refl }

fixed_fault : WrongKindAt groups 2 140
fixed_fault = fixed_group (record {
  by = placed 2 adding;
  stands = adding_stands;
  is_in = refl;
  groups = rows;
  has = refl;
  added = ByLabel (word 150 (codes "load"));
  others = NoReferences;
  row = first;
  to = placed 1 fixed;
  means = states_target;
  fixed = refl;
}) refl

-- ON base ACTION reset DO ADD 1 TO baseId: a binding names objects of top and of its subclasses by baseId, and base
-- derives from top
abbrev top : TemplateTerm
top = class_of (word 0 (codes "top")) (arcs_of 30 (codes "3") (codes "1")) NoReferences NoReferences

abbrev base : TemplateTerm
base = class_of (word 100 (codes "base")) (arcs_of 130 (codes "3") (codes "2")) (one_reference (ByLabel (word 120
    (codes "top")))) NoReferences

abbrev base_id : TemplateTerm
base_id = attribute_of (word 200 (codes "baseId")) (qualified (word 220 (codes "Net")) (word 224 (codes "Id"))) (Some
    (arcs_of 230 (codes "7") (codes "1")))

abbrev binding : TemplateTerm
binding = Template (word 300 (codes "top-top")) (Some (arcs_of 390 (codes "6") (codes "1"))) (BindingBody (ByLabel
    (word 320 (codes "top"))) true (ByLabel (word 340 (codes "top"))) false (ByLabel (word 360
    (codes "baseId"))) NoReferences NoLife NoLife)

abbrev rule : RuleTerm
rule = record {
  document = 1;
  class = word 500 (codes "base");
  action = word 510 (codes "reset");
  steps = AddTo (digits 520 (codes "1")) (word 525 (codes "baseId")) ∷ [];
}

abbrev ruled : PartTerms
ruled = record {
  modules = [];
  outermost = placed 1 top ∷ placed 1 base ∷ placed 1 base_id ∷ placed 1 binding ∷ [];
  rules = rule ∷ [];
  instances = [];
}

top_means : label_meaning ruled (codes "top") ≡ Some (placed 1 top)
unfolding label_meaning first_called templates
top_means = refl

base_means : label_meaning ruled (codes "base") ≡ Some (placed 1 base)
unfolding label_meaning first_called templates
base_means = refl

base_id_means : label_meaning ruled (codes "baseId") ≡ Some (placed 1 base_id)
unfolding label_meaning first_called templates
base_id_means = refl

binding_stands : Contains (templates ruled) (placed 1 binding)
unfolding templates
binding_stands = (3, omega arith, refl)

base_derives : Leads ruled (placed 1 base) Superclass (placed 1 top)
unfolding target
base_derives = record {
  reference = ByLabel (word 120 (codes "top"));
  names = (0, omega arith, refl);
  means = record { is_target = top_means; of_kind = refl };
}

binding_of_top : Leads ruled (placed 1 binding) SubordinateClass (placed 1 top)
unfolding target
binding_of_top = record {
  reference = ByLabel (word 320 (codes "top"));
  names = (0, omega arith, refl);
  means = record { is_target = top_means; of_kind = refl };
}

binding_by : Leads ruled (placed 1 binding) NamingAttribute (placed 1 base_id)
unfolding target
binding_by = record {
  reference = ByLabel (word 360 (codes "baseId"));
  names = (2, omega arith, refl);
  means = record { is_target = base_id_means; of_kind = refl };
}

base_stands : Contains (templates ruled) (placed 1 base)
unfolding templates
base_stands = (1, omega arith, refl)

base_is_named : CanBeNamedBy ruled (placed 1 base) (placed 1 base_id)
base_is_named = record {
  below = placed 1 base;
  stands = base_stands;
  derives = inl refl;
  named = by_binding binding_stands (subclass binding_of_top refl (directly base_derives)) binding_by;
}

rule_class : Means ruled 1 RuleClass (ByLabel (word 500 (codes "base"))) (placed 1 base)
unfolding target
rule_class = record { is_target = base_means; of_kind = refl }

step_attribute : Means ruled 1 StepAttribute (ByLabel (word 525 (codes "baseId"))) (placed 1 base_id)
unfolding target
step_attribute = record { is_target = base_id_means; of_kind = refl }

naming_fault : WrongKindAt ruled 1 525
naming_fault = naming_attribute {rule = rule} {label = word 525 (codes "baseId")} (record {
  step = AddTo (digits 520 (codes "1")) (word 525 (codes "baseId"));
  attribute = placed 1 base_id;
  names = record {
    has = record { stands = (0, omega arith, refl); has = (0, omega arith, refl) };
    by = add;
    means = step_attribute;
  };
  class = placed 1 base;
  of_class = rule_class;
  naming = base_is_named;
}) refl refl

-- Examples of docs/PROFILE.md, section 12, computed: SET load TO ARGUMENT in a rule of an action that has no
-- information, for a class that has no packages.
use Rattle.std.specs.Prelude.{◌≡◌, [], ◌∷◌, Option, None, Some, codes, refl}
use Rattle.std.proofs.Common.{ap, sym, arith, inl, inr}
use Rattle.std.proofs.Math.Path.{subst}
use Rattle.token_grammar.specs.declared.qualified_name.QualifiedName.{QualifiedName}
use Rattle.asn1_names.specs.NodeCount.{IsNoType}
use Rattle.gdmo_names.specs.AttributeSyntaxes.{HasUnknownSyntax}
use Rattle.gdmo_names.specs.AttributeSyntaxes.HasUnknownSyntax.{stated, missing, derived}
use Rattle.gdmo_names.specs.ClassMembers.{Derives, HasAttribute, HasUnknownAttributes, IsOrDerives}
use Rattle.gdmo_names.specs.ClassMembers.Derives.{directly, through}
use Rattle.gdmo_names.specs.ClassMembers.HasUnknownAttributes.{superclass, package_of, attribute_of}
use Rattle.gdmo_names.specs.DocumentTemplates.{templates}
use Rattle.gdmo_names.specs.LabelMeaning.{Leads, LeadsNowhere, Means, first_called, label_meaning, target}
use Rattle.gdmo_names.specs.Mentions.Role.{MandatoryPackage, RuleAction, RuleClass, StepAttribute, Superclass}
use Rattle.gdmo_names.specs.Mentions.{Role}
use Rattle.gdmo_names.specs.PartTerms.{Placed, RuleTerm, PartTerms}
use Rattle.gdmo_names.specs.PartTerms.StepTerm.{SetTo}
use Rattle.gdmo_names.specs.PartTerms.TakenTerm.{TheArgument}
use Rattle.gdmo_names.specs.RuleFaults.HasOtherType.{set_argument}
use Rattle.gdmo_names.specs.RuleWords.NamesByLabel.{set}
use Rattle.gdmo_names.specs.TemplateTerms.{SyntaxTerm}
use Rattle.gdmo_names.specs.TemplateTerms.ReferenceTerm.{ByLabel}
use Rattle.gdmo_names.specs.TemplateTerms.SyntaxTerm.{OfType, OfAttribute}
use Rattle.gdmo_names.specs.TypeMeaning.{qualified_meaning}
use Rattle.gdmo_names.specs.WrongKinds.{WrongKindAt}
use Rattle.gdmo_names.specs.WrongKinds.WrongKindAt.{foreign_attribute, other_type}
use Rattle.gdmo_names.proofs.Texts.{word, placed}
use Rattle.gdmo_names.proofs.TypeFacts.{net, id_type, id_means, class_a, load, reset}

abbrev rule : RuleTerm
rule = record {
  document = 1;
  class = word 500 (codes "a");
  action = word 510 (codes "reset");
  steps = SetTo (word 520 (codes "load")) (TheArgument (word 530 (codes "ARGUMENT"))) ∷ [];
}

abbrev ruled : PartTerms
ruled = record {
  modules = net ∷ [];
  outermost = placed 1 class_a ∷ placed 1 load ∷ placed 1 reset ∷ [];
  rules = rule ∷ [];
  instances = [];
}

load_means : label_meaning ruled (codes "load") ≡ Some (placed 1 load)
unfolding label_meaning first_called templates
load_means = refl

reset_means : label_meaning ruled (codes "reset") ≡ Some (placed 1 reset)
unfolding label_meaning first_called templates
reset_means = refl

step_load : Means ruled 1 StepAttribute (ByLabel (word 520 (codes "load"))) (placed 1 load)
unfolding target
step_load = record { is_target = load_means; of_kind = refl }

rule_action : Means ruled 1 RuleAction (ByLabel (word 510 (codes "reset"))) (placed 1 reset)
unfolding target
rule_action = record { is_target = reset_means; of_kind = refl }

-- the type of load is there, so its syntax is known
abbrev stated_type : Option SyntaxTerm → QualifiedName
stated_type None = id_type
stated_type (Some (OfType name)) = name
stated_type (Some (OfAttribute attribute)) = id_type

type_is_there : (name : QualifiedName) → id_type ≡ name → IsNoType (qualified_meaning (net.text ∷ []) name) → ⊥
type_is_there name same is_none =
    subst IsNoType id_means (subst (λ x. IsNoType (qualified_meaning (net.text ∷ []) x)) (sym same) is_none)

load_is_known : HasUnknownSyntax ruled (placed 1 load) → ⊥
load_is_known (stated {name = name} is is_none) = type_is_there name (ap stated_type is) is_none
load_is_known (missing nowhere) = absurd (omega (arith, nowhere.names.1))
load_is_known (derived leads unknown) = absurd (omega (arith, leads.names.1))

argument_fault : WrongKindAt ruled 1 530
argument_fault = other_type {rule = rule} {word = word 530 (codes "ARGUMENT")} (set_argument (record {
  has = record { stands = (0, omega arith, refl); has = (0, omega arith, refl) };
  by = set;
  means = step_load;
}) rule_action tt load_is_known (λ no. no)) refl refl

-- a names no template, so it derives from nothing and has no attributes
leads_to_none : {role : Role} {to : Placed} → Leads ruled (placed 1 class_a) role to → ⊥
leads_to_none leads = absurd (omega (arith, leads.names.1))

derives_from_none : {base : Placed} → Derives ruled (placed 1 class_a) base → ⊥
derives_from_none (directly leads) = leads_to_none leads
derives_from_none (through derives leads) = derives_from_none derives

leads_nowhere_to_none : {role : Role} → LeadsNowhere ruled (placed 1 class_a) role → ⊥
leads_nowhere_to_none nowhere = absurd (omega (arith, nowhere.names.1))

only_itself : {base : Placed} → IsOrDerives ruled (placed 1 class_a) base → placed 1 class_a ≡ base
only_itself (inl same) = same
only_itself (inr derives) = absurd (derives_from_none derives)

all_is_known : HasUnknownAttributes ruled (placed 1 class_a) → ⊥
all_is_known (superclass above nowhere) =
    leads_nowhere_to_none (subst (λ x. LeadsNowhere ruled x Superclass) (sym (only_itself above)) nowhere)
all_is_known (package_of above nowhere) =
    leads_nowhere_to_none (subst (λ x. LeadsNowhere ruled x MandatoryPackage) (sym (only_itself above)) nowhere)
all_is_known (attribute_of {in_package = between} above leads nowhere) =
    leads_to_none (subst (λ x. Leads ruled x MandatoryPackage between) (sym (only_itself above)) leads)

has_no_attribute : {attribute : Placed} → HasAttribute ruled (placed 1 class_a) attribute → ⊥
has_no_attribute has = leads_to_none (subst (λ x. Leads ruled x MandatoryPackage has.package_of)
    (sym (only_itself has.above)) has.mandatory)

a_means : label_meaning ruled (codes "a") ≡ Some (placed 1 class_a)
unfolding label_meaning first_called templates
a_means = refl

rule_class : Means ruled 1 RuleClass (ByLabel (word 500 (codes "a"))) (placed 1 class_a)
unfolding target
rule_class = record { is_target = a_means; of_kind = refl }

foreign_fault : WrongKindAt ruled 1 520
foreign_fault = foreign_attribute {rule = rule} {label = word 520 (codes "load")} (record {
  step = SetTo (word 520 (codes "load")) (TheArgument (word 530 (codes "ARGUMENT")));
  attribute = placed 1 load;
  names = record {
    has = record { stands = (0, omega arith, refl); has = (0, omega arith, refl) };
    by = set;
    means = step_load;
  };
  class = placed 1 class_a;
  of_class = rule_class;
  all_known = all_is_known;
  foreign = has_no_attribute;
}) refl refl

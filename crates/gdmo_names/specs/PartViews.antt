-- PartViews: what the parts of documents say, as the terms of PartTerms (docs/PROFILE.md, sections 2, 8 and 9).
use Rattle.std.specs.Prelude.{ℕ, List, [], ◌∷◌, ◌++◌, Bool, true, false, Option, None, Some, map, flat_map, codes}
use Rattle.std.specs.Prelude.{if◌then◌else◌}
use Rattle.std.specs.declared.alloc.Global.{Global}
use Rattle.std.specs.declared.vec.Vec.{Vec}
use Rattle.token_grammar.specs.declared.object_identifier.ObjectIdentifier.{ObjectIdentifier}
use Rattle.token_grammar.specs.declared.token.Token.{Token}
use Rattle.token_grammar.specs.Form.{Tree}
use Rattle.token_grammar.specs.TokenTests.{is_word_of}
use Rattle.asn1_values_syntax.specs.declared.value.NamedValue.TheVariants.{Name}
use Rattle.asn1_values_syntax.specs.declared.value.ValueText.{ValueText}
use Rattle.asn1_values_syntax.specs.declared.value.ValueText.TheVariants.{Named as NamedText}
use Rattle.asn1_values_syntax.specs.ValueTrees.{value_tree}
use Rattle.asn1_syntax.specs.declared.module.Assigned.{Assigned}
use Rattle.asn1_syntax.specs.declared.module.Assigned.TheVariants.{OfType, OfValue}
use Rattle.asn1_syntax.specs.declared.module.Imports.{Imports}
use Rattle.asn1_syntax.specs.declared.module.Module.{Module}
use Rattle.asn1_names.specs.TermViews.{module_term}
use Rattle.extra_syntax.specs.declared.assignment.Assignment.{Assignment as PairText}
use Rattle.extra_syntax.specs.declared.instance.Instance.{Instance}
use Rattle.extra_syntax.specs.declared.instance.InstanceKind.{InstanceKind}
use Rattle.extra_syntax.specs.declared.instance.InstanceKind.TheVariants.{Root, Object}
use Rattle.extra_syntax.specs.declared.rule.Rule.{Rule}
use Rattle.extra_syntax.specs.declared.section.Section.{Section}
use Rattle.extra_syntax.specs.declared.section.Section.TheVariants.{Rules, Instances}
use Rattle.extra_syntax.specs.declared.step.Reply.{Reply}
use Rattle.extra_syntax.specs.declared.step.Reply.TheVariants.{Value as ReplyValue, Label as ReplyLabel}
use Rattle.extra_syntax.specs.declared.step.Step.{Step}
use Rattle.extra_syntax.specs.declared.step.Step.TheVariants.{Set as SetStep, Add, Emit, Reply as ReplyStep}
use Rattle.gdmo_classes.specs.declared.template.ClassTemplate.{ClassTemplate}
use Rattle.gdmo_classes.specs.declared.template.ClassTemplate.TheVariants.{Class, Package, NameBinding}
use Rattle.gdmo_members.specs.declared.member.MemberTemplate.{MemberTemplate}
use Rattle.gdmo_members.specs.declared.member.MemberTemplate.TheVariants.{Attribute, Group, Action, Notification}
use Rattle.gdmo_members.specs.declared.member.MemberTemplate.TheVariants.{Parameter, Behaviour}
use Rattle.gdmo_names.specs.declared.parsed.Parsed.{Parsed}
use Rattle.gdmo_names.specs.ClassViews.{class_term, package_term, binding_term}
use Rattle.gdmo_names.specs.MemberViews.{identifier_term, clause_tokens, behaviour_term, attribute_term}
use Rattle.gdmo_names.specs.MemberViews.{parameter_term, group_term, action_term, notification_term}
use Rattle.gdmo_names.specs.PartTerms.{ModulePart, Placed, TakenTerm, StepTerm, RuleTerm, PairTerm, InstanceTerm}
use Rattle.gdmo_names.specs.PartTerms.{PartTerms}
use Rattle.gdmo_names.specs.PartTerms.TakenTerm.{TheArgument, OneWord, OtherValue}
use Rattle.gdmo_names.specs.PartTerms.StepTerm.{SetTo, AddTo, EmitOf, ReplyWith}
use Rattle.gdmo_names.specs.TemplateTerms.{IdentifierTerm}
use Rattle.gdmo_names.specs.ArcViews.{value_arcs}

-- modules
abbrev pub assigned_arcs : Assigned → Option IdentifierTerm
assigned_arcs (OfType of) = None
assigned_arcs (OfValue of value) = value_arcs value

abbrev pub identifier_list : Option ObjectIdentifier → List IdentifierTerm
identifier_list None = []
identifier_list (Some x) = identifier_term x ∷ []

abbrev pub imported_identifiers : Option Imports → List IdentifierTerm
imported_identifiers None = []
imported_identifiers (Some x) =
    identifier_list x.first.identifier ++ flat_map (λ y. identifier_list y.identifier) x.others.items

abbrev pub module_part : Module → ModulePart
module_part x = record {
  text = module_term x;
  identifiers = identifier_list x.identifier ++ imported_identifiers x.imports;
  arcs = map (λ y. assigned_arcs y.assigned) x.assignments.items;
}

-- templates that don't stand in line
abbrev pub class_placed : ClassTemplate → Placed
class_placed (Class x) = record { document = x.document; template = class_term x }
class_placed (Package x) = record { document = x.document; template = package_term x }
class_placed (NameBinding x) = record { document = x.document; template = binding_term x }

abbrev pub member_placed : MemberTemplate → Placed
member_placed (Attribute x) = record { document = x.document; template = attribute_term x }
member_placed (Group x) = record { document = x.document; template = group_term x }
member_placed (Action x) = record { document = x.document; template = action_term x }
member_placed (Notification x) = record { document = x.document; template = notification_term x }
member_placed (Parameter x) = record { document = x.document; template = parameter_term x }
member_placed (Behaviour x) = record { document = x.document; template = behaviour_term x }

-- rules
abbrev pub word_taken : Token → TakenTerm
word_taken word = if is_word_of (codes "ARGUMENT") word then TheArgument word else OneWord word

abbrev pub taken_term : ValueText → TakenTerm
taken_term (NamedText (Name name)) = word_taken name
taken_term value = OtherValue (value_tree value)

abbrev pub optional_value : Option ValueText → Option Tree
optional_value None = None
optional_value (Some value) = Some (value_tree value)

abbrev pub reply_term : Reply → TakenTerm
reply_term (ReplyValue value) = taken_term value
reply_term (ReplyLabel label) = OneWord label

abbrev pub step_term : Step → StepTerm
step_term (SetStep x) = SetTo x.attribute (taken_term x.value)
step_term (Add x) = AddTo x.number x.attribute
step_term (Emit x) = EmitOf x.notification (optional_value x.value)
step_term (ReplyStep x) = ReplyWith (reply_term x)

abbrev pub rule_term : ℕ → Rule → RuleTerm
rule_term document x = record {
  document = document;
  class = x.class;
  action = x.action;
  steps = map step_term x.steps.items;
}

-- instances
abbrev pub is_root_kind : InstanceKind → Bool
is_root_kind (Root word) = true
is_root_kind (Object word) = false

abbrev pub pair_term : PairText → PairTerm
pair_term x = record { attribute = x.attribute; value = value_tree x.value }

abbrev pub pair_terms : Option (Vec PairText Global) → List PairTerm
pair_terms None = []
pair_terms (Some xs) = map pair_term xs.items

abbrev pub instance_term : ℕ → Instance → InstanceTerm
instance_term document x = record {
  document = document;
  is_root = is_root_kind x.kind;
  class = x.class;
  name = map pair_term x.name.items;
  given = pair_terms x.values;
  packages = clause_tokens x.packages;
}

-- sections
abbrev pub section_rules : Section → List RuleTerm
section_rules (Rules x) = map (rule_term x.document) x.rules.items
section_rules (Instances x) = []

abbrev pub section_instances : Section → List InstanceTerm
section_instances (Rules x) = []
section_instances (Instances x) = map (instance_term x.document) x.instances.items

-- all parts
abbrev pub part_terms : Parsed → PartTerms
part_terms x = record {
  modules = map module_part x.modules.items;
  outermost = map class_placed x.classes.items ++ map member_placed x.members.items;
  rules = flat_map section_rules x.sections.items;
  instances = flat_map section_instances x.sections.items;
}

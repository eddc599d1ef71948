-- Examples of docs/PROFILE.md, section 12, computed: first names of values that a module assigns, that stand behind
-- DEFAULT, in a rule and at an instance.
use Rattle.std.proofs.Common.{arith}
use Rattle.std.specs.Prelude.{◌≡◌, [], ◌∷◌, None, Some, codes, false, refl, true}
use Rattle.token_grammar.specs.declared.qualified_name.QualifiedName.{QualifiedName}
use Rattle.token_grammar.specs.declared.token.Token.{Token}
use Rattle.token_grammar.specs.Form.{Tree, Bare, Leaf, Pair, First, Second, Absent, Empty, After, Numbered}
use Rattle.term_values.specs.Syntaxes.TypeSyntax.{ObjectIdentifier}
use Rattle.asn1_names.specs.Constraining.Constrains.{no_more}
use Rattle.asn1_names.specs.Containment.IsMember.{first as first_member}
use Rattle.asn1_names.specs.Containment.Within.{itself}
use Rattle.asn1_names.specs.DenotedSyntax.{Denotes}
use Rattle.asn1_names.specs.DenotedSyntax.Denotes.{plain}
use Rattle.asn1_names.specs.DenotedSyntax.PlainDenotes.{object_identifier}
use Rattle.asn1_names.specs.ModuleTerms.{ModuleTerm, TypeTerm}
use Rattle.asn1_names.specs.ModuleTerms.AssignedTerm.{AssignsType, AssignsValue}
use Rattle.asn1_names.specs.ModuleTerms.MemberTerms.{NoMembers, Member}
use Rattle.asn1_names.specs.ModuleTerms.PlainTerm.{IdentifierTerm}
use Rattle.asn1_names.specs.ModuleTerms.PresenceTerm.{DefaultTerm}
use Rattle.asn1_names.specs.ModuleTerms.TypeTerm.{Plain, Structure}
use Rattle.asn1_names.specs.NameMeaning.{assigned_in, first_assignment, first_module, meaning_within, module_meaning}
use Rattle.asn1_names.specs.NameMeaning.Meaning.{TypeAt}
use Rattle.gdmo_names.specs.AttributeSyntaxes.{AttributeHasSyntax}
use Rattle.gdmo_names.specs.AttributeSyntaxes.AttributeHasType.{stated}
use Rattle.gdmo_names.specs.DocumentTemplates.{templates}
use Rattle.gdmo_names.specs.LabelMeaning.{Means, first_called, label_meaning, target}
use Rattle.gdmo_names.specs.Mentions.Role.{NameAttribute, StepAttribute}
use Rattle.gdmo_names.specs.PartTerms.{InstanceTerm, PartTerms, RuleTerm}
use Rattle.gdmo_names.specs.PartTerms.StepTerm.{SetTo}
use Rattle.gdmo_names.specs.PartTerms.TakenTerm.{OtherValue}
use Rattle.gdmo_names.specs.TemplateTerms.{TemplateTerm}
use Rattle.gdmo_names.specs.TemplateTerms.ReferenceTerm.{ByLabel}
use Rattle.gdmo_names.specs.TypeMeaning.{qualified_meaning}
use Rattle.gdmo_names.specs.TypeMeaning.TypeHasSyntax.{assigned as type_assigned}
use Rattle.gdmo_names.specs.ValueNames.{BeginsIn}
use Rattle.gdmo_names.specs.ValueNames.BeginsIn.{arcs}
use Rattle.gdmo_names.proofs.Texts.{attribute_of, brace, digits, placed, qualified, word}
use Rattle.begun_values.specs.ModuleValues.{ModuleFirsts}
use Rattle.begun_values.specs.ModuleValues.IsModuleValue.{assigned, default}
use Rattle.begun_values.specs.SectionValues.{SectionFirsts}
use Rattle.begun_values.specs.SectionValues.IsSectionValue.{naming, set}

-- {net 5}
abbrev net : Token
net = word 20 (codes "net")

abbrev five : Tree
five = Numbered 0 (Second (First (Pair Absent (Leaf (digits 30 (codes "5"))))))

abbrev net_five : Tree
net_five = Numbered 0 (Second (Second (Second (Pair (Leaf (brace 0))
    (Second (First (Pair (After Empty (First (Pair (Leaf net) five))) Bare)))))))

net_begins : BeginsIn net ObjectIdentifier net_five
net_begins = arcs refl

-- `a OBJECT IDENTIFIER ::= {net 5}`, `T ::= SEQUENCE { id OBJECT IDENTIFIER DEFAULT {net 5} }` and
-- `Id ::= OBJECT IDENTIFIER`
abbrev identifier : TypeTerm
identifier = Plain (word 2 (codes "OBJECT")) IdentifierTerm []

abbrev sequence_type : TypeTerm
sequence_type = Structure (word 12 (codes "SEQUENCE")) (Member (word 14 (codes "id")) identifier (DefaultTerm net_five)
    NoMembers) []

abbrev net_module : ModuleTerm
net_module = record {
  document = 1;
  name = word 0 (codes "Net");
  is_implicit = false;
  imports = [];
  assignments = record { name = word 1 (codes "a"); assigned = AssignsValue identifier None net_five }
      ∷ record { name = word 10 (codes "T"); assigned = AssignsType sequence_type }
      ∷ record { name = word 16 (codes "Id"); assigned = AssignsType identifier } ∷ [];
}

identifier_denotes : Denotes (net_module ∷ []) 0 identifier ObjectIdentifier
identifier_denotes = plain object_identifier no_more

assigned_begins : ModuleFirsts (net_module ∷ []) net
assigned_begins = record {
  text = net_five;
  syntax = ObjectIdentifier;
  stands = assigned refl (0, omega arith, refl) refl identifier_denotes;
  begins = net_begins;
}

default_begins : ModuleFirsts (net_module ∷ []) net
default_begins = record {
  text = net_five;
  syntax = ObjectIdentifier;
  stands = default {document = 1} (record {
    of = sequence_type;
    assigned = record {
      in_module = net_module;
      is_in = record { module_at = refl; numbered = refl };
      assignment = record { name = word 10 (codes "T"); assigned = AssignsType sequence_type };
      stands = (1, omega arith, refl);
      is_of = refl;
    };
    within = itself;
  }) first_member identifier_denotes;
  begins = net_begins;
}

-- `addr ATTRIBUTE WITH ATTRIBUTE SYNTAX Net.Id;`, `SET addr TO {net 5}`, and an object named `addr = {net 5}`
abbrev id_type : QualifiedName
id_type = qualified (word 140 (codes "Net")) (word 142 (codes "Id"))

abbrev address : TemplateTerm
address = attribute_of (word 100 (codes "addr")) id_type None

abbrev rule : RuleTerm
rule = record {
  document = 1;
  class = word 500 (codes "a");
  action = word 510 (codes "reset");
  steps = SetTo (word 520 (codes "addr")) (OtherValue net_five) ∷ [];
}

abbrev object : InstanceTerm
object = record {
  document = 1;
  is_root = true;
  class = word 600 (codes "a");
  name = record { attribute = word 610 (codes "addr"); value = net_five } ∷ [];
  given = [];
  packages = [];
}

abbrev parts : PartTerms
parts = record {
  modules = record { text = net_module; identifiers = []; arcs = None ∷ None ∷ None ∷ [] } ∷ [];
  outermost = placed 1 address ∷ [];
  rules = rule ∷ [];
  instances = object ∷ [];
}

id_means : qualified_meaning (net_module ∷ []) id_type ≡ TypeAt 0 2 identifier
unfolding qualified_meaning module_meaning first_module meaning_within assigned_in first_assignment
id_means = refl

address_has : AttributeHasSyntax parts (placed 1 address) ObjectIdentifier
address_has = record { name = id_type; of_type = stated refl; has = type_assigned id_means identifier_denotes }

address_means : label_meaning parts (codes "addr") ≡ Some (placed 1 address)
unfolding label_meaning first_called templates
address_means = refl

step_means : Means parts 1 StepAttribute (ByLabel (word 520 (codes "addr"))) (placed 1 address)
unfolding target
step_means = record { is_target = address_means; of_kind = refl }

name_means : Means parts 1 NameAttribute (ByLabel (word 610 (codes "addr"))) (placed 1 address)
unfolding target
name_means = record { is_target = address_means; of_kind = refl }

set_begins : SectionFirsts parts net
set_begins = record {
  text = net_five;
  syntax = ObjectIdentifier;
  stands = set {rule = rule} {label = word 520 (codes "addr")}
      (record { stands = (0, omega arith, refl); has = (0, omega arith, refl) })
      (record { attribute = placed 1 address; means = step_means; has = address_has });
  begins = net_begins;
}

naming_begins : SectionFirsts parts net
naming_begins = record {
  text = net_five;
  syntax = ObjectIdentifier;
  stands = naming {instance = object} {pair = record { attribute = word 610 (codes "addr"); value = net_five }}
      (0, omega arith, refl) (0, omega arith, refl) refl
      (record { attribute = placed 1 address; means = name_means; has = address_has });
  begins = net_begins;
}

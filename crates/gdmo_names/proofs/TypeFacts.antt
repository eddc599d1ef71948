-- Examples of docs/PROFILE.md, section 12, computed: syntaxes of attributes, a field of a notification, first names
-- with unequal values, an identifier that is none, a label of another kind, and a rule that is stated twice.
use Rattle.std.specs.Prelude.{◌≡◌, ℕ, List, [], ◌∷◌, true, false, None, Some, Contains, codes, refl}
use Rattle.std.proofs.Common.{arith, subst}
use Rattle.token_grammar.specs.declared.qualified_name.QualifiedName.{QualifiedName}
use Rattle.token_grammar.specs.Form.{Tree, Bare}
use Rattle.term_values.specs.Syntaxes.TypeSyntax.{Integer, Sequence}
use Rattle.term_values.specs.Syntaxes.TypeParts.{NoParts, Part as APart}
use Rattle.asn1_names.specs.Constraining.Constrains.{no_more}
use Rattle.asn1_names.specs.Containment.IsMember.{first as first_member}
use Rattle.asn1_names.specs.DefaultTexts.{HasDefault}
use Rattle.asn1_names.specs.DefaultTexts.HasDefault.{component}
use Rattle.asn1_names.specs.DenotedSyntax.{Denotes}
use Rattle.asn1_names.specs.DenotedSyntax.AreNamed.{no_more as no_names}
use Rattle.asn1_names.specs.DenotedSyntax.Denotes.{plain, sequence}
use Rattle.asn1_names.specs.DenotedSyntax.MembersDenote.{no_members, member}
use Rattle.asn1_names.specs.DenotedSyntax.PlainDenotes.{integer}
use Rattle.asn1_names.specs.ModuleTerms.{AssignmentTerm, TypeTerm}
use Rattle.asn1_names.specs.ModuleTerms.AssignedTerm.{AssignsType, AssignsValue}
use Rattle.asn1_names.specs.ModuleTerms.MemberTerms.{NoMembers, Member}
use Rattle.asn1_names.specs.ModuleTerms.PlainTerm.{IntegerTerm, IdentifierTerm as ObjectIdentifierType}
use Rattle.asn1_names.specs.ModuleTerms.PresenceTerm.{Needed}
use Rattle.asn1_names.specs.ModuleTerms.TypeTerm.{Plain, Structure}
use Rattle.asn1_names.specs.NameMeaning.{module_meaning, first_module, meaning_within, assigned_in, first_assignment}
use Rattle.asn1_names.specs.NameMeaning.{Meaning}
use Rattle.asn1_names.specs.NameMeaning.Meaning.{TypeAt}
use Rattle.asn1_names.specs.ResolvedTypes.{HasDefaultText}
use Rattle.asn1_names.specs.ResolvedTypes.HasDefaultText.{of_type}
use Rattle.asn1_names.specs.TypeBase.HasBase.{itself}
use Rattle.gdmo_names.specs.AttributeSyntaxes.{AttributeHasType, AttributeHasSyntax, IsComponentOf, IsWholeNumber}
use Rattle.gdmo_names.specs.AttributeSyntaxes.AttributeHasType.{stated}
use Rattle.gdmo_names.specs.BegunNames.{BeginsOne}
use Rattle.gdmo_names.specs.BegunNames.BeginsOne.{identifier}
use Rattle.gdmo_names.specs.DocumentTemplates.{templates}
use Rattle.gdmo_names.specs.DoubleNames.{DoubleLabelAt}
use Rattle.gdmo_names.specs.DoubleNames.DoubleLabelAt.{first_name as unequal_name}
use Rattle.gdmo_names.specs.FirstNames.{DefinesName, HasArcs, are_identifier, root_arc}
use Rattle.gdmo_names.specs.FirstNames.HasArcs.{number, root, defined}
use Rattle.gdmo_names.specs.FirstNames.IsKnownFirst.{number as known_number}
use Rattle.gdmo_names.specs.FirstNames.StandsIdentifier.{of_module}
use Rattle.gdmo_names.specs.LabelMeaning.{Means, first_called, label_meaning, target}
use Rattle.gdmo_names.specs.Mentions.Role.{MandatoryPackage, RuleAction, RuleClass}
use Rattle.gdmo_names.specs.OneType.{HasDefaultsOf}
use Rattle.gdmo_names.specs.PartTerms.{ModulePart, RuleTerm, PartTerms, arcs_at}
use Rattle.gdmo_names.specs.References.Refers.{by_template}
use Rattle.gdmo_names.specs.TemplateTerms.{IdentifierTerm, TemplateTerm}
use Rattle.gdmo_names.specs.TemplateTerms.BodyTerm.{ActionBody}
use Rattle.gdmo_names.specs.TemplateTerms.FirstTerm.{ArcNumber}
use Rattle.gdmo_names.specs.TemplateTerms.ReferenceTerm.{ByLabel}
use Rattle.gdmo_names.specs.TemplateTerms.ReferenceTerms.{NoReferences}
use Rattle.gdmo_names.specs.TemplateTerms.TemplateTerm.{Template}
use Rattle.gdmo_names.specs.TypeMeaning.{TypeHasSyntax, qualified_meaning}
use Rattle.gdmo_names.specs.TypeMeaning.TypeHasSyntax.{assigned}
use Rattle.gdmo_names.specs.WrongKinds.{WrongKindAt}
use Rattle.gdmo_names.specs.WrongKinds.WrongKindAt.{no_identifier, other_kind, stated_twice}
use Rattle.gdmo_names.proofs.Texts.{word, digits, brace, arcs_of, named_arcs, qualified, attribute_of, class_of}
use Rattle.gdmo_names.proofs.Texts.{one_reference, placed, of_templates}

-- Net has Id ::= INTEGER and Info ::= SEQUENCE { load INTEGER }
abbrev pub whole_number : ℕ → TypeTerm
whole_number at = Plain (word at (codes "INTEGER")) (IntegerTerm []) []

abbrev pub info_type : TypeTerm
info_type = Structure (word 60 (codes "SEQUENCE")) (Member (word 71 (codes "load")) (whole_number 76) Needed
    NoMembers) []

abbrev pub net : ModulePart
net = record {
  text = record {
    document = 1;
    name = word 0 (codes "Net");
    is_implicit = false;
    imports = [];
    assignments = record { name = word 30 (codes "Id"); assigned = AssignsType (whole_number 37) }
        ∷ record { name = word 50 (codes "Info"); assigned = AssignsType info_type } ∷ [];
  };
  identifiers = [];
  arcs = None ∷ None ∷ [];
}

abbrev pub id_type : QualifiedName
id_type = qualified (word 140 (codes "Net")) (word 144 (codes "Id"))

abbrev info_name : QualifiedName
info_name = qualified (word 240 (codes "Net")) (word 244 (codes "Info"))

abbrev pub load : TemplateTerm
load = attribute_of (word 100 (codes "load")) id_type (Some (arcs_of 160 (codes "7") (codes "2")))

abbrev parts : PartTerms
parts = record { modules = net ∷ []; outermost = placed 1 load ∷ []; rules = []; instances = [] }

pub id_means : qualified_meaning (net.text ∷ []) id_type ≡ TypeAt 0 0 (whole_number 37)
unfolding qualified_meaning module_meaning first_module meaning_within assigned_in first_assignment
id_means = refl

info_means : qualified_meaning (net.text ∷ []) info_name ≡ TypeAt 0 1 info_type
unfolding qualified_meaning module_meaning first_module meaning_within assigned_in first_assignment
info_means = refl

number_denotes : {at : ℕ} → Denotes (net.text ∷ []) 0 (whole_number at) (Integer [] [])
number_denotes = plain (integer no_names) no_more

load_type : AttributeHasType parts (placed 1 load) id_type
load_type = stated refl

load_has : AttributeHasSyntax parts (placed 1 load) (Integer [] [])
load_has = record { name = id_type; of_type = load_type; has = assigned id_means number_denotes }

load_is_number : IsWholeNumber parts (placed 1 load)
load_is_number = record { syntax = Integer [] []; has = load_has; whole = refl }

info_has : TypeHasSyntax (net.text ∷ []) info_name (Sequence (APart (codes "load") (Integer [] []) false None NoParts))
info_has = assigned info_means (sequence refl (member number_denotes no_members))

-- DEFAULT stands in neither
no_default_in_number : {at m v : ℕ} {path : List ℕ} {text : Tree} → HasDefault (net.text ∷ []) m (whole_number at) path
    v text → ⊥
no_default_in_number d = elim d [ ]

no_default_in_info : {k v : ℕ} {path : List ℕ} {text : Tree} → HasDefault (net.text ∷ []) 0 info_type (0 ∷ (k ∷ path))
    v text → ⊥
no_default_in_info (component first_member d) = no_default_in_number d

info_told : {k v : ℕ} {path : List ℕ} {text : Tree} → HasDefaultText (net.text ∷ []) (TypeAt 0 1 info_type)
    (0 ∷ (k ∷ path)) v text → ⊥
info_told (of_type d) = no_default_in_info d

id_told : {v : ℕ} {path : List ℕ} {text : Tree} → HasDefaultText (net.text ∷ []) (TypeAt 0 0 (whole_number 37)) path v
    text → ⊥
id_told (of_type d) = no_default_in_number d

defaults_alike : HasDefaultsOf (net.text ∷ []) info_name 0 id_type
defaults_alike k path = (
  λ d. absurd (info_told (subst (λ (t : Meaning). HasDefaultText (net.text ∷ []) t (0 ∷ (k ∷ path)) d.written_in d.text)
      info_means d.stands)),
  λ d. absurd (id_told (subst (λ (t : Meaning). HasDefaultText (net.text ∷ []) t (k ∷ path) d.written_in d.text)
      id_means d.stands)),
)

field_example : IsComponentOf parts info_name (codes "load") (placed 1 load)
field_example = record {
  whole = Sequence (APart (codes "load") (Integer [] []) false None NoParts);
  is = info_has;
  place = 0;
  syntax = Integer [] [];
  component = refl;
  own = id_type;
  of_type = load_type;
  has = assigned id_means number_denotes;
  defaults = defaults_alike;
}

-- {2} is no object identifier
abbrev one_arc : IdentifierTerm
one_arc = record { brace = brace 30; first = ArcNumber (digits 31 (codes "2")); others = [] }

abbrev short : PartTerms
short = of_templates (placed 1 (class_of (word 0 (codes "a")) one_arc NoReferences NoReferences) ∷ [])

short_stands : Contains (templates short) (placed 1 (class_of (word 0
    (codes "a")) one_arc NoReferences NoReferences))
unfolding templates
short_stands = (0, omega arith, refl)

false_is_true : false ≡ true → ⊥
false_is_true e = absurd (cc)

no_arcs : {arcs : List ℕ} → HasArcs short one_arc arcs → are_identifier arcs ≡ true → ⊥
no_arcs (number first) good = false_is_true good
no_arcs (root first arc) good = absurd (cc)
no_arcs (defined first no_root defines reads has) good = absurd (cc)

short_fault : WrongKindAt short 1 30
short_fault = no_identifier (record {
  by = placed 1 (class_of (word 0 (codes "a")) one_arc NoReferences NoReferences);
  identifier = one_arc;
  registers = record { stands = short_stands; is = refl };
  is_in = refl;
  is_brace = refl;
  known = known_number refl;
  bad = λ arcs is. no_arcs is.has is.good;
}) refl

-- CHARACTERIZED BY names an attribute
abbrev wrong_class : TemplateTerm
wrong_class = class_of (word 0 (codes "a")) (arcs_of 50 (codes "3") (codes "1")) NoReferences (one_reference (ByLabel
    (word 40 (codes "load"))))

abbrev wrong : PartTerms
wrong = of_templates (placed 1 wrong_class ∷ placed 2 load ∷ [])

wrong_stands : Contains (templates wrong) (placed 1 wrong_class)
unfolding templates
wrong_stands = (0, omega arith, refl)

wrong_means : label_meaning wrong (codes "load") ≡ Some (placed 2 load)
unfolding label_meaning first_called templates
wrong_means = refl

wrong_fault : WrongKindAt wrong 1 40
wrong_fault = other_kind {label = word 40 (codes "load")} (record {
  role = MandatoryPackage;
  refers = by_template wrong_stands (0, omega arith, refl);
  to = placed 2 load;
  means = wrong_means;
  other = λ e. absurd (cc);
}) refl

-- ON a ACTION reset .. stands twice, in two documents: the later class is told
abbrev pub class_a : TemplateTerm
class_a = class_of (word 0 (codes "a")) (arcs_of 50 (codes "3") (codes "1")) NoReferences NoReferences

abbrev pub reset : TemplateTerm
reset = Template (word 60 (codes "reset")) (Some (arcs_of 80 (codes "9") (codes "1"))) (ActionBody NoReferences false
    NoReferences None None)

abbrev rule_at : ℕ → ℕ → RuleTerm
rule_at document at =
    record { document = document; class = word at (codes "a"); action = word at (codes "reset"); steps = [] }

abbrev twice : PartTerms
twice = record {
  modules = [];
  outermost = placed 1 class_a ∷ placed 1 reset ∷ [];
  rules = rule_at 1 100 ∷ rule_at 2 10 ∷ [];
  instances = [];
}

a_means : label_meaning twice (codes "a") ≡ Some (placed 1 class_a)
unfolding label_meaning first_called templates
a_means = refl

reset_means : label_meaning twice (codes "reset") ≡ Some (placed 1 reset)
unfolding label_meaning first_called templates
reset_means = refl

a_is_class : {document at : ℕ} → Means twice document RuleClass (ByLabel (word at (codes "a"))) (placed 1 class_a)
unfolding target
a_is_class = record { is_target = a_means; of_kind = refl }

reset_is_action : {document at : ℕ} → Means twice document RuleAction (ByLabel (word at (codes "reset")))
    (placed 1 reset)
unfolding target
reset_is_action = record { is_target = reset_means; of_kind = refl }

twice_fault : WrongKindAt twice 2 10
twice_fault = stated_twice {rule = rule_at 2 10} (record {
  earlier = 0;
  later = 1;
  rising = omega arith;
  first = rule_at 1 100;
  is_first = refl;
  is_later = refl;
  class = placed 1 class_a;
  of_class = a_is_class;
  first_of_class = a_is_class;
  action = placed 1 reset;
  of_action = reset_is_action;
  first_of_action = reset_is_action;
}) refl refl

-- two modules give net unequal values, and the first one's own identifier begins with net: the later name is told
abbrev net_value : AssignmentTerm
net_value = record {
  name = word 30 (codes "net");
  assigned = AssignsValue (Plain (word 34 (codes "OBJECT")) ObjectIdentifierType []) None Bare;
}

abbrev one_net : ModulePart
one_net = record {
  text = record {
    document = 1;
    name = word 0 (codes "One");
    is_implicit = false;
    imports = [];
    assignments = net_value ∷ [];
  };
  identifiers = named_arcs 5 (word 6 (codes "net")) (codes "7") ∷ [];
  arcs = Some (arcs_of 60 (codes "3") (codes "1")) ∷ [];
}

abbrev other_net : ModulePart
other_net = record {
  text = record {
    document = 2;
    name = word 0 (codes "Other");
    is_implicit = false;
    imports = [];
    assignments = net_value ∷ [];
  };
  identifiers = [];
  arcs = Some (arcs_of 60 (codes "3") (codes "2")) ∷ [];
}

abbrev nets : PartTerms
nets = record { modules = one_net ∷ other_net ∷ []; outermost = []; rules = []; instances = [] }

net_no_root : root_arc (codes "net") ≡ None
unfolding root_arc
net_no_root = refl

net_defined : DefinesName nets (codes "net") 0 0
unfolding assigned_in first_assignment
net_defined = record {
  of = Plain (word 34 (codes "OBJECT")) ObjectIdentifierType [];
  number = None;
  text = Bare;
  means = refl;
  is_identifier = record { written_in = 0; word = word 34 (codes "OBJECT"); limits = []; base = itself refl };
}

net_defined_again : DefinesName nets (codes "net") 1 0
unfolding assigned_in first_assignment
net_defined_again = record {
  of = Plain (word 34 (codes "OBJECT")) ObjectIdentifierType [];
  number = None;
  text = Bare;
  means = refl;
  is_identifier = record { written_in = 1; word = word 34 (codes "OBJECT"); limits = []; base = itself refl };
}

net_begins : BeginsOne nets (codes "net")
net_begins = identifier {document = 1} {x = named_arcs 5 (word 6 (codes "net")) (codes "7")} (of_module {part = one_net}
    (0, omega arith, refl) refl (0, omega arith, refl)) refl refl

unequal_fault : DoubleLabelAt nets 2 30
unfolding arcs_at
unequal_fault = unequal_name 1 0 {x = other_net.text} {assignment = net_value} refl refl (record {
  begins = net_begins;
  no_root = net_no_root;
  defines = net_defined_again;
  k = 0;
  j = 0;
  before = omega arith;
  first_defines = net_defined;
  arcs = 2 ∷ 999 ∷ 3 ∷ 2 ∷ [];
  has = record { text = arcs_of 60 (codes "3") (codes "2"); reads = refl; has = number refl };
  first_arcs = 2 ∷ 999 ∷ 3 ∷ 1 ∷ [];
  first_has = record { text = arcs_of 60 (codes "3") (codes "1"); reads = refl; has = number refl };
  unequal = λ e. absurd (cc);
}) refl refl

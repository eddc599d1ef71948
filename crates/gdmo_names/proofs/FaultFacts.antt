-- Examples of docs/PROFILE.md, section 12, computed: a name that a module assigns twice, a value for a type, a first
-- name that is that of a type, a word behind REPLY, an attribute by which a ROOT is named, and types that differ in
-- DEFAULT.
use Rattle.std.specs.Prelude.{Contains, ◌≡◌, ℕ, zero, suc, List, [], ◌∷◌, true, false, None, Some, codes, refl}
use Rattle.std.proofs.Common.{arith, inl, subst, sym, ◌∙◌}
use Rattle.std.proofs.lemmas.Option.{none-some}
use Rattle.token_grammar.specs.declared.qualified_name.QualifiedName.{QualifiedName}
use Rattle.token_grammar.specs.Form.{Tree, Bare}
use Rattle.term_values.specs.Syntaxes.{TypeSyntax}
use Rattle.term_values.specs.Syntaxes.TypeSyntax.{Integer, Sequence}
use Rattle.term_values.specs.Syntaxes.TypeParts.{NoParts, Part as APart}
use Rattle.asn1_names.specs.Constraining.Constrains.{no_more}
use Rattle.asn1_names.specs.Containment.IsMember.{first}
use Rattle.asn1_names.specs.DefaultTexts.HasDefault.{here, component}
use Rattle.asn1_names.specs.DenotedSyntax.{Denotes}
use Rattle.asn1_names.specs.DenotedSyntax.AreNamed.{no_more as no_names}
use Rattle.asn1_names.specs.DenotedSyntax.Denotes.{plain, sequence}
use Rattle.asn1_names.specs.DenotedSyntax.MembersDenote.{no_members, member}
use Rattle.asn1_names.specs.DenotedSyntax.PlainDenotes.{integer}
use Rattle.asn1_names.specs.ModuleTerms.{AssignmentTerm, AssignedTerm, PresenceTerm, TypeTerm}
use Rattle.asn1_names.specs.ModuleTerms.AssignedTerm.{AssignsType, AssignsValue}
use Rattle.asn1_names.specs.ModuleTerms.MemberTerms.{NoMembers, Member}
use Rattle.asn1_names.specs.ModuleTerms.PresenceTerm.{OptionalTerm, DefaultTerm}
use Rattle.asn1_names.specs.ModuleTerms.TypeTerm.{Structure}
use Rattle.asn1_names.specs.NameMeaning.{Meaning, module_meaning, first_module, meaning_within, assigned_in}
use Rattle.asn1_names.specs.NameMeaning.{first_assignment}
use Rattle.asn1_names.specs.NameMeaning.Meaning.{TypeAt, ValueAt}
use Rattle.asn1_names.specs.ResolvedTypes.{HasDefaultText}
use Rattle.asn1_names.specs.ResolvedTypes.HasDefaultText.{of_type}
use Rattle.gdmo_names.specs.ClassMembers.IsNamedBy.{as_root}
use Rattle.gdmo_names.specs.DocumentTemplates.{templates}
use Rattle.gdmo_names.specs.DoubleNames.{DoubleLabelAt}
use Rattle.gdmo_names.specs.DoubleNames.DoubleLabelAt.{assigned_name}
use Rattle.gdmo_names.specs.FirstNames.{DefinesName, root_arc}
use Rattle.gdmo_names.specs.FirstNames.IsAssigned.{type_of}
use Rattle.gdmo_names.specs.FirstNames.StandsIdentifier.{of_template}
use Rattle.gdmo_names.specs.LabelMeaning.{Means, first_called, label_meaning, target}
use Rattle.gdmo_names.specs.Mentions.Role.{RuleAction}
use Rattle.gdmo_names.specs.OneType.{AreOneType, HasDefaultAt}
use Rattle.gdmo_names.specs.PartTerms.{InstanceTerm, ModulePart, PairTerm, RuleTerm, StepTerm, PartTerms}
use Rattle.gdmo_names.specs.PartTerms.StepTerm.{ReplyWith, SetTo}
use Rattle.gdmo_names.specs.PartTerms.TakenTerm.{OneWord, TheArgument}
use Rattle.gdmo_names.specs.References.Refers.{step_attribute}
use Rattle.gdmo_names.specs.RuleWords.{IsAttributeLabel, RepliesNumber}
use Rattle.gdmo_names.specs.RuleWords.IsReplyLabel.{other_label}
use Rattle.gdmo_names.specs.RuleWords.NamesByLabel.{reply, set}
use Rattle.gdmo_names.specs.TemplateTerms.{TemplateTerm}
use Rattle.gdmo_names.specs.TemplateTerms.ReferenceTerm.{ByLabel}
use Rattle.gdmo_names.specs.TypeMeaning.{qualified_meaning}
use Rattle.gdmo_names.specs.UnknownLabels.{UnknownLabelAt}
use Rattle.gdmo_names.specs.UnknownLabels.UnknownLabelAt.{template_label}
use Rattle.gdmo_names.specs.WrongKinds.{IsValueMeaning, WrongKindAt}
use Rattle.gdmo_names.specs.WrongKinds.IsOfOtherSort.{value_for_type}
use Rattle.gdmo_names.specs.WrongKinds.WrongKindAt.{naming_attribute, no_first_name, other_sort}
use Rattle.gdmo_names.proofs.Texts.{word, named_arcs, qualified, attribute_of, placed}
use Rattle.gdmo_names.proofs.TypeFacts.{whole_number, class_a, load, reset}

-- a module Net with these assignments
abbrev assigning : List AssignmentTerm → ModulePart
assigning xs = record {
  text = record {
    document = 1;
    name = word 0 (codes "Net");
    is_implicit = false;
    imports = [];
    assignments = xs;
  };
  identifiers = [];
  arcs = [];
}

abbrev of_module : ModulePart → TemplateTerm → PartTerms
of_module x template = record { modules = x ∷ []; outermost = placed 1 template ∷ []; rules = []; instances = [] }

abbrev assigns : ℕ → List ℕ → AssignedTerm → AssignmentTerm
assigns at name assigned = record { name = word at name; assigned = assigned }

-- Net assigns Id twice: the later one is told
abbrev doubled : PartTerms
doubled = of_module (assigning (assigns 30 (codes "Id") (AssignsType (whole_number 37))
    ∷ assigns 50 (codes "Id") (AssignsType (whole_number 57)) ∷ [])) reset

again_fault : DoubleLabelAt doubled 1 50
again_fault = assigned_name 0 1 refl refl (record {
  k = 0;
  before = omega arith;
  first = assigns 30 (codes "Id") (AssignsType (whole_number 37));
  is_first = refl;
  same = refl;
}) refl refl

-- WITH ATTRIBUTE SYNTAX Net.one, where one is a value
abbrev one_name : QualifiedName
one_name = qualified (word 140 (codes "Net")) (word 144 (codes "one"))

abbrev of_value : TemplateTerm
of_value = attribute_of (word 100 (codes "load")) one_name None

abbrev valued : PartTerms
valued = of_module (assigning (assigns 30 (codes "one") (AssignsValue (whole_number 34) None Bare) ∷ [])) of_value

one_means : qualified_meaning ((assigning (assigns 30 (codes "one") (AssignsValue (whole_number 34) None
    Bare) ∷ [])).text ∷ []) one_name ≡ ValueAt 0 0 (whole_number 34) None Bare
unfolding qualified_meaning module_meaning first_module meaning_within assigned_in first_assignment
one_means = refl

sort_fault : WrongKindAt valued 1 144
unfolding templates
sort_fault = other_sort {name = one_name} (value_for_type (record {
  by = placed 1 of_value;
  stands = (0, omega arith, refl);
  is_in = refl;
  names = (0, omega arith, refl);
}) (subst IsValueMeaning (sym one_means) tt)) refl

-- REGISTERED AS {Id 5}, where Id is a type
abbrev by_type : TemplateTerm
by_type = attribute_of (word 100 (codes "load")) one_name (Some (named_arcs 160 (word 161 (codes "Id")) (codes "5")))

abbrev typed : PartTerms
typed = of_module (assigning (assigns 30 (codes "Id") (AssignsType (whole_number 37)) ∷ [])) by_type

is_no_value : (m i : ℕ) → DefinesName typed (codes "Id") m i → ⊥
unfolding assigned_in first_assignment
is_no_value zero i d = absurd (let e = d.means in cc)
is_no_value (suc m) i d = absurd (let e = d.means in cc)

name_fault : WrongKindAt typed 1 161
unfolding templates root_arc assigned_in first_assignment
name_fault = no_first_name {name = word 161 (codes "Id")} (record {
  identifier = named_arcs 160 (word 161 (codes "Id")) (codes "5");
  stands = of_template {by = placed 1 by_type} (record { stands = (0, omega arith, refl); is = refl }) refl;
  is_first = refl;
  no_root = refl;
  assigned = type_of {m = 0} {i = 0} {of = whole_number 37} refl;
  undefined = is_no_value;
}) refl

-- ON a ACTION reset DO REPLY nothing: reset has no reply, so the word is a label, which no template has
abbrev reply_nothing : StepTerm
reply_nothing = ReplyWith (OneWord (word 540 (codes "nothing")))

abbrev replying : RuleTerm
replying = record {
  document = 1;
  class = word 500 (codes "a");
  action = word 510 (codes "reset");
  steps = reply_nothing ∷ [];
}

abbrev replied : PartTerms
replied = record {
  modules = [];
  outermost = placed 1 class_a ∷ placed 1 reset ∷ [];
  rules = replying ∷ [];
  instances = [];
}

nothing_means : label_meaning replied (codes "nothing") ≡ None
unfolding label_meaning first_called templates
nothing_means = refl

reset_replies : Means replied 1 RuleAction (ByLabel (word 510 (codes "reset"))) (placed 1 reset)
unfolding target label_meaning first_called templates
reset_replies = record { is_target = refl; of_kind = refl }

no_attribute : IsAttributeLabel replied (word 540 (codes "nothing")) → ⊥
no_attribute is = absurd (none-some _ (sym nothing_means ∙ is.means))

no_number : RepliesNumber replied (placed 1 reset) (word 540 (codes "nothing")) → ⊥
no_number is = absurd (none-some _ is.is_reply)

word_fault : UnknownLabelAt replied 1 540
word_fault = template_label {label = word 540 (codes "nothing")} (step_attribute {rule = replying}
    {step = reply_nothing} (record { stands = (0, omega arith, refl); has = (0, omega arith, refl) })
    (reply (other_label no_attribute refl reset_replies tt no_number))) nothing_means refl

-- ROOT a AT {load = ..}, and SET load TO ARGUMENT for a
abbrev set_load : StepTerm
set_load = SetTo (word 520 (codes "load")) (TheArgument (word 530 (codes "ARGUMENT")))

abbrev setting : RuleTerm
setting = record {
  document = 1;
  class = word 500 (codes "a");
  action = word 510 (codes "reset");
  steps = set_load ∷ [];
}

abbrev load_pair : PairTerm
load_pair = record { attribute = word 620 (codes "load"); value = Bare }

abbrev root_a : InstanceTerm
root_a = record {
  document = 1;
  is_root = true;
  class = word 600 (codes "a");
  name = load_pair ∷ [];
  given = [];
  packages = [];
}

abbrev rooted : PartTerms
rooted = record {
  modules = [];
  outermost = placed 1 class_a ∷ placed 1 load ∷ placed 1 reset ∷ [];
  rules = setting ∷ [];
  instances = root_a ∷ [];
}

a_means : label_meaning rooted (codes "a") ≡ Some (placed 1 class_a)
unfolding label_meaning first_called templates
a_means = refl

load_means : label_meaning rooted (codes "load") ≡ Some (placed 1 load)
unfolding label_meaning first_called templates
load_means = refl

class_a_stands : Contains (templates rooted) (placed 1 class_a)
unfolding templates
class_a_stands = (0, omega arith, refl)

root_fault : WrongKindAt rooted 1 520
unfolding target
root_fault = naming_attribute {rule = setting} {label = word 520 (codes "load")} (record {
  step = set_load;
  attribute = placed 1 load;
  names = record {
    has = record { stands = (0, omega arith, refl); has = (0, omega arith, refl) };
    by = set;
    means = record { is_target = load_means; of_kind = refl };
  };
  class = placed 1 class_a;
  of_class = record { is_target = a_means; of_kind = refl };
  naming = record {
    below = placed 1 class_a;
    stands = class_a_stands;
    derives = inl refl;
    named = as_root {instance = root_a} {pair = load_pair} (0, omega arith, refl) refl refl
        (record { is_target = a_means; of_kind = refl }) (record { is_target = load_means; of_kind = refl });
  };
}) refl refl

-- SEQUENCE { x INTEGER OPTIONAL } and SEQUENCE { x INTEGER DEFAULT .. } have one syntax, and are two types
abbrev one_member : ℕ → PresenceTerm → TypeTerm
one_member at presence =
    Structure (word at (codes "SEQUENCE")) (Member (word 80 (codes "x")) (whole_number 82) presence NoMembers) []

abbrev alike : ModulePart
alike = assigning (assigns 30 (codes "A") (AssignsType (one_member 36 OptionalTerm))
    ∷ assigns 50 (codes "B") (AssignsType (one_member 56 (DefaultTerm Bare))) ∷ [])

abbrev a_name : QualifiedName
a_name = qualified (word 240 (codes "Net")) (word 244 (codes "A"))

abbrev b_name : QualifiedName
b_name = qualified (word 250 (codes "Net")) (word 254 (codes "B"))

a_is : qualified_meaning (alike.text ∷ []) a_name ≡ TypeAt 0 0 (one_member 36 OptionalTerm)
unfolding qualified_meaning module_meaning first_module meaning_within assigned_in first_assignment
a_is = refl

b_is : qualified_meaning (alike.text ∷ []) b_name ≡ TypeAt 0 1 (one_member 56 (DefaultTerm Bare))
unfolding qualified_meaning module_meaning first_module meaning_within assigned_in first_assignment
b_is = refl

abbrev one_syntax : TypeSyntax
one_syntax = Sequence (APart (codes "x") (Integer [] []) true None NoParts)

a_denotes : Denotes (alike.text ∷ []) 0 (one_member 36 OptionalTerm) one_syntax
a_denotes = sequence refl (member (plain (integer no_names) no_more) no_members)

b_denotes : Denotes (alike.text ∷ []) 0 (one_member 56 (DefaultTerm Bare)) one_syntax
b_denotes = sequence refl (member (plain (integer no_names) no_more) no_members)

b_default : HasDefaultAt (alike.text ∷ []) b_name (0 ∷ [])
b_default = record {
  written_in = 0;
  text = Bare;
  stands = subst (λ (type : Meaning). HasDefaultText (alike.text ∷ []) type (0 ∷ []) 0 Bare) (sym b_is)
      (of_type (here first));
}

a_has_none : {v : ℕ} {text : Tree} → HasDefaultText (alike.text ∷ []) (TypeAt 0 0 (one_member 36 OptionalTerm))
    (0 ∷ []) v text → ⊥
a_has_none (of_type (here d)) = elim d [ ]
a_has_none (of_type (component first d)) = elim d [ ]

two_types : AreOneType (alike.text ∷ []) a_name b_name → ⊥
two_types are =
    let d = (are.defaults (0 ∷ [])).1 b_default in
    a_has_none (subst (λ (type : Meaning). HasDefaultText (alike.text ∷ []) type (0 ∷ []) d.written_in d.text) a_is
    d.stands)

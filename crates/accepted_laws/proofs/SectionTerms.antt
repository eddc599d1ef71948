-- SectionTerms: the rules and the instances of sections that agree say one thing, where both have the number of one
-- document (docs/PROFILE.md, section 9).
use Rattle.std.proofs.Common.{◌≡◌, ℕ, None, Some, refl, ap}
use Rattle.token_grammar.specs.PartLaws.{OptionsAgree}
use Rattle.asn1_values_syntax.specs.declared.value.NamedValue.TheVariants.{Name, Choice'}
use Rattle.asn1_values_syntax.specs.declared.value.ValueText.TheVariants.{Literal, Number, Named, Braces}
use Rattle.asn1_values_syntax.specs.Agreement.{ValuesAgree}
use Rattle.asn1_values_syntax.proofs.OneTree.{values_alike}
use Rattle.extra_syntax.specs.declared.section.Section.{Section}
use Rattle.extra_syntax.specs.declared.step.Reply.{Reply}
use Rattle.extra_syntax.specs.declared.step.Step.{Step}
use Rattle.extra_syntax.specs.Agreement.{AssignmentsAgree, InstancesAgree, RepliesAgree, RulesAgree, SectionsAgree}
use Rattle.extra_syntax.specs.Agreement.{StepsAgree, VectorsAgree, two_adds, two_emits, two_instances, two_labels}
use Rattle.extra_syntax.specs.Agreement.{two_replies, two_rules, two_sets, two_values}
use Rattle.gdmo_names.specs.PartTerms.TakenTerm.{OneWord, OtherValue}
use Rattle.gdmo_names.specs.PartTerms.StepTerm.{AddTo, EmitOf, ReplyWith, SetTo}
use Rattle.gdmo_names.specs.PartViews.{instance_term, is_root_kind, optional_value, pair_term, pair_terms, reply_term}
use Rattle.gdmo_names.specs.PartViews.{rule_term, section_instances, section_rules, step_term, taken_term, word_taken}
use Rattle.document_parts.specs.DocumentParts.{numbered_section}
use Rattle.accepted_laws.proofs.ListTerms.{SayOne, lists_say, tokens_say}

-- what a step takes
taken_say : SayOne ValuesAgree taken_term
taken_say (Literal x) (Literal y) a = ap OtherValue (values_alike (Literal x) (Literal y) a)
taken_say (Literal _) (Number _) a = absurd a
taken_say (Literal _) (Named _) a = absurd a
taken_say (Literal _) (Braces _ _) a = absurd a
taken_say (Number _) (Literal _) a = absurd a
taken_say (Number x) (Number y) a = ap OtherValue (values_alike (Number x) (Number y) a)
taken_say (Number _) (Named _) a = absurd a
taken_say (Number _) (Braces _ _) a = absurd a
taken_say (Named _) (Literal _) a = absurd a
taken_say (Named _) (Number _) a = absurd a
taken_say (Named (Name _)) (Named (Name _)) a = ap word_taken a
taken_say (Named (Name _)) (Named (Choice' _ _ _)) a = absurd a
taken_say (Named (Choice' _ _ _)) (Named (Name _)) a = absurd a
taken_say (Named (Choice' x place of)) (Named (Choice' y its_place other)) a =
    ap OtherValue (values_alike (Named (Choice' x place of)) (Named (Choice' y its_place other)) a)
taken_say (Named _) (Braces _ _) a = absurd a
taken_say (Braces _ _) (Literal _) a = absurd a
taken_say (Braces _ _) (Number _) a = absurd a
taken_say (Braces _ _) (Named _) a = absurd a
taken_say (Braces x of) (Braces y other) a = ap OtherValue (values_alike (Braces x of) (Braces y other) a)

optional_values_say : SayOne (OptionsAgree ValuesAgree) optional_value
optional_values_say None None a = refl
optional_values_say None (Some _) a = absurd a
optional_values_say (Some _) None a = absurd a
optional_values_say (Some x) (Some y) a = ap Some (values_alike x y a)

-- rules
replies_in_turn : {x y : Reply} → RepliesAgree x y → reply_term x ≡ reply_term y
replies_in_turn (two_values {x} {y} a) = taken_say x y a
replies_in_turn (two_labels a) = ap OneWord a

steps_in_turn : {x y : Step} → StepsAgree x y → step_term x ≡ step_term y
steps_in_turn (two_sets {x} {y} a) =
    let attributes = a.0 in
    let values = taken_say x.value y.value a.1 in
    λ i. SetTo (attributes i) (values i)
steps_in_turn (two_adds a) = λ i. AddTo (a i).number (a i).attribute
steps_in_turn (two_emits {x} {y} a) =
    let notifications = a.0 in
    let values = optional_values_say x.value y.value a.1 in
    λ i. EmitOf (notifications i) (values i)
steps_in_turn (two_replies a) = ap ReplyWith (replies_in_turn a)

rules_say : (n : ℕ) → SayOne RulesAgree (rule_term n)
rules_say n x y a =
    let classes = a.0 in
    let actions = a.1 in
    let steps = lists_say StepsAgree step_term (λ z w b. steps_in_turn b) x.steps.items y.steps.items a.2 in
    λ i. record { document = n; class = classes i; action = actions i; steps = steps i }

-- instances
pairs_say : SayOne AssignmentsAgree pair_term
pairs_say x y a =
    let attributes = a.0 in
    let values = values_alike x.value y.value a.1 in
    λ i. record { attribute = attributes i; value = values i }

given_say : SayOne (OptionsAgree (VectorsAgree AssignmentsAgree)) pair_terms
given_say None None a = refl
given_say None (Some _) a = absurd a
given_say (Some _) None a = absurd a
given_say (Some x) (Some y) a = lists_say AssignmentsAgree pair_term pairs_say x.items y.items a

instances_say : (n : ℕ) → SayOne InstancesAgree (instance_term n)
instances_say n x y a =
    let kinds = a.0 in
    let classes = a.1 in
    let names = lists_say AssignmentsAgree pair_term pairs_say x.name.items y.name.items a.2 in
    let given = given_say x.values y.values a.3 in
    let packages = tokens_say x.packages y.packages a.4 in
    λ i. record {
      document = n;
      is_root = is_root_kind (kinds i);
      class = classes i;
      name = names i;
      given = given i;
      packages = packages i;
    }

-- sections
rules_in_turn : (n : ℕ) {x y : Section} → SectionsAgree x y →
    section_rules (numbered_section n x) ≡ section_rules (numbered_section n y)
rules_in_turn n (two_rules {x} {y} a) = lists_say RulesAgree (rule_term n) (rules_say n) x.rules.items y.rules.items a.2
rules_in_turn n (two_instances a) = refl

instances_in_turn : (n : ℕ) {x y : Section} → SectionsAgree x y →
    section_instances (numbered_section n x) ≡ section_instances (numbered_section n y)
instances_in_turn n (two_rules a) = refl
instances_in_turn n (two_instances {x} {y} a) =
    lists_say InstancesAgree (instance_term n) (instances_say n) x.instances.items y.instances.items a.2

pub rule_sections_say : (n : ℕ) → SayOne SectionsAgree (λ x. section_rules (numbered_section n x))
rule_sections_say n x y a = rules_in_turn n a

pub instance_sections_say : (n : ℕ) → SayOne SectionsAgree (λ x. section_instances (numbered_section n x))
instance_sections_say n x y a = instances_in_turn n a

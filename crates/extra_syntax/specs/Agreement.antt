-- Agreement: two sections are equal in all but the place and the capacity of the memory of their lists and values,
-- which no text says (docs/PROFILE.md, section 9).
use Rattle.std.specs.Prelude.{◌≡◌}
use Rattle.std.specs.declared.alloc.Global.{Global}
use Rattle.std.specs.declared.vec.Vec.{Vec}
use Rattle.token_grammar.specs.declared.token.Token.{Token}
use Rattle.token_grammar.specs.PartLaws.{ListsAgree, OptionsAgree}
use Rattle.asn1_values_syntax.specs.declared.value.ValueText.{ValueText}
use Rattle.asn1_values_syntax.specs.Agreement.{ValuesAgree}
use Rattle.extra_syntax.specs.declared.step.Reply.{Reply}
use Rattle.extra_syntax.specs.declared.step.Reply.TheVariants.{Value, Label}
use Rattle.extra_syntax.specs.declared.step.SetStep.{SetStep}
use Rattle.extra_syntax.specs.declared.step.AddStep.{AddStep}
use Rattle.extra_syntax.specs.declared.step.EmitStep.{EmitStep}
use Rattle.extra_syntax.specs.declared.step.Step.{Step}
use Rattle.extra_syntax.specs.declared.step.Step.TheVariants.{Set as SSet, Add, Emit, Reply as SReply}
use Rattle.extra_syntax.specs.declared.rule.Rule.{Rule}
use Rattle.extra_syntax.specs.declared.rules.RulesSection.{RulesSection}
use Rattle.extra_syntax.specs.declared.assignment.Assignment.{Assignment}
use Rattle.extra_syntax.specs.declared.instance.Instance.{Instance}
use Rattle.extra_syntax.specs.declared.instances.InstancesSection.{InstancesSection}
use Rattle.extra_syntax.specs.declared.section.Section.{Section}
use Rattle.extra_syntax.specs.declared.section.Section.TheVariants.{Rules, Instances}

-- parts that agree, one by one
abbrev pub VectorsAgree : {X : Type 0} → (X → X → Type 0) → Vec X Global → Vec X Global → Type 0
VectorsAgree agree x y = ListsAgree agree x.items y.items

-- the same parts
abbrev pub VectorsEqual : {X : Type 0} → Vec X Global → Vec X Global → Type 0
VectorsEqual x y = x.items ≡ y.items

abbrev pub SetStepsAgree : SetStep → SetStep → Type 0
SetStepsAgree x y = (x.attribute ≡ y.attribute) × ValuesAgree x.value y.value

abbrev pub EmitStepsAgree : EmitStep → EmitStep → Type 0
EmitStepsAgree x y = (x.notification ≡ y.notification) × OptionsAgree ValuesAgree x.value y.value

-- two replies, steps or sections of one kind that agree
pub data RepliesAgree : Reply → Reply → Type 0 where
  two_values : {x y : ValueText} → ValuesAgree x y → RepliesAgree (Value x) (Value y)
  two_labels : {x y : Token} → x ≡ y → RepliesAgree (Label x) (Label y)

pub data StepsAgree : Step → Step → Type 0 where
  two_sets : {x y : SetStep} → SetStepsAgree x y → StepsAgree (SSet x) (SSet y)
  two_adds : {x y : AddStep} → x ≡ y → StepsAgree (Add x) (Add y)
  two_emits : {x y : EmitStep} → EmitStepsAgree x y → StepsAgree (Emit x) (Emit y)
  two_replies : {x y : Reply} → RepliesAgree x y → StepsAgree (SReply x) (SReply y)

abbrev pub RulesAgree : Rule → Rule → Type 0
RulesAgree x y = (x.class ≡ y.class) × (x.action ≡ y.action) × VectorsAgree StepsAgree x.steps y.steps

abbrev pub RuleSectionsAgree : RulesSection → RulesSection → Type 0
RuleSectionsAgree x y = (x.document ≡ y.document) × (x.word ≡ y.word) × VectorsAgree RulesAgree x.rules y.rules

abbrev pub AssignmentsAgree : Assignment → Assignment → Type 0
AssignmentsAgree x y = (x.attribute ≡ y.attribute) × ValuesAgree x.value y.value

abbrev pub InstancesAgree : Instance → Instance → Type 0
InstancesAgree x y =
    (x.kind ≡ y.kind)
    × (x.class ≡ y.class)
    × VectorsAgree AssignmentsAgree x.name y.name
    × OptionsAgree (VectorsAgree AssignmentsAgree) x.values y.values
    × OptionsAgree VectorsEqual x.packages y.packages

abbrev pub InstanceSectionsAgree : InstancesSection → InstancesSection → Type 0
InstanceSectionsAgree x y = (x.document ≡ y.document) × (x.word ≡ y.word) × VectorsAgree InstancesAgree x.instances
    y.instances

pub data SectionsAgree : Section → Section → Type 0 where
  two_rules : {x y : RulesSection} → RuleSectionsAgree x y → SectionsAgree (Rules x) (Rules y)
  two_instances : {x y : InstancesSection} → InstanceSectionsAgree x y → SectionsAgree (Instances x) (Instances y)

-- SectionTrees: what the sections RULES and INSTANCES say, one field after the other (docs/PROFILE.md, section 9).
use Rattle.std.specs.declared.alloc.Global.{Global}
use Rattle.std.specs.declared.vec.Vec.{Vec}
use Rattle.token_grammar.specs.declared.token.Token.{Token}
use Rattle.token_grammar.specs.Form.{Tree, Bare, Leaf, Pair, First, Second, Numbered}
use Rattle.token_grammar.specs.Parts.{optional_tree, vector_tree}
use Rattle.asn1_values_syntax.specs.ValueTrees.{value_tree}
use Rattle.extra_syntax.specs.declared.step.Reply.{Reply}
use Rattle.extra_syntax.specs.declared.step.Reply.TheVariants.{Value, Label}
use Rattle.extra_syntax.specs.declared.step.SetStep.{SetStep}
use Rattle.extra_syntax.specs.declared.step.AddStep.{AddStep}
use Rattle.extra_syntax.specs.declared.step.EmitStep.{EmitStep}
use Rattle.extra_syntax.specs.declared.step.Step.{Step}
use Rattle.extra_syntax.specs.declared.step.Step.TheVariants.{Set as SSet, Add, Emit, Reply as SReply}
use Rattle.extra_syntax.specs.declared.rule.Rule.{Rule}
use Rattle.extra_syntax.specs.declared.rule.RuleHead.{RuleHead}
use Rattle.extra_syntax.specs.declared.rules.RulesSection.{RulesSection}
use Rattle.extra_syntax.specs.declared.assignment.Assignment.{Assignment}
use Rattle.extra_syntax.specs.declared.instance.InstanceKind.{InstanceKind}
use Rattle.extra_syntax.specs.declared.instance.InstanceKind.TheVariants.{Root, Object}
use Rattle.extra_syntax.specs.declared.instance.InstanceHead.{InstanceHead}
use Rattle.extra_syntax.specs.declared.instance.Instance.{Instance}
use Rattle.extra_syntax.specs.declared.instances.InstancesSection.{InstancesSection}
use Rattle.extra_syntax.specs.declared.section.Section.{Section}
use Rattle.extra_syntax.specs.declared.section.Section.TheVariants.{Rules, Instances}

-- steps
abbrev pub set_tree : SetStep → Tree
set_tree x = Pair Bare (Pair (Leaf x.attribute) (Pair Bare (value_tree x.value)))

abbrev pub add_tree : AddStep → Tree
add_tree x = Pair Bare (Pair (Leaf x.number) (Pair Bare (Leaf x.attribute)))

abbrev pub emit_tree : EmitStep → Tree
emit_tree x = Pair Bare (Pair (Leaf x.notification) (optional_tree value_tree x.value))

abbrev pub reply_tree : Reply → Tree
reply_tree (Value value) = First (value_tree value)
reply_tree (Label label) = Second (Leaf label)

abbrev pub reply_step_tree : Reply → Tree
reply_step_tree x = Pair Bare (reply_tree x)

abbrev pub step_tree : Step → Tree
step_tree (SSet x) = First (set_tree x)
step_tree (Add x) = Second (First (add_tree x))
step_tree (Emit x) = Second (Second (First (emit_tree x)))
step_tree (SReply x) = Second (Second (Second (reply_step_tree x)))

-- rules
abbrev pub rule_head_parts : Token → Token → Tree
rule_head_parts class action = Pair Bare (Pair (Leaf class) (Pair Bare (Pair (Leaf action) Bare)))

abbrev pub rule_head_tree : RuleHead → Tree
rule_head_tree x = rule_head_parts x.class x.action

abbrev pub rule_tree : Rule → Tree
rule_tree x = Pair (rule_head_parts x.class x.action) (Pair (vector_tree step_tree x.steps) Bare)

abbrev pub rules_tree : RulesSection → Tree
rules_tree x = Numbered x.document (Pair (Leaf x.word) (Pair (vector_tree rule_tree x.rules) Bare))

-- pairs of an attribute and its value
abbrev pub assignment_tree : Assignment → Tree
assignment_tree x = Pair (Leaf x.attribute) (Pair Bare (value_tree x.value))

-- pairs between commas, in braces, and behind WITH
abbrev pub assignments_tree : Vec Assignment Global → Tree
assignments_tree x = vector_tree assignment_tree x

abbrev pub name_tree : Vec Assignment Global → Tree
name_tree x = Pair Bare (Pair (assignments_tree x) Bare)

abbrev pub with_tree : Vec Assignment Global → Tree
with_tree x = Pair Bare (assignments_tree x)

abbrev pub packages_tree : Vec Token Global → Tree
packages_tree x = Pair Bare (vector_tree Leaf x)

-- instances
abbrev pub kind_tree : InstanceKind → Tree
kind_tree (Root word) = First (Leaf word)
kind_tree (Object word) = Second (Leaf word)

abbrev pub instance_head_parts : InstanceKind → Token → Vec Assignment Global → Tree
instance_head_parts kind class name = Pair (kind_tree kind) (Pair (Leaf class) (Pair Bare (name_tree name)))

abbrev pub instance_head_tree : InstanceHead → Tree
instance_head_tree x = instance_head_parts x.kind x.class x.name

abbrev pub instance_tree : Instance → Tree
instance_tree x = Pair (instance_head_parts x.kind x.class x.name) (Pair (optional_tree with_tree x.values)
    (Pair (optional_tree packages_tree x.packages) Bare))

abbrev pub instances_tree : InstancesSection → Tree
instances_tree x = Numbered x.document (Pair (Leaf x.word) (Pair (vector_tree instance_tree x.instances) Bare))

-- a section
abbrev pub section_tree : Section → Tree
section_tree (Rules x) = First (rules_tree x)
section_tree (Instances x) = Second (instances_tree x)

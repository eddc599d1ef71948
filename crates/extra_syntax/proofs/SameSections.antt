-- Sections that agree have one tree.
use Rattle.std.proofs.Common.{◌≡◌, refl, ap}
use Rattle.token_grammar.specs.Form.{Tree, Bare, Leaf, Pair, First, Second, Empty, Numbered}
use Rattle.token_grammar.specs.Parts.{list_tree, vector_tree}
use Rattle.token_grammar.specs.PartLaws.{OneTreeBy}
use Rattle.token_grammar.proofs.Values.{lists_alike, options_alike}
use Rattle.asn1_values_syntax.specs.Agreement.{ValuesAgree}
use Rattle.asn1_values_syntax.specs.ValueTrees.{value_tree}
use Rattle.asn1_values_syntax.proofs.OneTree.{values_alike}
use Rattle.extra_syntax.specs.declared.step.Reply.{Reply}
use Rattle.extra_syntax.specs.declared.step.Step.{Step}
use Rattle.extra_syntax.specs.declared.section.Section.{Section}
use Rattle.extra_syntax.specs.SectionTrees.{add_tree, assignment_tree, emit_tree, instance_tree, instances_tree}
use Rattle.extra_syntax.specs.SectionTrees.{kind_tree, packages_tree, reply_tree, rule_head_parts, rule_tree}
use Rattle.extra_syntax.specs.SectionTrees.{rules_tree, section_tree, set_tree, step_tree, with_tree}
use Rattle.extra_syntax.specs.Agreement.{AssignmentsAgree, EmitStepsAgree, InstanceSectionsAgree, InstancesAgree}
use Rattle.extra_syntax.specs.Agreement.{RepliesAgree, RuleSectionsAgree, RulesAgree, SectionsAgree, SetStepsAgree}
use Rattle.extra_syntax.specs.Agreement.{StepsAgree, VectorsAgree, VectorsEqual, two_adds, two_emits, two_instances}
use Rattle.extra_syntax.specs.Agreement.{two_labels, two_replies, two_rules, two_sets, two_values}

vectors_alike : {X : Type 0} (agree : X → X → Type 0) (view : X → Tree) → OneTreeBy agree view → OneTreeBy
    (VectorsAgree agree) (vector_tree view)
vectors_alike agree view same x y a = lists_alike agree view same x.items y.items Empty Empty refl a

-- steps
sets_alike : OneTreeBy SetStepsAgree set_tree
sets_alike x y a =
    let attribute = a.0 in
    let value = values_alike x.value y.value a.1 in
    λ i. Pair Bare (Pair (Leaf (attribute i)) (Pair Bare (value i)))

emits_alike : OneTreeBy EmitStepsAgree emit_tree
emits_alike x y a =
    let notification = a.0 in
    let value = options_alike ValuesAgree value_tree values_alike x.value y.value a.1 in
    λ i. Pair Bare (Pair (Leaf (notification i)) (value i))

replies_in_turn : {x y : Reply} → RepliesAgree x y → reply_tree x ≡ reply_tree y
replies_in_turn (two_values {x} {y} a) = ap First (values_alike x y a)
replies_in_turn (two_labels a) = λ i. Second (Leaf (a i))

steps_in_turn : {x y : Step} → StepsAgree x y → step_tree x ≡ step_tree y
steps_in_turn (two_sets {x} {y} a) = ap First (sets_alike x y a)
steps_in_turn (two_adds a) = λ i. Second (First (add_tree (a i)))
steps_in_turn (two_emits {x} {y} a) = ap (λ (t : Tree). Second (Second (First t))) (emits_alike x y a)
steps_in_turn (two_replies a) = ap (λ (t : Tree). Second (Second (Second (Pair Bare t)))) (replies_in_turn a)

pub steps_alike : OneTreeBy StepsAgree step_tree
steps_alike x y a = steps_in_turn a

-- rules
pub rules_alike : OneTreeBy RulesAgree rule_tree
rules_alike x y a =
    let class = a.0 in
    let action = a.1 in
    let steps = vectors_alike StepsAgree step_tree steps_alike x.steps y.steps a.2 in
    λ i. Pair (rule_head_parts (class i) (action i)) (Pair (steps i) Bare)

rule_sections_alike : OneTreeBy RuleSectionsAgree rules_tree
rule_sections_alike x y a =
    let number = a.0 in
    let word = a.1 in
    let rules = vectors_alike RulesAgree rule_tree rules_alike x.rules y.rules a.2 in
    λ i. Numbered (number i) (Pair (Leaf (word i)) (Pair (rules i) Bare))

-- instances
pub assignments_alike : OneTreeBy AssignmentsAgree assignment_tree
assignments_alike x y a =
    let attribute = a.0 in
    let value = values_alike x.value y.value a.1 in
    λ i. Pair (Leaf (attribute i)) (Pair Bare (value i))

values_of_same : OneTreeBy (VectorsAgree AssignmentsAgree) with_tree
values_of_same x y a = ap (Pair Bare) (vectors_alike AssignmentsAgree assignment_tree assignments_alike x y a)

packages_alike : OneTreeBy VectorsEqual packages_tree
packages_alike x y a = λ i. Pair Bare (list_tree Leaf Empty (a i))

pub instances_alike : OneTreeBy InstancesAgree instance_tree
instances_alike x y a =
    let kind = a.0 in
    let class = a.1 in
    let name = vectors_alike AssignmentsAgree assignment_tree assignments_alike x.name y.name a.2 in
    let values = options_alike (VectorsAgree AssignmentsAgree) with_tree values_of_same x.values y.values a.3 in
    let packages = options_alike VectorsEqual packages_tree packages_alike x.packages y.packages a.4 in
    λ i. Pair (Pair (kind_tree (kind i)) (Pair (Leaf (class i)) (Pair Bare (Pair Bare (Pair (name i) Bare)))))
    (Pair (values i) (Pair (packages i) Bare))

instance_sections_alike : OneTreeBy InstanceSectionsAgree instances_tree
instance_sections_alike x y a =
    let number = a.0 in
    let word = a.1 in
    let instances = vectors_alike InstancesAgree instance_tree instances_alike x.instances y.instances a.2 in
    λ i. Numbered (number i) (Pair (Leaf (word i)) (Pair (instances i) Bare))

sections_in_turn : {x y : Section} → SectionsAgree x y → section_tree x ≡ section_tree y
sections_in_turn (two_rules {x} {y} a) = ap First (rule_sections_alike x y a)
sections_in_turn (two_instances {x} {y} a) = ap Second (instance_sections_alike x y a)

pub sections_alike : OneTreeBy SectionsAgree section_tree
sections_alike x y a = sections_in_turn a

-- No two sections have one tree.
use Rattle.std.proofs.Common.{ap}
use Rattle.token_grammar.specs.Form.{Tree, Leaf}
use Rattle.token_grammar.specs.Parts.{vector_tree}
use Rattle.token_grammar.specs.PartLaws.{OneValue, OneValueBy}
use Rattle.token_grammar.proofs.Values.{first_not_second, first_same, leaf_same, lists_agree, numbered_same, one_list}
use Rattle.token_grammar.proofs.Values.{one_token, options_agree, pair_same, second_not_first, second_same}
use Rattle.asn1_values_syntax.specs.Agreement.{ValuesAgree}
use Rattle.asn1_values_syntax.specs.ValueTrees.{value_tree}
use Rattle.asn1_values_syntax.proofs.OneValue.{values_agree}
use Rattle.extra_syntax.specs.declared.step.Reply.TheVariants.{Value, Label}
use Rattle.extra_syntax.specs.declared.step.Step.TheVariants.{Set as SSet, Add, Emit, Reply as SReply}
use Rattle.extra_syntax.specs.declared.instance.InstanceKind.TheVariants.{Root, Object}
use Rattle.extra_syntax.specs.declared.section.Section.TheVariants.{Rules, Instances}
use Rattle.extra_syntax.specs.SectionTrees.{add_tree, assignment_tree, emit_tree, instance_tree, instances_tree}
use Rattle.extra_syntax.specs.SectionTrees.{kind_tree, packages_tree, reply_tree, rule_tree, rules_tree, section_tree}
use Rattle.extra_syntax.specs.SectionTrees.{set_tree, step_tree, with_tree}
use Rattle.extra_syntax.specs.Agreement.{AssignmentsAgree, EmitStepsAgree, InstanceSectionsAgree, InstancesAgree}
use Rattle.extra_syntax.specs.Agreement.{RepliesAgree, RuleSectionsAgree, RulesAgree, SectionsAgree, SetStepsAgree}
use Rattle.extra_syntax.specs.Agreement.{StepsAgree, VectorsAgree, VectorsEqual, two_adds, two_emits, two_instances}
use Rattle.extra_syntax.specs.Agreement.{two_labels, two_replies, two_rules, two_sets, two_values}

vectors_agree : {X : Type 0} (agree : X → X → Type 0) (view : X → Tree) → OneValueBy agree view → OneValueBy
    (VectorsAgree agree) (vector_tree view)
vectors_agree agree view once x y e = lists_agree agree view once x.items y.items e

-- steps
sets_agree : OneValueBy SetStepsAgree set_tree
sets_agree x y e =
    let parts = pair_same (pair_same e).1 in
    (leaf_same parts.0, values_agree x.value y.value (pair_same parts.1).1)

one_add : OneValue add_tree
one_add x y e =
    let parts = pair_same (pair_same e).1 in
    let number = leaf_same parts.0 in
    let attribute = leaf_same (pair_same parts.1).1 in
    λ i. record { number = number i; attribute = attribute i }

emits_agree : OneValueBy EmitStepsAgree emit_tree
emits_agree x y e =
    let parts = pair_same (pair_same e).1 in
    (leaf_same parts.0, options_agree ValuesAgree value_tree values_agree x.value y.value parts.1)

replies_agree : OneValueBy RepliesAgree reply_tree
replies_agree (Value x) (Value y) e = two_values (values_agree x y (first_same e))
replies_agree (Value x) (Label y) e = absurd (first_not_second e)
replies_agree (Label x) (Value y) e = absurd (second_not_first e)
replies_agree (Label x) (Label y) e = two_labels (leaf_same (second_same e))

pub steps_agree : OneValueBy StepsAgree step_tree
steps_agree (SSet x) (SSet y) e = two_sets (sets_agree x y (first_same e))
steps_agree (SSet x) (Add y) e = absurd (first_not_second e)
steps_agree (SSet x) (Emit y) e = absurd (first_not_second e)
steps_agree (SSet x) (SReply y) e = absurd (first_not_second e)
steps_agree (Add x) (SSet y) e = absurd (second_not_first e)
steps_agree (Add x) (Add y) e = two_adds (one_add x y (first_same (second_same e)))
steps_agree (Add x) (Emit y) e = absurd (first_not_second (second_same e))
steps_agree (Add x) (SReply y) e = absurd (first_not_second (second_same e))
steps_agree (Emit x) (SSet y) e = absurd (second_not_first e)
steps_agree (Emit x) (Add y) e = absurd (second_not_first (second_same e))
steps_agree (Emit x) (Emit y) e = two_emits (emits_agree x y (first_same (second_same (second_same e))))
steps_agree (Emit x) (SReply y) e = absurd (first_not_second (second_same (second_same e)))
steps_agree (SReply x) (SSet y) e = absurd (second_not_first e)
steps_agree (SReply x) (Add y) e = absurd (second_not_first (second_same e))
steps_agree (SReply x) (Emit y) e = absurd (second_not_first (second_same (second_same e)))
steps_agree (SReply x) (SReply y) e = two_replies (replies_agree x y (pair_same (second_same (second_same
    (second_same e)))).1)

-- rules
pub rules_agree : OneValueBy RulesAgree rule_tree
rules_agree x y e =
    let parts = pair_same e in
    let head = pair_same (pair_same parts.0).1 in (
      leaf_same head.0,
      leaf_same (pair_same (pair_same head.1).1).0,
      vectors_agree StepsAgree step_tree steps_agree x.steps y.steps (pair_same parts.1).0,
    )

rule_sections_agree : OneValueBy RuleSectionsAgree rules_tree
rule_sections_agree x y e =
    let number = numbered_same e in
    let parts = pair_same number.1 in (
      number.0,
      leaf_same parts.0,
      vectors_agree RulesAgree rule_tree rules_agree x.rules y.rules (pair_same parts.1).0,
    )

-- instances
pub assignments_agree : OneValueBy AssignmentsAgree assignment_tree
assignments_agree x y e =
    let parts = pair_same e in
    (leaf_same parts.0, values_agree x.value y.value (pair_same parts.1).1)

one_kind : OneValue kind_tree
one_kind (Root x) (Root y) e = ap Root (leaf_same (first_same e))
one_kind (Root x) (Object y) e = absurd (first_not_second e)
one_kind (Object x) (Root y) e = absurd (second_not_first e)
one_kind (Object x) (Object y) e = ap Object (leaf_same (second_same e))

values_of_one : OneValueBy (VectorsAgree AssignmentsAgree) with_tree
values_of_one x y e = vectors_agree AssignmentsAgree assignment_tree assignments_agree x y (pair_same e).1

one_packages : OneValueBy VectorsEqual packages_tree
one_packages x y e = one_list Leaf one_token x.items y.items (pair_same e).1

pub instances_agree : OneValueBy InstancesAgree instance_tree
instances_agree x y e =
    let parts = pair_same e in
    let head = pair_same parts.0 in
    let class = pair_same head.1 in
    let name = pair_same (pair_same (pair_same class.1).1).1 in
    let behind = pair_same parts.1 in (
      one_kind x.kind y.kind head.0,
      leaf_same class.0,
      vectors_agree AssignmentsAgree assignment_tree assignments_agree x.name y.name name.0,
      options_agree (VectorsAgree AssignmentsAgree) with_tree values_of_one x.values y.values behind.0,
      options_agree VectorsEqual packages_tree one_packages x.packages y.packages (pair_same behind.1).0,
    )

instance_sections_agree : OneValueBy InstanceSectionsAgree instances_tree
instance_sections_agree x y e =
    let number = numbered_same e in
    let parts = pair_same number.1 in (
      number.0,
      leaf_same parts.0,
      vectors_agree InstancesAgree instance_tree instances_agree x.instances y.instances (pair_same parts.1).0,
    )

pub sections_agree : OneValueBy SectionsAgree section_tree
sections_agree (Rules x) (Rules y) e = two_rules (rule_sections_agree x y (first_same e))
sections_agree (Rules x) (Instances y) e = absurd (first_not_second e)
sections_agree (Instances x) (Rules y) e = absurd (second_not_first e)
sections_agree (Instances x) (Instances y) e = two_instances (instance_sections_agree x y (second_same e))

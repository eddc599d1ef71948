-- The record of the value, where there is one.
use Rattle.std.proofs.Math.Path.{subst}
use Rattle.asn1_values_syntax.specs.ValueTrees.{value_tree}
use Rattle.linked_parts.specs.declared.linked.LinkedStep.TheVariants as linked_steps
use Rattle.filled_syntaxes.specs.LinkedMeanings.{linked_arcs}
use Rattle.filled_syntaxes.specs.SaidTexts.{TellsValue}
use Rattle.section_values.proofs.StepLaws.{set_none, set_told, step_noted}
use Rattle.section_values.proofs.rules.set_value.Goals as goal

pub returns-in_ok-step-in-Some-clause-told : goal.returns-in_ok-step-in-Some-clause-told
returns-in_ok-step-in-Some-clause-told c = λ ms rule known.
    let linked = c.args.parts.now.linked.now in
    set_told ms linked rule c.args.attribute c.args.text.now c.in-Some.value c.in_ok-step-in-Some.step
    (λ syntax has. subst (TellsValue (linked_arcs linked) syntax (value_tree c.args.text.now)) c.in-Some.is
    (c.in_ok-value.ensures.told ms syntax known has)) c.in_ok-step-in-Some.ensures

pub returns-in_ok-step-in-Some-clause-noted : goal.returns-in_ok-step-in-Some-clause-noted
returns-in_ok-step-in-Some-clause-noted c = λ ms rule known is.
    step_noted ms c.args.parts.now.linked.now rule (linked_steps.SetValue c.args.attribute c.args.text.now)
    c.args.document is (c.in_ok-value.ensures.noted ms known)

pub returns-in-None-clause-told : goal.returns-in-None-clause-told
returns-in-None-clause-told c = λ ms rule known.
    let linked = c.args.parts.now.linked.now in
    set_none ms linked rule c.args.attribute c.args.text.now
    (λ syntax has. subst (TellsValue (linked_arcs linked) syntax (value_tree c.args.text.now)) c.in-None.is
    (c.in_ok-value.ensures.told ms syntax known has))

pub returns-in-None-clause-noted : goal.returns-in-None-clause-noted
returns-in-None-clause-noted c = λ ms rule known is.
    step_noted ms c.args.parts.now.linked.now rule (linked_steps.SetValue c.args.attribute c.args.text.now)
    c.args.document is (c.in_ok-value.ensures.noted ms known)

-- The record of the value, where there is one.
use Rattle.std.proofs.Common.{None, Some, refl}
use Rattle.std.proofs.Math.Path.{subst}
use Rattle.asn1_values_syntax.specs.ValueTrees.{value_tree}
use Rattle.linked_parts.specs.declared.linked.LinkedStep.TheVariants as linked_steps
use Rattle.filled_syntaxes.specs.LinkedMeanings.{linked_arcs}
use Rattle.filled_syntaxes.specs.SaidTexts.{TellsValue}
use Rattle.section_values.proofs.StepLaws.{reply_told, step_noted}
use Rattle.section_values.proofs.rules.reply_with.Goals as goal

pub returns-in-Some-clause-told : goal.returns-in-Some-clause-told
returns-in-Some-clause-told c = λ ms known.
    let linked = c.args.parts.now.linked.now in
    reply_told ms linked c.args.rule.now c.args.text.now (Some c.in-Some.value)
    (λ part name syntax at named has. subst (TellsValue (linked_arcs linked) syntax (value_tree c.args.text.now))
    c.in-Some.is (c.in_ok-value.ensures.told ms part name syntax known at named has))

pub returns-in-Some-clause-noted : goal.returns-in-Some-clause-noted
returns-in-Some-clause-noted c = λ ms known.
    step_noted ms c.args.parts.now.linked.now c.args.rule.now (linked_steps.ReplyValue c.args.text.now)
    c.args.rule.now.document refl (c.in_ok-value.ensures.noted ms known)

pub returns-in-None-clause-told : goal.returns-in-None-clause-told
returns-in-None-clause-told c = λ ms known.
    let linked = c.args.parts.now.linked.now in
    reply_told ms linked c.args.rule.now c.args.text.now None
    (λ part name syntax at named has. subst (TellsValue (linked_arcs linked) syntax (value_tree c.args.text.now))
    c.in-None.is (c.in_ok-value.ensures.told ms part name syntax known at named has))

pub returns-in-None-clause-noted : goal.returns-in-None-clause-noted
returns-in-None-clause-noted c = λ ms known.
    step_noted ms c.args.parts.now.linked.now c.args.rule.now (linked_steps.ReplyValue c.args.text.now)
    c.args.rule.now.document refl (c.in_ok-value.ensures.noted ms known)

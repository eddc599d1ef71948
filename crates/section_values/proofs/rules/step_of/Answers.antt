-- A step of each form.
use Rattle.std.proofs.Common.{Some, sym}
use Rattle.std.proofs.Math.Path.{subst}
use Rattle.term_model.specs.declared.rule.RuleStep.TheVariants as steps
use Rattle.linked_parts.specs.declared.linked.LinkedStep.TheVariants as linked_steps
use Rattle.section_values.specs.SectionRecords.IsStep.{add, reply_argument, reply_attribute, set_argument}
use Rattle.section_values.specs.ToldSections.{TellsStep}
use Rattle.section_values.proofs.StepLaws.{id_told}
use Rattle.section_values.proofs.rules.step_of.Goals as goal

pub returns-in_ok-told-in-SetArgument-clause-told : goal.returns-in_ok-told-in-SetArgument-clause-told
returns-in_ok-told-in-SetArgument-clause-told c = λ ms known.
    let linked = c.args.parts.now.linked.now in
    let told = c.in_ok-told-in-SetArgument.told in
    subst (λ s. TellsStep ms linked c.args.rule.now s told) (sym c.in-SetArgument.is)
    (λ good. id_told (linked_steps.SetArgument c.in-SetArgument.attribute) c.in-SetArgument.attribute
    (λ id. steps.SetArgument id) told good.registered
    c.in_ok-told-in-SetArgument.ensures (λ id is. set_argument is))

pub returns-in_ok-told-in-SetValue-clause-told : goal.returns-in_ok-told-in-SetValue-clause-told
returns-in_ok-told-in-SetValue-clause-told c = λ ms known.
    let linked = c.args.parts.now.linked.now in
    subst (λ s. TellsStep ms linked c.args.rule.now s c.in_ok-told-in-SetValue.told) (sym c.in-SetValue.is)
    (c.in_ok-told-in-SetValue.ensures.told ms c.args.rule.now known)

pub returns-in_ok-told-in-Add-clause-told : goal.returns-in_ok-told-in-Add-clause-told
returns-in_ok-told-in-Add-clause-told c = λ ms known.
    let linked = c.args.parts.now.linked.now in
    let told = c.in_ok-told-in-Add.told in
    subst (λ s. TellsStep ms linked c.args.rule.now s told) (sym c.in-Add.is)
    (λ good. id_told (linked_steps.Add c.in-Add.number c.in-Add.attribute) c.in-Add.attribute
    (λ id. steps.Add c.in-Add.number id) told good.registered
    c.in_ok-told-in-Add.ensures (λ id is. add is))

pub returns-in_ok-told-in-Emit-clause-told : goal.returns-in_ok-told-in-Emit-clause-told
returns-in_ok-told-in-Emit-clause-told c = λ ms known.
    let linked = c.args.parts.now.linked.now in
    subst (λ s. TellsStep ms linked c.args.rule.now s c.in_ok-told-in-Emit.told) (sym c.in-Emit.is)
    (c.in_ok-told-in-Emit.ensures.told ms c.args.rule.now known)

pub returns-in-ReplyArgument-clause-told : goal.returns-in-ReplyArgument-clause-told
returns-in-ReplyArgument-clause-told c = λ ms known.
    subst (λ s. TellsStep ms c.args.parts.now.linked.now c.args.rule.now s (Some steps.ReplyArgument))
    (sym c.in-ReplyArgument.is) (λ good. reply_argument)

pub returns-in_ok-told-in-ReplyAttribute-clause-told : goal.returns-in_ok-told-in-ReplyAttribute-clause-told
returns-in_ok-told-in-ReplyAttribute-clause-told c = λ ms known.
    let linked = c.args.parts.now.linked.now in
    let told = c.in_ok-told-in-ReplyAttribute.told in
    subst (λ s. TellsStep ms linked c.args.rule.now s told) (sym c.in-ReplyAttribute.is)
    (λ good. id_told (linked_steps.ReplyAttribute c.in-ReplyAttribute.attribute) c.in-ReplyAttribute.attribute
    (λ id. steps.ReplyAttribute id) told good.registered
    c.in_ok-told-in-ReplyAttribute.ensures (λ id is. reply_attribute is))

-- With a value, and without.
use Rattle.std.proofs.Common.{sym}
use Rattle.std.proofs.Math.Path.{subst}
use Rattle.linked_parts.specs.declared.linked.LinkedStep.TheVariants as linked_steps
use Rattle.section_values.specs.ToldSections.{TellsStep}
use Rattle.section_values.proofs.StepLaws.{emit_alone}
use Rattle.section_values.proofs.rules.emit.Goals as goal

pub returns-in_ok-step-in-Some-clause-told : goal.returns-in_ok-step-in-Some-clause-told
returns-in_ok-step-in-Some-clause-told c = λ ms rule known.
    let linked = c.args.parts.now.linked.now in
    subst (λ o. TellsStep ms linked rule (linked_steps.Emit c.args.notification o) c.in_ok-step-in-Some.step)
    (sym c.in-Some.is) (c.in_ok-step-in-Some.ensures.told ms rule known)

pub returns-in_ok-step-in-None-clause-told : goal.returns-in_ok-step-in-None-clause-told
returns-in_ok-step-in-None-clause-told c = λ ms rule known.
    let linked = c.args.parts.now.linked.now in
    subst (λ o. TellsStep ms linked rule (linked_steps.Emit c.args.notification o) c.in_ok-step-in-None.step)
    (sym c.in-None.is)
    (emit_alone ms linked rule c.args.notification c.in_ok-step-in-None.step c.in_ok-step-in-None.ensures)

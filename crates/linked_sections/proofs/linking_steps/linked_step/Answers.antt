-- SET, ADD, EMIT, REPLY.
use Rattle.std.proofs.Common.{sym}
use Rattle.std.proofs.Math.Path.{subst}
use Rattle.gdmo_names.specs.PartTerms.StepTerm.{AddTo}
use Rattle.gdmo_names.specs.PartViews.{step_term}
use Rattle.linked_parts.specs.declared.linked.LinkedStep.TheVariants.{Add}
use Rattle.linked_sections.specs.KnownSections.{IsCompleteStep}
use Rattle.linked_sections.specs.LinkedSections.{IsStep}
use Rattle.linked_sections.specs.LinkedSections.IsStep.{add}
use Rattle.linked_sections.specs.SectionTexts.{LinksStep}
use Rattle.linked_sections.proofs.linking_steps.linked_step.Goals as goal

pub returns-in_ok-linked_set-in-Set : goal.returns-in_ok-linked_set-in-Set
returns-in_ok-linked_set-in-Set c = λ parts rule is complete links.
    subst (λ s. IsStep parts rule (step_term s) c.in_ok-linked_set-in-Set.field-0) (sym c.in-Set.is)
    (c.in_ok-linked_set-in-Set.ensures parts rule
    (subst (λ s. LinksStep parts rule (step_term s) c.args.place) c.in-Set.is links))

pub returns-in-Add : goal.returns-in-Add
returns-in-Add c = λ parts rule is complete links.
    let known = subst (λ s. IsCompleteStep parts rule (step_term s)) c.in-Add.is complete in
    let own = c.in-Add.add in
    subst (λ s. IsStep parts rule (step_term s) (Add c.added_number.result c.args.place)) (sym c.in-Add.is)
    (subst (λ n. IsStep parts rule (AddTo own.number own.attribute) (Add n c.args.place))
    (sym (c.added_number.ensures known.1 known.2))
    (add (subst (λ s. LinksStep parts rule (step_term s) c.args.place) c.in-Add.is links)))

pub returns-in_ok-linked_emit-in-Emit : goal.returns-in_ok-linked_emit-in-Emit
returns-in_ok-linked_emit-in-Emit c = λ parts rule is complete links.
    subst (λ s. IsStep parts rule (step_term s) c.in_ok-linked_emit-in-Emit.field-0) (sym c.in-Emit.is)
    (c.in_ok-linked_emit-in-Emit.ensures parts rule
    (subst (λ s. LinksStep parts rule (step_term s) c.args.place) c.in-Emit.is links))

pub returns-in_ok-linked_reply-in-Reply : goal.returns-in_ok-linked_reply-in-Reply
returns-in_ok-linked_reply-in-Reply c = λ parts rule is complete links.
    subst (λ s. IsStep parts rule (step_term s) c.in_ok-linked_reply-in-Reply.field-0) (sym c.in-Reply.is)
    (c.in_ok-linked_reply-in-Reply.ensures parts rule is
    (subst (λ s. IsCompleteStep parts rule (step_term s)) c.in-Reply.is complete))

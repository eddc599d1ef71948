-- ARGUMENT, another word alone, or another value.
use Rattle.std.proofs.Common.{ap, sym, ◌∙◌}
use Rattle.std.proofs.Math.Path.{subst}
use Rattle.gdmo_names.specs.PartTerms.StepTerm.{ReplyWith}
use Rattle.gdmo_rules.specs.TakenViews.{taken_view}
use Rattle.linked_parts.specs.declared.linked.LinkedStep.TheVariants.{ReplyArgument, ReplyValue}
use Rattle.linked_sections.specs.KnownSections.{IsCompleteStep}
use Rattle.linked_sections.specs.LinkedSections.{IsStep}
use Rattle.linked_sections.specs.LinkedSections.IsStep.{reply_argument, reply_value}
use Rattle.linked_sections.proofs.TakenLaws.{other_reply}
use Rattle.linked_sections.proofs.linking_steps.linked_reply.Goals as goal

pub returns-in-Argument : goal.returns-in-Argument
returns-in-Argument c = λ parts rule is complete.
    subst (λ t. IsStep parts rule (ReplyWith t) ReplyArgument)
    (sym (sym c.taken_reply.ensures ∙ ap taken_view c.in-Argument.is)) reply_argument

pub returns-in_ok-step-in-Word : goal.returns-in_ok-step-in-Word
returns-in_ok-step-in-Word c = λ parts rule is complete.
    let taken = sym c.taken_reply.ensures ∙ ap taken_view c.in-Word.is in
    subst (λ t. IsStep parts rule (ReplyWith t) c.in_ok-step-in-Word.step) (sym taken)
    (c.in_ok-step-in-Word.ensures parts rule is (subst (λ t. IsCompleteStep parts rule (ReplyWith t)) taken complete))

pub returns-in_ok-value-in-Value : goal.returns-in_ok-value-in-Value
returns-in_ok-value-in-Value c = λ parts rule is complete.
    let taken = sym c.taken_reply.ensures ∙ ap taken_view c.in-Value.is in
    subst (λ t. IsStep parts rule (ReplyWith t) (ReplyValue c.in_ok-value-in-Value.value)) (sym taken)
    (reply_value (other_reply c.args.reply.now _ c.in_ok-value-in-Value.value taken
    c.in_ok-value-in-Value.ensures.tree))

-- ARGUMENT, a word alone, and any other value.
use Rattle.std.proofs.Common.{sym}
use Rattle.std.proofs.Math.Path.{subst}
use Rattle.gdmo_names.specs.FaultSets.{Notes}
use Rattle.gdmo_rules.specs.StepFaults.{ReplyFaults}
use Rattle.gdmo_rules.specs.TakenViews.{taken_view}
use Rattle.gdmo_rules.proofs.step_types.judge_reply.Goals as goal

pub returns-in-Argument-clause-noted : goal.returns-in-Argument-clause-noted
returns-in-Argument-clause-noted c = λ parts rule is are known.
    subst (λ t. Notes (ReplyFaults parts rule (taken_view t)) c.args.faults.now.first
    c.judge_argument.new.faults.first) (sym c.in-Argument.is)
    (c.judge_argument.ensures parts c.args.numbers.now.lists rule are.once known)

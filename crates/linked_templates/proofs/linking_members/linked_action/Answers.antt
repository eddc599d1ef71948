-- The types of the information and of the reply.
use Rattle.std.proofs.Common.{rules}
use Rattle.gdmo_names.specs.FoundViews.{body_term}
use Rattle.linked_templates.proofs.MemberLaws.{action_linked}
use Rattle.linked_templates.proofs.linking_members.linked_action.Goals as goal

pub returns-clause-is : goal.returns-clause-is
returns-clause-is c = λ parts is asked told body.
    action_linked parts c.args.found.now.document (body_term c.args.found.now.body) c.args.action.now _ body
    (search rules) (c.in_ok-information.ensures parts is asked) (c.in_ok-reply.ensures parts is told)

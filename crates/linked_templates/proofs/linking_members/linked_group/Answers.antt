-- The attributes of the group.
use Rattle.std.proofs.Common.{rules}
use Rattle.gdmo_names.specs.FoundViews.{body_term}
use Rattle.linked_templates.proofs.MemberLaws.{group_linked}
use Rattle.linked_templates.proofs.linking_members.linked_group.Goals as goal

pub returns-clause-is : goal.returns-clause-is
returns-clause-is c = λ parts is body.
    group_linked parts c.args.found.now.document (body_term c.args.found.now.body) c.args.group.now _ body
    (c.in_ok-elements.ensures parts is) (search rules)

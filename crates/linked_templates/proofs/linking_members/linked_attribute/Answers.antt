-- The syntax, and the words of MATCHES FOR.
use Rattle.gdmo_names.specs.FoundViews.{body_term}
use Rattle.linked_templates.proofs.MemberLaws.{attribute_linked}
use Rattle.linked_templates.proofs.linking_members.linked_attribute.Goals as goal

pub returns-clause-is : goal.returns-clause-is
returns-clause-is c = λ parts is body.
    attribute_linked parts c.args.found.now.document (body_term c.args.found.now.body) c.args.attribute.now _ body
    (c.in_ok-syntax.ensures parts is body) c.in_ok-rules.ensures

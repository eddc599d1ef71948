-- The attributes, the groups, the actions and the notifications.
use Rattle.gdmo_names.specs.FoundViews.{body_term}
use Rattle.linked_packages.proofs.PackageTextLaws.{package_linked}
use Rattle.linked_packages.proofs.linking_packages.linked_package.Goals as goal

pub returns-clause-is : goal.returns-clause-is
returns-clause-is c = λ parts is body.
    package_linked parts c.args.found.now.document (body_term c.args.found.now.body) c.args.text.now _ body
    (c.in_ok-attributes.ensures parts is body) (c.in_ok-groups.ensures parts is body)
    (c.in_ok-actions.ensures parts is) (c.in_ok-notifications.ensures parts is)

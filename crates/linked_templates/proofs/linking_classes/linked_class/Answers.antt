-- What is named in each role.
use Rattle.gdmo_names.specs.ClassViews.{conditional_reference, class_reference}
use Rattle.gdmo_names.specs.FoundViews.{body_term}
use Rattle.gdmo_names.specs.MemberViews.{clause_terms}
use Rattle.gdmo_names.specs.ClassViews.{package_reference}
use Rattle.linked_templates.proofs.BodyLaws.{class_linked}
use Rattle.linked_templates.proofs.linking_classes.linked_class.Goals as goal

pub returns-clause-is : goal.returns-clause-is
returns-clause-is c = λ parts text is body.
    class_linked parts c.args.found.now.document (body_term c.args.found.now.body)
    (clause_terms class_reference text.superclasses) (clause_terms package_reference text.packages)
    (clause_terms conditional_reference text.conditional) _ body (c.in_ok-superclasses.ensures parts is)
    (c.in_ok-mandatory.ensures parts is) (c.in_ok-conditional.ensures parts is)

-- The plan's changes make the objects of the outcome.
use Rattle.std.proofs.Common.{rules, ◌≡◌, ◌∙◌, is_some, subst, sym, true}
use Rattle.operation_model.specs.OperationConditions.{AreSmall}
use Rattle.operation_model.specs.WholeOperation.{outcome}
use Rattle.op_install.proofs.OutcomeLaws.{objects_told, small_told}
use Rattle.op_install.proofs.performing.perform_request.Goals as goal

pub returns-clause-objects : goal.returns-clause-objects
returns-clause-objects g c =
    let schema = c.args.schema.now in
    let objects = c.args.mib.now in
    let request = c.args.request.now in
    let some : is_some (outcome schema objects request c.args.moment) ≡ true =
    search (rules, c.has_outcome.ensures schema objects c.args.moment) in
    c.in_ok-install.ensures.installed
    ∙ objects_told schema objects request c.args.moment c.in_ok-plan.plan.changes c.in_ok-install.ensures.rising some
    c.in_ok-plan.ensures.changes

pub returns-clause-small : goal.returns-clause-small
returns-clause-small g c =
    let schema = c.args.schema.now in
    let objects = c.args.mib.now in
    let request = c.args.request.now in
    let some : is_some (outcome schema objects request c.args.moment) ≡ true =
    search (rules, c.has_outcome.ensures schema objects c.args.moment) in
    subst (AreSmall schema)
    (sym (c.in_ok-install.ensures.installed
    ∙ objects_told schema objects request c.args.moment c.in_ok-plan.plan.changes c.in_ok-install.ensures.rising some
    c.in_ok-plan.ensures.changes))
    (small_told schema objects request c.args.moment c.requires.small)

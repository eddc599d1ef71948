-- One more module from which is imported.
use Rattle.std.proofs.Common.{◌<◌, ◌≡◌, get_or, length, rules, subst}
use Rattle.gdmo_names.specs.PartViews.{identifier_list}
use Rattle.gdmo_identifiers.specs.IdentifierFaults.{StatedFaults}
use Rattle.gdmo_identifiers.proofs.TemplateLaws.{flat_noted}
use Rattle.gdmo_identifiers.proofs.module_identifiers.judge_imports.Goals as goal

pub loop-other-preserved : goal.loop-other-preserved
loop-other-preserved c = λ parts are.
    let others = c.args.imports.now.others.items in
    let same : c.deref-other-items.result.now ≡ others = search rules in
    flat_noted (StatedFaults parts c.args.document) (λ y. identifier_list y.identifier)
    (identifier_list c.args.imports.now.first.identifier) others c.loop-other.other-index c.other-item.result
    (subst (λ xs. c.loop-other.other-index < length xs) same c.loop-other-test.true)
    (subst (λ xs. c.other-item.result ≡ get_or xs c.loop-other.other-index c.other-item.result) same c.other-item.is)
    (c.loop-other.invariant parts are) (c.judge_module_identifier-in-loop-other.ensures parts are)

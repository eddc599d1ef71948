-- One more template, and all of them.
use Rattle.std.proofs.Common.{arith, subst}
use Rattle.gdmo_names.specs.FoundViews.{found_view}
use Rattle.gdmo_names.specs.InStep.{AreEach}
use Rattle.gdmo_identifiers.specs.IdentifierTables.{TellsRegistered}
use Rattle.gdmo_identifiers.proofs.TemplateLaws.{arcs_begun, arcs_more, each_end}
use Rattle.gdmo_identifiers.proofs.identifiers.all_arcs.Goals as goal

pub loop-found-init : goal.loop-found-init
loop-found-init c = arcs_begun c.args.known.now c.args.templates.now c.new-lists.result.items c.new-lists.ensures.items

pub loop-found-preserved : goal.loop-found-preserved
loop-found-preserved c =
    arcs_more c.args.known.now c.loop-found.known c.registered_arcs.new.known c.args.templates.now
    c.loop-found.found-index c.found-item.result c.loop-found.lists.items c.push.new.self.items
    c.in_ok-registered_arcs.field-0 c.loop-found-test.true c.found-item.is c.in_ok-push.ensures.items
    c.loop-found.invariant c.registered_arcs.ensures.grows c.registered_arcs.ensures.keeps
    c.in_ok-registered_arcs.ensures.is

pub returns-clause-is : goal.returns-clause-is
returns-clause-is c = λ parts are whole all.
    subst (λ xs. AreEach (TellsRegistered parts c.loop-found.known.numbers.lists) xs c.loop-found.lists.items) all
    (each_end (TellsRegistered parts c.loop-found.known.numbers.lists) found_view c.args.templates.now
    c.loop-found.found-index c.loop-found.lists.items (omega (arith, c.loop-found-test.false))
    (c.loop-found.invariant.told parts are whole all))

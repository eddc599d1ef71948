-- One more template, and all of them.
use Rattle.std.proofs.Common.{◌<◌, ◌≤◌, [], arith, length, subst, sym}
use Rattle.std.specs.List.{slice_get}
use Rattle.std.specs.Option.{option_and_then}
use Rattle.gdmo_names.specs.FoundViews.{found_view}
use Rattle.gdmo_names.specs.InStep.{AreEach}
use Rattle.gdmo_identifiers.specs.IdentifierTables.{IsRegistration, TellsOids, TellsRegistered}
use Rattle.gdmo_identifiers.proofs.TemplateLaws.{each_end, each_more, each_told}
use Rattle.gdmo_identifiers.proofs.identifiers.registrations.Goals as goal

pub loop-number-init : goal.loop-number-init
loop-number-init c = λ parts row all listed told.
    subst (AreEach (IsRegistration parts row) []) (sym c.new-registered.ensures.items) tt

pub loop-number-preserved : goal.loop-number-preserved
loop-number-preserved c = λ parts row all listed told.
    let xs = c.args.templates.now in
    let i = c.loop-number.number in
    let x = c.index-templates-number.result in
    let at = c.index-templates-number.is in
    let within : i < length xs = omega (arith, c.loop-number-test.true) in
    each_more (IsRegistration parts row) found_view xs i x c.loop-number.registered.items c.push.new.self.items
    c.registration.result within at c.in_ok-push.ensures.items (c.loop-number.invariant parts row all listed told)
    (c.registration.ensures parts row (option_and_then (λ z. z) (slice_get c.args.identifiers.now i))
    (subst (TellsRegistered parts row (found_view x)) (sym c.told_at-list.ensures)
    (each_told (TellsRegistered parts row) found_view xs c.args.lists.now i x
    (subst (λ ys. AreEach (TellsRegistered parts row) ys c.args.lists.now) (sym all) listed) within at))
    (each_told (TellsOids parts) found_view xs c.args.identifiers.now i x
    (subst (λ ys. AreEach (TellsOids parts) ys c.args.identifiers.now) (sym all) told) within at)
    c.has_oid.ensures)

pub returns : goal.returns
returns c = λ parts row all listed told.
    let xs = c.args.templates.now in
    let past : length xs ≤ c.loop-number.number = omega (arith, c.loop-number-test.false) in
    subst (λ ys. AreEach (IsRegistration parts row) ys c.loop-number.registered.items) all
    (each_end (IsRegistration parts row) found_view xs c.loop-number.number c.loop-number.registered.items past
    (c.loop-number.invariant parts row all listed told))

-- One more template, and all of them.
use Rattle.std.proofs.Common.{◌<◌, ◌≤◌, arith, length, subst, sym}
use Rattle.gdmo_names.specs.FaultSets.{AnyOf, Notes}
use Rattle.gdmo_names.specs.FoundViews.{found_view}
use Rattle.gdmo_names.specs.InStep.{AreEach}
use Rattle.gdmo_names.proofs.InStepLaws.{noted_none, noted_one_more, noted_whole}
use Rattle.gdmo_identifiers.specs.IdentifierFaults.{FaultsOfRegistered}
use Rattle.gdmo_identifiers.specs.IdentifierTables.{TellsOids, TellsRegistered}
use Rattle.gdmo_identifiers.proofs.TemplateLaws.{each_told}
use Rattle.gdmo_identifiers.proofs.identifiers.judge_all.Goals as goal

pub loop-number-init : goal.loop-number-init
loop-number-init c = λ parts all are told.
    noted_none (TellsOids parts) (FaultsOfRegistered parts) c.new-identifiers.result.items c.args.faults.now.first

pub loop-number-preserved : goal.loop-number-preserved
loop-number-preserved c = λ parts all are told.
    let xs = c.args.templates.now in
    let i = c.loop-number.number in
    let x = c.index-templates-number.result in
    let within : i < length xs = omega (arith, c.loop-number-test.true) in
    noted_one_more (TellsOids parts) (FaultsOfRegistered parts) found_view xs i x _ c.loop-number.identifiers.items
    c.push.new.self.items c.in_ok-judge_template.field-0 within c.index-templates-number.is c.in_ok-push.ensures.items
    (c.loop-number.invariant parts all are told)
    (c.in_ok-judge_template.ensures parts are
    (subst (TellsRegistered parts c.args.lists.now (found_view x)) (sym c.told_at-list.ensures)
    (each_told (TellsRegistered parts c.args.lists.now) found_view xs c.args.told.now i x
    (subst (λ ys. AreEach (TellsRegistered parts c.args.lists.now) ys c.args.told.now) (sym all) told) within
    c.index-templates-number.is)))

pub returns : goal.returns
returns c = λ parts all are told.
    let xs = c.args.templates.now in
    let past : length xs ≤ c.loop-number.number = omega (arith, c.loop-number-test.false) in
    let r = noted_whole (TellsOids parts) (FaultsOfRegistered parts) found_view xs c.loop-number.number _
    c.loop-number.identifiers.items c.new-identifiers.ensures.items past
    (c.loop-number.invariant parts all are told) in (
      subst (λ ys. AreEach (TellsOids parts) ys c.loop-number.identifiers.items) all r.0,
      subst (λ ys. Notes (AnyOf (FaultsOfRegistered parts) ys) c.args.faults.now.first c.loop-number.faults.first) all
          r.1,
    )

-- A module more, and all of them.
use Rattle.std.proofs.Common.{◌<◌, ◌≤◌, arith, length}
use Rattle.std.proofs.lemmas.List.{length-map}
use Rattle.asn1_names.specs.TermViews.{module_term, module_terms}
use Rattle.asn1_numbers.proofs.HeldLaws.{get_map}
use Rattle.gdmo_names.specs.DoubleNames.{IsModuleAgain}
use Rattle.gdmo_names.specs.FaultSets.{OneFault}
use Rattle.gdmo_names.specs.FirstLabelFault.LabelFault.{LabelDouble}
use Rattle.gdmo_names.proofs.NotingLaws.{both_noted}
use Rattle.gdmo_types.specs.ModuleNames.{AssignedTwice, ModuleAgain}
use Rattle.gdmo_types.proofs.ModuleNameLaws.{IsStandardName, module_called, module_noted, modules_named, names_step}
use Rattle.gdmo_types.proofs.PlaceFaultLaws.{before_all, before_step}
use Rattle.gdmo_types.proofs.StepLaws.{got_at}
use Rattle.gdmo_types.proofs.module_names.module_names.Goals as goal

pub loop-module-preserved : goal.loop-module-preserved
loop-module-preserved c =
    let ms = module_terms c.args.modules.now in
    let k = c.loop-module.module-index in
    let item = c.module-item.result in
    let x = module_term item in
    let within : k < length c.args.modules.now = omega (arith, c.loop-module-test.true) in
    let at = get_map module_term c.args.modules.now k item
    (got_at c.args.modules.now k item within c.module-item.is) in (
      names_step IsStandardName module_called ms k x c.loop-module.names c.note_name.new.names at
          c.loop-module.invariant.0 c.in_ok-note_name.ensures.names,
      before_step (ModuleAgain ms) ms k x at c.loop-module.invariant.1
          (both_noted (OneFault (IsModuleAgain ms k x.name) LabelDouble x.document x.name.at) (AssignedTwice x)
          (module_noted ms k x c.loop-module.names c.loop-module.faults.first c.note_name.new.faults.first
          c.loop-module.invariant.0 c.in_ok-note_name.ensures.faults) c.in_ok-note_assigned_twice.ensures),
    )

pub returns-clause-names : goal.returns-clause-names
returns-clause-names c =
    let same = length-map c.args.modules.now module_term in
    let past : length (module_terms c.args.modules.now) ≤ c.loop-module.module-index =
    omega (arith, same, c.loop-module-test.false) in
    modules_named (module_terms c.args.modules.now) c.loop-module.module-index c.loop-module.names past
    c.loop-module.invariant.0

pub returns-clause-faults : goal.returns-clause-faults
returns-clause-faults c =
    let same = length-map c.args.modules.now module_term in
    let past : length (module_terms c.args.modules.now) ≤ c.loop-module.module-index =
    omega (arith, same, c.loop-module-test.false) in
    before_all (ModuleAgain (module_terms c.args.modules.now)) (module_terms c.args.modules.now)
    c.loop-module.module-index past c.loop-module.invariant.1

-- The rest has the same first one.
use Rattle.std.proofs.Common.{◌≡◌, drop}
use Rattle.std.specs.Prelude.{find}
use Rattle.term_model.specs.Opening.{is_labelled_packages}
use Rattle.mib_opening.proofs.instance_asking.packages_template.Given as goal

abbrev pub invariant-loop-template : goal.invariant-loop-template
invariant-loop-template l =
    find is_labelled_packages (drop l.template-index l.records) ≡ find is_labelled_packages l.records

-- What the classes so far added.
use Rattle.std.proofs.Common.{take}
use Rattle.std.specs.Prelude.{flat_map}
use Rattle.term_model.specs.declared.packages.PackageRec.{PackageRec}
use Rattle.op_object.specs.GroupSets.{AddsUses, packages_stated_by}
use Rattle.op_object.proofs.group_uses.add_classes.Given as goal

abbrev pub invariant-loop-class : goal.invariant-loop-class
invariant-loop-class l =
    AddsUses l.asked
    (flat_map (λ (of_package : PackageRec). of_package.groups)
    (flat_map (packages_stated_by l.records l.chosen) (take l.class-index l.classes)))
    l.fn.into.used l.into.used l.fn.into.members l.into.members

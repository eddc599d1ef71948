-- What the packages so far added.
use Rattle.std.proofs.Common.{take}
use Rattle.std.specs.Prelude.{filter, flat_map}
use Rattle.term_model.specs.declared.packages.PackageRec.{PackageRec}
use Rattle.op_object.specs.GroupSets.{AddsUses, has_package}
use Rattle.op_object.proofs.group_uses.add_chosen.Given as goal

abbrev pub invariant-loop-of_package : goal.invariant-loop-of_package
invariant-loop-of_package l =
    AddsUses l.asked
    (flat_map (λ (of_package : PackageRec). of_package.groups)
    (filter (has_package l.chosen) (take l.of_package-index l.packages)))
    l.fn.into.used l.into.used l.fn.into.members l.into.members

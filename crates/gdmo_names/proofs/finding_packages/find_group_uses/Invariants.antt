use Rattle.std.proofs.Common.{[], ◌∷◌, take}
use Rattle.std.specs.Prelude.{flat_map}
use Rattle.gdmo_classes.specs.declared.member_use.GroupUse.{GroupUse}
use Rattle.gdmo_names.specs.ClassViews.{group_terms}
use Rattle.gdmo_names.specs.DocumentTemplates.{in_rows}
use Rattle.gdmo_names.specs.Mentions.{row_mentions}
use Rattle.gdmo_names.specs.Mentions.Role.{PackageGroup, AddedAttribute}
use Rattle.gdmo_names.specs.FindingSteps.{Finds}
use Rattle.gdmo_names.proofs.finding_packages.find_group_uses.Given as goal

abbrev pub invariant-loop-x : goal.invariant-loop-x
invariant-loop-x l = Finds l.initial.finding l.finding l.initial.own.items l.own.items
    (flat_map (λ (y : GroupUse). in_rows (group_terms (y ∷ []))) (take l.x-index l.uses))
    (flat_map (λ (y : GroupUse). row_mentions PackageGroup AddedAttribute (group_terms (y ∷ []))) (take l.x-index l.uses))

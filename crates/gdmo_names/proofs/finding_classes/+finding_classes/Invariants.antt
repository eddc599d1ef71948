use Rattle.std.proofs.Common.{[], ◌∷◌, take}
use Rattle.std.specs.Prelude.{flat_map}
use Rattle.gdmo_names.specs.DocumentTemplates.{in_reference}
use Rattle.gdmo_names.specs.FindingSteps.{Finds}
use Rattle.gdmo_names.specs.ClassViews.{class_reference}
use Rattle.gdmo_names.specs.Mentions.{mention}
use Rattle.gdmo_names.specs.Mentions.Role.{Superclass}
use Rattle.gdmo_names.proofs.finding_classes.+finding_classes.Given as goal

abbrev pub invariant-find_superclasses-loop-reference : goal.invariant-find_superclasses-loop-reference
invariant-find_superclasses-loop-reference l = Finds l.initial.finding l.finding l.initial.own.items l.own.items
    (flat_map (λ x. in_reference (class_reference x)) (take l.reference-index l.reference-items))
    (flat_map (λ x. mention Superclass (class_reference x) ∷ []) (take l.reference-index l.reference-items))

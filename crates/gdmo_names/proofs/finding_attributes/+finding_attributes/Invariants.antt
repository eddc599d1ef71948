use Rattle.std.proofs.Common.{[], ◌∷◌, take}
use Rattle.std.specs.Prelude.{flat_map}
use Rattle.gdmo_names.specs.DocumentTemplates.{in_reference}
use Rattle.gdmo_names.specs.FindingSteps.{Finds}
use Rattle.gdmo_names.specs.MemberViews.{parameter_reference}
use Rattle.gdmo_names.specs.Mentions.{mention}
use Rattle.gdmo_names.specs.Mentions.Role.{OfParameter}
use Rattle.gdmo_names.proofs.finding_attributes.+finding_attributes.Given as goal

abbrev pub invariant-find_own_parameters-loop-reference : goal.invariant-find_own_parameters-loop-reference
invariant-find_own_parameters-loop-reference l = Finds l.initial.finding l.finding l.initial.own.items l.own.items
    (flat_map (λ x. in_reference (parameter_reference x)) (take l.reference-index l.reference-items))
    (flat_map (λ x. mention OfParameter (parameter_reference x) ∷ []) (take l.reference-index l.reference-items))

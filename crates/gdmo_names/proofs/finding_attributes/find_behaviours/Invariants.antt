use Rattle.std.proofs.Common.{[], ◌∷◌, take}
use Rattle.std.specs.Prelude.{flat_map}
use Rattle.gdmo_names.specs.DocumentTemplates.{in_reference}
use Rattle.gdmo_names.specs.FindingSteps.{Finds}
use Rattle.gdmo_names.specs.MemberViews.{behaviour_reference}
use Rattle.gdmo_names.specs.Mentions.{mention}
use Rattle.gdmo_names.specs.Mentions.Role.{OfBehaviour}
use Rattle.gdmo_names.proofs.finding_attributes.find_behaviours.Given as goal

abbrev pub invariant-loop-reference : goal.invariant-loop-reference
invariant-loop-reference l = Finds l.initial.finding l.finding l.initial.own.items l.own.items
    (flat_map (λ x. in_reference (behaviour_reference x)) (take l.reference-index l.references))
    (flat_map (λ x. mention OfBehaviour (behaviour_reference x) ∷ []) (take l.reference-index l.references))

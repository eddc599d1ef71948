use Rattle.std.proofs.Common.{◌≡◌, [], ◌∷◌, take}
use Rattle.std.specs.Prelude.{flat_map}
use Rattle.gdmo_names.specs.DocumentTemplates.{in_reference}
use Rattle.gdmo_names.specs.FindingSteps.{Finds}
use Rattle.gdmo_names.specs.MemberViews.{attribute_reference}
use Rattle.gdmo_names.specs.Mentions.{mention, wanted_kind}
use Rattle.gdmo_names.specs.Roles.{role_term}
use Rattle.gdmo_names.specs.TemplateTerms.TemplateKind.{AttributeKind}
use Rattle.gdmo_names.proofs.finding_attributes.find_attributes.Given as goal

abbrev pub invariant-loop-reference : goal.invariant-loop-reference
invariant-loop-reference l = wanted_kind (role_term l.role) ≡ AttributeKind →
    Finds l.initial.finding l.finding l.initial.own.items l.own.items
    (flat_map (λ x. in_reference (attribute_reference x)) (take l.reference-index l.references))
    (flat_map (λ x. mention (role_term l.role) (attribute_reference x) ∷ []) (take l.reference-index l.references))

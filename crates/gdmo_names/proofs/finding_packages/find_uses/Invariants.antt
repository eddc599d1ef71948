use Rattle.std.proofs.Common.{[], ◌∷◌, take}
use Rattle.std.specs.Prelude.{flat_map}
use Rattle.gdmo_classes.specs.declared.attribute_use.AttributeUse.{AttributeUse}
use Rattle.gdmo_names.specs.ClassViews.{use_terms}
use Rattle.gdmo_names.specs.DocumentTemplates.{in_uses}
use Rattle.gdmo_names.specs.Mentions.{use_mentions}
use Rattle.gdmo_names.specs.FindingSteps.{Finds}
use Rattle.gdmo_names.proofs.finding_packages.find_uses.Given as goal

abbrev pub invariant-loop-x : goal.invariant-loop-x
invariant-loop-x l = Finds l.initial.finding l.finding l.initial.own.items l.own.items
    (flat_map (λ (y : AttributeUse). in_uses (use_terms (y ∷ []))) (take l.x-index l.uses))
    (flat_map (λ (y : AttributeUse). use_mentions (use_terms (y ∷ []))) (take l.x-index l.uses))

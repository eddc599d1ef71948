-- The identifiers of the packages so far.
use Rattle.std.proofs.Common.{take}
use Rattle.std.specs.Prelude.{All}
use Rattle.linked_parts.specs.declared.linked.LinkedPackage.{LinkedPackage}
use Rattle.linked_types.specs.PartIdentifiers.{AreIdentified}
use Rattle.section_values.specs.RegisteredSections.{HasIdentifier}
use Rattle.instance_records.proofs.object_records.chosen_of.Given as goal

abbrev pub invariant-loop-place : goal.invariant-loop-place
invariant-loop-place l = All (HasIdentifier (λ (x : LinkedPackage). x.head) l.parts.linked.now.packages.items)
    l.places →
    AreIdentified (λ (x : LinkedPackage). x.head) l.parts.linked.now.packages.items (take l.place-index l.places)
    l.items.items

use Rattle.std.proofs.Common.{◌≤◌, ℕ, drop, length, take}
use Rattle.gdmo_linking.specs.Linkers.{LinksMention}
use Rattle.gdmo_names.specs.InStep.{AreEach}
use Rattle.gdmo_names.specs.PartTerms.{PartTerms}
use Rattle.linked_packages.specs.PackageTexts.{IsGroupText, LinksGroup, added_mentions}
use Rattle.linked_packages.proofs.linking_packages.linked_groups.Given as goal

abbrev pub invariant-loop-k : goal.invariant-loop-k
invariant-loop-k l = (parts : PartTerms) (document : ℕ) → AreEach (LinksGroup parts document) l.uses l.groups →
    AreEach (LinksMention parts document) (added_mentions l.uses) l.added →
    AreEach (IsGroupText parts document) (take l.k l.uses) l.linked.items
    × AreEach (LinksMention parts document) (added_mentions (drop l.k l.uses)) (drop l.next l.added)
    × (l.next ≤ length l.added)

use Rattle.std.proofs.Common.{ℕ, take}
use Rattle.gdmo_linking.specs.Linkers.{IsLinker}
use Rattle.gdmo_names.specs.InStep.{AreAll, AreEach}
use Rattle.gdmo_names.specs.PartTerms.{PartTerms}
use Rattle.linked_packages.specs.PackageTexts.{IsNamedUse, IsUseText, LinksUse}
use Rattle.linked_packages.proofs.linking_packages.linked_uses.Given as goal

abbrev pub invariant-loop-k : goal.invariant-loop-k
invariant-loop-k l = (parts : PartTerms) (document : ℕ) → IsLinker parts l.linker →
    AreAll (IsNamedUse parts) l.uses → AreEach (LinksUse parts document) l.uses l.attributes →
    AreEach (IsUseText parts document) (take l.k l.uses) l.linked.items

use Rattle.std.proofs.Common.{ℕ, List, take}
use Rattle.gdmo_names.specs.InStep.{AreAll, AreEach}
use Rattle.gdmo_names.specs.Mentions.{Mention}
use Rattle.gdmo_names.specs.PartTerms.{PartTerms}
use Rattle.gdmo_names.specs.TargetTables.{TellsMention}
use Rattle.gdmo_linking.specs.Linkers.{IsLinker, IsMeant, LinksMention}
use Rattle.gdmo_linking.proofs.linking.Linker.places.Given as goal

abbrev pub invariant-loop-k : goal.invariant-loop-k
invariant-loop-k l = (parts : PartTerms) (document : ℕ) (xs : List Mention) → IsLinker parts l.self →
    AreAll (IsMeant parts document) xs →
    AreEach (TellsMention parts l.self.linkage.templates.now document) xs l.numbers →
    AreEach (LinksMention parts document) (take l.k xs) l.places.items

use Rattle.std.proofs.Common.{take}
use Rattle.gdmo_names.specs.FoundViews.{found_term}
use Rattle.gdmo_names.specs.InStep.{AreEach}
use Rattle.gdmo_names.specs.Mentions.{template_mentions}
use Rattle.gdmo_names.specs.PartTerms.{PartTerms}
use Rattle.gdmo_names.specs.Roles.{role_term}
use Rattle.gdmo_linking.specs.InRoles.{only}
use Rattle.gdmo_linking.specs.Linkers.{IsOwn, LinksMention}
use Rattle.gdmo_linking.proofs.linking.Linker.in_role.Given as goal

abbrev pub invariant-loop-k : goal.invariant-loop-k
invariant-loop-k l = (parts : PartTerms) → IsOwn parts l.self l.found l.targets →
    AreEach (LinksMention parts l.found.document)
    (only (role_term l.role) (take l.k (template_mentions (found_term l.found)))) l.places.items

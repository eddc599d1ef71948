-- DocumentLaws: in the linked parts of documents without a fault of labels names mean what is wanted, and what
-- instances name is registered (X.722, section 8; docs/PROFILE.md, sections 9 and 12).
use Rattle.std.specs.Prelude.{◌≡◌, ◌∷◌, [], List, map, refl}
use Rattle.std.proofs.Common.{ap}
use Rattle.std.proofs.Math.Path.{subst}
use Rattle.asn1_syntax.specs.declared.module.Module.{Module}
use Rattle.asn1_names.specs.ModuleTerms.{ModuleTerm}
use Rattle.asn1_names.specs.TermViews.{module_term, module_terms}
use Rattle.gdmo_names.specs.FirstLabelFault.{AreFaultless}
use Rattle.gdmo_names.specs.PartTerms.{ModulePart}
use Rattle.gdmo_names.specs.PartViews.{module_part, part_terms}
use Rattle.gdmo_names.specs.declared.parsed.Parsed.{Parsed}
use Rattle.linked_parts.specs.declared.linked.Linked.{Linked}
use Rattle.linked_documents.specs.LinkedParts.{AreLinkedParts}
use Rattle.meant_names.specs.WantedMeanings.{AreWanted}
use Rattle.instance_records.specs.RegisteredInstances.{AreRegisteredInstances}
use Rattle.registered_laws.proofs.DocumentLaws.{are_registered_parts}
use Rattle.wanted_laws.proofs.InstanceLaws.{instances_registered}
use Rattle.wanted_laws.proofs.WantedLaws.{parts_wanted}

-- the modules of parts say what the modules say
same_modules : (xs : List Module) → map (λ (x : ModulePart). x.text) (map module_part xs) ≡ module_terms xs
same_modules [] = refl
same_modules (x ∷ xs) = ap (λ (ys : List ModuleTerm). module_term x ∷ ys) (same_modules xs)

pub are_wanted : (parts : Parsed) (linked : Linked) → AreLinkedParts (part_terms parts) linked →
    AreFaultless (part_terms parts) → AreWanted (module_terms parts.modules.items) linked
are_wanted parts linked are faultless = subst (λ (ms : List ModuleTerm). AreWanted ms linked)
    (same_modules parts.modules.items) (parts_wanted (part_terms parts) linked are faultless)

pub are_registered_instances : (parts : Parsed) (linked : Linked) → AreLinkedParts (part_terms parts) linked →
    AreFaultless (part_terms parts) → AreRegisteredInstances linked
are_registered_instances parts linked are faultless = instances_registered (part_terms parts) faultless linked are
    (are_registered_parts parts linked are faultless)

-- ReadLaws: what holds of parts that documents say, since these were read.
use Rattle.std.proofs.Common.{◌≡◌, ◌∙◌, List, ap, refl, sym}
use Rattle.std.proofs.Math.Path.{subst}
use Rattle.asn1_syntax.specs.declared.module.Module.{Module}
use Rattle.asn1_names.specs.ModuleTerms.{ModuleTerm}
use Rattle.asn1_names.specs.TermViews.{module_terms}
use Rattle.document_parts.specs.declared.documents.Doc.{Doc}
use Rattle.gdmo_first_names.proofs.TextLaws.{read_terms}
use Rattle.gdmo_names.specs.declared.parsed.Parsed.{Parsed}
use Rattle.gdmo_names.specs.PartTerms.{module_terms_of}
use Rattle.gdmo_names.specs.FirstLabelFault.{AreFaultless}
use Rattle.gdmo_names.specs.PartViews.{part_terms}
use Rattle.label_laws.specs.ReadTexts.{AreReadParts}
use Rattle.reading_laws.proofs.ReadParts.{are_read}
use Rattle.linked_parts.specs.declared.linked.Linked.{Linked}
use Rattle.linked_documents.specs.LinkedParts.{AreLinkedParts}
use Rattle.template_compile.specs.Acceptance.{AreLinked, AreResolved, SayParts}

pub is_read : (docs : List Doc) (parts : Parsed) → SayParts docs parts → AreReadParts (part_terms parts)
is_read docs parts said = are_read docs said.tokens said.units parts said.lexed said.read said.gathered

pub same_terms : (types : List Module) (parts : Parsed) → types ≡ parts.modules.items →
    module_terms types ≡ module_terms_of (part_terms parts)
same_terms types parts is = ap module_terms is ∙ sym (read_terms (part_terms parts) parts.modules.items refl)

-- what is resolved without a fault has nothing wrong with its references, and these are its linked parts
pub are_linked : (docs : List Doc) (parts : Parsed) (linked : Linked) (types : List Module) → AreResolved docs parts →
    types ≡ parts.modules.items →
    (AreReadParts (part_terms parts) → module_terms types ≡ module_terms_of (part_terms parts) →
    AreFaultless (part_terms parts) × AreLinkedParts (part_terms parts) linked) → AreLinked docs parts linked
are_linked docs parts linked types resolved is told =
    let both = told (is_read docs parts resolved.said) (same_terms types parts is) in record {
      referenced = record { resolved = resolved; have_targets = both.0 };
      are_linked = both.1;
    }

-- what holds of modules that are those of the parts holds of these
pub of_modules : (parts : Parsed) (types modules : List Module) (Holds : List ModuleTerm → Type 0) →
    types ≡ parts.modules.items → modules ≡ parts.modules.items →
    (module_terms types ≡ module_terms modules → Holds (module_terms modules)) →
    Holds (module_terms parts.modules.items)
of_modules parts types modules Holds is same told =
    subst (λ (xs : List Module). Holds (module_terms xs)) same (told (ap module_terms (is ∙ sym same)))

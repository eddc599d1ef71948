-- DocumentLaws: the linked parts of documents that were read, where nothing is wrong with the references, are such as
-- records are asked for: registered, and with identifiers of their own (X.722, section 8; docs/PROFILE.md, sections 12
-- and 18).
use Rattle.std.specs.Prelude.{List}
use Rattle.std.specs.Global.{Vec}
use Rattle.token_grammar.specs.declared.token.Token.{Token}
use Rattle.document_units.specs.declared.unit.DocumentUnit.{DocumentUnit}
use Rattle.document_parts.specs.declared.documents.Doc.{Doc}
use Rattle.document_parts.specs.DocumentParts.{AreParts}
use Rattle.document_parts.specs.ReadDocuments.{AreLexed, AreRead}
use Rattle.gdmo_names.specs.FirstLabelFault.{AreFaultless}
use Rattle.gdmo_names.specs.PartViews.{part_terms}
use Rattle.gdmo_names.specs.declared.parsed.Parsed.{Parsed}
use Rattle.linked_parts.specs.declared.linked.Linked.{Linked}
use Rattle.linked_documents.specs.LinkedParts.{AreLinkedParts}
use Rattle.schema_records.specs.ApartParts.{HaveOwnIdentifiers}
use Rattle.schema_records.specs.RegisteredParts.{AreRegisteredParts}
use Rattle.section_values.specs.RegisteredSections.{AreRegisteredRules}
use Rattle.registered_laws.proofs.ApartLaws.{own_identifiers}
use Rattle.registered_laws.proofs.ClassKinds.{registered_kinds}
use Rattle.registered_laws.proofs.DocumentBraces.{braces_apart}
use Rattle.registered_laws.proofs.PartLaws.{parts_registered}
use Rattle.registered_laws.proofs.RuleLaws.{rules_registered}

pub are_registered_parts : (parts : Parsed) (linked : Linked) → AreLinkedParts (part_terms parts) linked →
    AreFaultless (part_terms parts) → AreRegisteredParts linked
are_registered_parts parts linked are faultless =
    parts_registered (part_terms parts) linked are (registered_kinds parts) faultless

pub are_registered_rules : (parts : Parsed) (linked : Linked) → AreLinkedParts (part_terms parts) linked →
    AreFaultless (part_terms parts) → AreRegisteredRules linked
are_registered_rules parts linked are faultless =
    rules_registered (part_terms parts) linked are faultless (registered_kinds parts)

pub have_own_identifiers : (docs : List Doc) (lists : List (Vec Token)) (units : List (List DocumentUnit))
    (parts : Parsed) (linked : Linked) → AreLexed docs lists → AreRead lists units → AreParts units parts →
    AreLinkedParts (part_terms parts) linked → AreFaultless (part_terms parts) → HaveOwnIdentifiers linked
have_own_identifiers docs lists units parts linked lexed read gathered are faultless =
    own_identifiers (part_terms parts) linked are faultless (braces_apart docs lists units parts lexed read gathered)

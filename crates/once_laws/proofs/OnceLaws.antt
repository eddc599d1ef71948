-- OnceLaws: the schema of documents that were read, where nothing is wrong with the references, has each identifier and
-- each label once, and no two rules of one class and action (X.722, section 8.2; docs/PROFILE.md, sections 9, 12 and
-- 18).
use Rattle.std.specs.Prelude.{◌≡◌, ◌≢◌, ℕ, List, AllPairs}
use Rattle.std.specs.Global.{Vec}
use Rattle.std.proofs.Common.{◌∙◌, ap, sym}
use Rattle.std.proofs.Math.Path.{subst}
use Rattle.token_grammar.specs.declared.token.Token.{Token}
use Rattle.term_model.specs.WholeSet.{AreApart, AreOnce, identifiers_of, labels_of}
use Rattle.term_model.specs.declared.schema.Set.{Set}
use Rattle.asn1_names.specs.ModuleTerms.{ModuleTerm}
use Rattle.document_units.specs.declared.unit.DocumentUnit.{DocumentUnit}
use Rattle.document_parts.specs.declared.documents.Doc.{Doc}
use Rattle.document_parts.specs.DocumentParts.{AreParts}
use Rattle.document_parts.specs.ReadDocuments.{AreLexed, AreRead}
use Rattle.gdmo_names.specs.DocumentTemplates.{templates}
use Rattle.gdmo_names.specs.FirstLabelFault.{AreFaultless}
use Rattle.gdmo_names.specs.PartTerms.{Placed, PartTerms, identifier_of, label_of}
use Rattle.gdmo_names.specs.PartViews.{part_terms}
use Rattle.gdmo_names.specs.declared.parsed.Parsed.{Parsed}
use Rattle.gdmo_linking.specs.LinkedNames.{IsHead}
use Rattle.linked_parts.specs.declared.linked.Linked.{Linked}
use Rattle.linked_parts.specs.declared.linked.LinkedHead.{LinkedHead}
use Rattle.linked_documents.specs.LinkedParts.{AreLinkedParts}
use Rattle.schema_records.specs.ClassRecords.{IsRegistered}
use Rattle.schema_records.specs.MemberRecords.{AreRecords}
use Rattle.placing_laws.proofs.DocumentLabels.{labels_apart}
use Rattle.registered_laws.proofs.ApartLaws.{stated_of}
use Rattle.registered_laws.proofs.DocumentBraces.{braces_apart}
use Rattle.once_laws.proofs.KindTables.{record_tables, tables_apart}
use Rattle.once_laws.proofs.RecordTables.{records_told}
use Rattle.once_laws.proofs.RulePairs.{rules_differ}
use Rattle.once_laws.proofs.TemplatePairs.{AreDifferent, IsUnder, different_turned, templates_apart}
use Rattle.once_laws.proofs.ToldLaws.{told_pairs}

-- the template of a record has the identifier of the record, and its label
identifier_told : (parts : PartTerms) (x : Placed) (head : LinkedHead) (id label : List ℕ) → IsHead parts x head →
    IsRegistered head id label → IsUnder parts x id
identifier_told parts x head id label is registered =
    let found = stated_of parts (identifier_of x.template) head.identifier id registered.is_id is.identifier in
    record { own = found.0; states = found.1; is = found.2 }

abbrev IsCalled : Placed → List ℕ → Type 0
IsCalled x label = (label_of x.template).text ≡ label

label_told : (parts : PartTerms) (x : Placed) (head : LinkedHead) (id label : List ℕ) → IsHead parts x head →
    IsRegistered head id label → IsCalled x label
label_told parts x head id label is registered =
    ap (λ (t : Token). t.text) (sym is.label) ∙ registered.is_label

-- the templates of records, table behind table, are different ones
all_different : (docs : List Doc) (lists : List (Vec Token)) (units : List (List DocumentUnit)) (parts : Parsed) →
    AreLexed docs lists → AreRead lists units → AreParts units parts → AreFaultless (part_terms parts) →
    AllPairs (AreDifferent (part_terms parts)) (record_tables (templates (part_terms parts)))
all_different docs lists units parts lexed read gathered faultless =
    tables_apart (AreDifferent (part_terms parts)) (different_turned (part_terms parts)) (templates (part_terms parts))
    (templates_apart (part_terms parts) faultless (labels_apart docs lists units parts lexed read gathered)
    (braces_apart docs lists units parts lexed read gathered))

pub identifiers_once : (docs : List Doc) (lists : List (Vec Token)) (units : List (List DocumentUnit))
    (parts : Parsed) (linked : Linked) (ms : List ModuleTerm) (schema : Set) → AreLexed docs lists →
    AreRead lists units → AreParts units parts → AreLinkedParts (part_terms parts) linked →
    AreFaultless (part_terms parts) → AreRecords ms linked schema → AreOnce (identifiers_of schema)
identifiers_once docs lists units parts linked ms schema lexed read gathered are faultless records =
    told_pairs (IsUnder (part_terms parts)) (AreDifferent (part_terms parts)) ◌≢◌
    (λ x z y w different one other same. different.identifiers w (subst (IsUnder (part_terms parts) x) same one) other)
    (records_told (part_terms parts) (IsUnder (part_terms parts)) (λ id label. id)
    (identifier_told (part_terms parts)) ms linked schema are records)
    (all_different docs lists units parts lexed read gathered faultless)

pub labels_once : (docs : List Doc) (lists : List (Vec Token)) (units : List (List DocumentUnit))
    (parts : Parsed) (linked : Linked) (ms : List ModuleTerm) (schema : Set) → AreLexed docs lists →
    AreRead lists units → AreParts units parts → AreLinkedParts (part_terms parts) linked →
    AreFaultless (part_terms parts) → AreRecords ms linked schema → AreOnce (labels_of schema)
labels_once docs lists units parts linked ms schema lexed read gathered are faultless records =
    told_pairs IsCalled (AreDifferent (part_terms parts)) ◌≢◌
    (λ x z y w different one other same. different.labels (one ∙ same ∙ sym other))
    (records_told (part_terms parts) IsCalled (λ id label. label) (label_told (part_terms parts)) ms linked schema are
    records)
    (all_different docs lists units parts lexed read gathered faultless)

pub rules_apart : (docs : List Doc) (lists : List (Vec Token)) (units : List (List DocumentUnit))
    (parts : Parsed) (linked : Linked) (ms : List ModuleTerm) (schema : Set) → AreLexed docs lists →
    AreRead lists units → AreParts units parts → AreLinkedParts (part_terms parts) linked →
    AreFaultless (part_terms parts) → AreRecords ms linked schema → AllPairs AreApart schema.rules
rules_apart docs lists units parts linked ms schema lexed read gathered are faultless records =
    rules_differ (part_terms parts) ms linked schema are faultless
    (braces_apart docs lists units parts lexed read gathered) records

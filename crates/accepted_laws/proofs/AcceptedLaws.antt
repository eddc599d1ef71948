-- AcceptedLaws: no documents are both accepted and refused (X.722, section 8; X.680, section 12; docs/PROFILE.md,
-- section 2).
use Rattle.std.proofs.Common.{◌≡◌, ℕ, List, sym, subst}
use Rattle.asn1_names.specs.TermViews.{module_terms}
use Rattle.gdmo_names.specs.declared.parsed.Parsed.{Parsed}
use Rattle.gdmo_names.specs.PartViews.{part_terms}
use Rattle.gdmo_names.specs.TargetTables.{ArePlacedApart}
use Rattle.linked_parts.specs.declared.linked.Linked.{Linked}
use Rattle.linked_documents.specs.LinkedParts.{AreLinkedParts}
use Rattle.document_parts.specs.declared.documents.Doc.{Doc}
use Rattle.placing_laws.proofs.DocumentLabels.{labels_apart}
use Rattle.term_model.specs.declared.schema.Set.{Set}
use Rattle.template_compile.specs.declared.refusal.Kind.{Kind}
use Rattle.template_compile.specs.Acceptance.{AreAccepted, AreLinked, AreResolved, SayParts}
use Rattle.template_compile.specs.DocumentFaults.{IsTold}
use Rattle.template_compile.specs.DocumentFaults.IsTold.{of_classes, of_labels, of_lexing, of_modules, of_syntax}
use Rattle.accepted_laws.specs.AlikeParts.{AreAlike}
use Rattle.accepted_laws.proofs.AlikeSections.{linked_alike}
use Rattle.accepted_laws.proofs.DocumentTerms.{modules_of_terms, terms_determined}
use Rattle.accepted_laws.proofs.FaultLaws.{never_classes, never_lexing, never_modules, never_references, never_syntax}
use Rattle.accepted_laws.proofs.ToldFaults.{classes_told, labels_told, modules_told}

-- ---- what documents say

-- documents say one set of parts
pub parts_determined : {docs : List Doc} {parts same : Parsed} → SayParts docs parts → SayParts docs same →
    part_terms parts ≡ part_terms same
parts_determined one other = terms_determined one.lexed one.read one.gathered other.lexed other.read other.gathered

-- and one row of modules
pub modules_determined : {docs : List Doc} {parts same : Parsed} → SayParts docs parts → SayParts docs same →
    module_terms parts.modules.items ≡ module_terms same.modules.items
modules_determined {parts = parts} {same = same} one other = modules_of_terms parts same (parts_determined one other)

-- their linked parts are alike
pub linked_determined : {docs : List Doc} {parts same : Parsed} {linked other : Linked} → AreLinked docs parts linked →
    AreLinked docs same other → AreAlike linked other × AreAlike other linked
linked_determined {docs} {parts} {same} {linked} {other} one two = (
  linked_alike (part_terms parts) apart linked other one.are_linked its_parts,
  linked_alike (part_terms parts) apart other linked its_parts one.are_linked,
)
  where
    said : SayParts docs parts
    said = one.referenced.resolved.said

    apart : ArePlacedApart (part_terms parts)
    apart = labels_apart docs said.tokens said.units parts said.lexed said.read said.gathered

    its_parts : AreLinkedParts (part_terms parts) other
    its_parts = subst (λ terms. AreLinkedParts terms other)
        (sym (parts_determined said two.referenced.resolved.said)) two.are_linked

-- ---- acceptance

-- documents that are accepted as some schema have no fault that could be told
pub never_both : {docs : List Doc} {schema : Set} {document line : ℕ} {kind : Kind} → AreAccepted docs schema →
    IsTold docs document line kind → ⊥
never_both {docs} {schema} {document} {line} {kind} accepted told = by told
  where
    linked : AreLinked docs accepted.0 accepted.1.closed.linked
    linked = accepted.1.closed.are_linked

    resolved : AreResolved docs accepted.0
    resolved = linked.referenced.resolved

    said : SayParts docs accepted.0
    said = resolved.said

    by : IsTold docs document line kind → ⊥
    by (of_lexing first is_kind is_line) = never_lexing said.lexed first
    by (of_syntax lexed first is_kind is_line) = never_syntax said.lexed said.read lexed first
    by (of_modules other first is is_line) =
        never_modules (modules_determined said other) resolved.faultless (modules_told first is).first
    by (of_labels other first is is_line) =
        never_references (parts_determined said other.said) linked.referenced.have_targets (labels_told first is).first
    by (of_classes other first is is_line) =
        let alike = linked_determined linked other in
        never_classes (modules_determined said other.referenced.resolved.said) alike.0 alike.1
        accepted.1.closed.sound (classes_told first is).first

-- FaultLaws: documents that were read have no fault of lexing and none of syntax; and where nothing is wrong in their
-- modules, with their references or with their classes, there is no first fault of these (docs/PROFILE.md, sections 2,
-- 11, 12 and 18).
use Rattle.std.specs.Global.{Vec}
use Rattle.std.proofs.Common.{◌≡◌, ℕ, List, [], map, subst}
use Rattle.token_grammar.specs.declared.token.Token.{Token}
use Rattle.text_lex.specs.declared.lex_refusal.LexKind.{LexKind}
use Rattle.text_lex.specs.declared.lex_refusal.LexRefusal.TheVariants.{Fault}
use Rattle.text_lex.specs.Lexed.{IsRefused}
use Rattle.text_lex.proofs.Once.{tokens_once}
use Rattle.asn1_names.specs.FirstModuleFault.{AreFaultless as AreSoundModules, FaultKind}
use Rattle.asn1_names.specs.FirstModuleFault.{IsFirstFault as IsFirstModuleFault}
use Rattle.asn1_names.specs.ModuleTerms.{ModuleTerm}
use Rattle.document_units.specs.declared.unit.DocumentUnit.{DocumentUnit}
use Rattle.document_units.specs.DocumentForms.{IsDocumentFault, SpellsUnits}
use Rattle.document_units.specs.UnitOutcome.{unit_term}
use Rattle.gdmo_names.specs.FirstLabelFault.{AreFaultless as HaveTargets, IsFirstFault as IsFirstLabelFault, LabelFault}
use Rattle.gdmo_names.specs.PartTerms.{PartTerms}
use Rattle.linked_parts.specs.declared.linked.Linked.{Linked}
use Rattle.class_faults.specs.FirstClassFault.{AreFaultless as HaveSoundClasses, ClassFault}
use Rattle.class_faults.specs.FirstClassFault.{IsFirstFault as IsFirstClassFault}
use Rattle.document_parts.specs.declared.document_refusal.DocumentRefusal.TheVariants.{Lexing, Syntax}
use Rattle.document_parts.specs.declared.documents.Doc.{Doc}
use Rattle.document_parts.specs.ReadDocuments.{AreLexed, AreRead, AreUnitTokens, IsFirstFault, IsFirstIn}
use Rattle.document_parts.specs.ReadDocuments.{IsFirstSyntaxFault, IsLexed}
use Rattle.document_parts.specs.ReadDocuments.AreLexed.{no_document as lexed_end, document as lexed_document}
use Rattle.document_parts.specs.ReadDocuments.AreRead.{no_document as read_end, document as read_document}
use Rattle.document_parts.specs.ReadDocuments.IsFirstIn.{here, behind}
use Rattle.accepted_laws.specs.AlikeParts.{AreAlike}
use Rattle.accepted_laws.proofs.AlikeValues.{same_faults}

-- ---- lexing

refused_nowhere : {docs : List Doc} {lists : List (Vec Token)} {m n at : ℕ} {kind : LexKind} → AreLexed docs lists →
    IsFirstIn IsLexed (λ x. IsRefused x.bytes.items (Fault at kind)) m docs n → ⊥
refused_nowhere lexed_end first = elim first [ ]
refused_nowhere (lexed_document {tokens = tokens} lexed lists) (here fault) = fault.1 tokens.items lexed
refused_nowhere (lexed_document lexed lists) (behind sound rest) = refused_nowhere lists rest

pub never_lexing : {docs : List Doc} {lists : List (Vec Token)} {n at : ℕ} {kind : LexKind} → AreLexed docs lists →
    ¬ IsFirstFault docs (Lexing n at kind)
never_lexing lexed first = refused_nowhere lexed first

-- ---- syntax

fault_nowhere : {docs : List Doc} {lists others : List (Vec Token)} {units : List (List DocumentUnit)} {m n at : ℕ} →
    AreLexed docs lists → AreRead lists units → AreLexed docs others →
    IsFirstIn AreUnitTokens (λ x. IsDocumentFault x.items at) m others n → ⊥
fault_nowhere lexed_end read_end lexed_end first = elim first [ ]
fault_nowhere (lexed_document {tokens = tokens} lexed lists) (read_document {us = us} read units)
    (lexed_document {tokens = its_tokens} too others) (here fault) =
    fault.unspelt (map unit_term us) (subst (λ ts. SpellsUnits ts 0 (map unit_term us))
    (tokens_once _ [] 0 tokens.items its_tokens.items lexed too) read.spelt)
fault_nowhere (lexed_document lexed lists) (read_document read units) (lexed_document too others) (behind sound rest) =
    fault_nowhere lists units others rest

pub never_syntax : {docs : List Doc} {lists others : List (Vec Token)} {units : List (List DocumentUnit)} {n at : ℕ} →
    AreLexed docs lists → AreRead lists units → AreLexed docs others → ¬ IsFirstSyntaxFault others (Syntax n at)
never_syntax lexed read too first = fault_nowhere lexed read too first

-- ---- modules and references

pub never_modules : {ms others : List ModuleTerm} {kind : FaultKind} {document at : ℕ} → ms ≡ others →
    AreSoundModules ms → ¬ IsFirstModuleFault others kind document at
never_modules {kind = kind} {document = document} {at = at} same faultless first =
    subst AreSoundModules same faultless kind document at first.there

pub never_references : {parts others : PartTerms} {kind : LabelFault} {document at : ℕ} → parts ≡ others →
    HaveTargets parts → ¬ IsFirstLabelFault others kind document at
never_references {kind = kind} {document = document} {at = at} same faultless first =
    subst HaveTargets same faultless kind document at first.there

-- ---- classes

pub never_classes : {ms others : List ModuleTerm} {linked other : Linked} {kind : ClassFault} {document at : ℕ} →
    ms ≡ others → AreAlike linked other → AreAlike other linked → HaveSoundClasses ms linked →
    ¬ IsFirstClassFault others other kind document at
never_classes {others = ms} {linked = linked} {kind = kind} {document = document} {at = at} same alike back sound
    first =
    subst (λ xs. HaveSoundClasses xs linked) same sound kind document at
    (same_faults ms kind document at back alike first.there)

-- DocumentFaults: which fault of documents is told: lexing, syntax, modules, labels and classes are gone through one
-- after the other, and in each the first fault is told, by document and by place (docs/PROFILE.md, section 2).
use Rattle.std.specs.Prelude.{◌≡◌, ℕ, List}
use Rattle.std.specs.Global.{Vec}
use Rattle.token_grammar.specs.declared.token.Token.{Token}
use Rattle.text_lex.specs.declared.lex_refusal.LexKind.{LexKind}
use Rattle.text_lex.specs.declared.lex_refusal.LexKind.TheVariants as L
use Rattle.document_parts.specs.declared.document_refusal.DocumentRefusal.TheVariants as D
use Rattle.document_parts.specs.declared.documents.Doc.{Doc}
use Rattle.document_parts.specs.ReadDocuments.{AreLexed, IsFirstFault, IsFirstSyntaxFault}
use Rattle.asn1_names.specs.declared.refusal.ModuleRefusal.{ModuleRefusal}
use Rattle.asn1_names.specs.declared.refusal.ModuleRefusal.TheVariants as M
use Rattle.asn1_names.specs.FirstModuleFault.{TellsFirstFault}
use Rattle.asn1_names.specs.TermViews.{module_terms}
use Rattle.gdmo_names.specs.FirstLabelFault.{TellsFirstFault as TellsFirstLabelFault}
use Rattle.gdmo_names.specs.PartViews.{part_terms}
use Rattle.gdmo_names.specs.declared.parsed.Parsed.{Parsed}
use Rattle.gdmo_names.specs.declared.refusal.LabelRefusal.{LabelRefusal}
use Rattle.gdmo_names.specs.declared.refusal.LabelRefusal.TheVariants as R
use Rattle.linked_parts.specs.declared.linked.Linked.{Linked}
use Rattle.class_faults.specs.NotedFaults.{TellsFirstFault as TellsFirstClassFault}
use Rattle.class_faults.specs.declared.refusal.ClassRefusal.{ClassRefusal}
use Rattle.class_faults.specs.declared.refusal.ClassRefusal.TheVariants as C
use Rattle.template_compile.specs.declared.refusal.CompileRefusal.{CompileRefusal}
use Rattle.template_compile.specs.declared.refusal.CompileRefusal.TheVariants.{BadDocument, Memory}
use Rattle.template_compile.specs.declared.refusal.Kind.{Kind}
use Rattle.template_compile.specs.declared.refusal.Kind.TheVariants as K
use Rattle.template_compile.specs.Acceptance.{AreLinked, AreResolved, SayParts}
use Rattle.template_compile.specs.Lines.{line_at, line_at_token}

abbrev pub lexing_kind : LexKind → Kind
lexing_kind L.BadByte = K.BadByte
lexing_kind L.OpenString = K.OpenString
lexing_kind L.BadNumber = K.BadNumber
lexing_kind L.BadBits = K.BadBits

-- a refusal of modules tells a fault of this kind at this place of a document
pub data IsModuleFault (document place : ℕ) : ModuleRefusal → Kind → Type 0 where
  unknown_type : IsModuleFault document place (M.UnknownType document place) K.UnknownType
  unknown_module : IsModuleFault document place (M.UnknownModule document place) K.UnknownModule
  cyclic_type : IsModuleFault document place (M.CyclicType document place) K.CyclicType
  unsupported : {what : _} → IsModuleFault document place (M.Unsupported document place what) K.Unsupported
  ambiguous_tags : IsModuleFault document place (M.AmbiguousTags document place) K.AmbiguousTags

-- the same of a refusal of references
pub data IsLabelFault (document place : ℕ) : LabelRefusal → Kind → Type 0 where
  unknown_label : IsLabelFault document place (R.UnknownLabel document place) K.UnknownLabel
  wrong_kind : IsLabelFault document place (R.WrongKind document place) K.WrongKind
  double_label : IsLabelFault document place (R.DoubleLabel document place) K.DoubleLabel
  double_identifier : IsLabelFault document place (R.DoubleIdentifier document place) K.DoubleIdentifier

-- the same of a refusal of classes
pub data IsClassFault (document place : ℕ) : ClassRefusal → Kind → Type 0 where
  cyclic_class : IsClassFault document place (C.CyclicClass document place) K.CyclicClass
  unequal_default : IsClassFault document place (C.UnequalDefault document place) K.UnequalDefault
  empty_permitted : IsClassFault document place (C.EmptyPermitted document place) K.EmptyPermitted
  not_set_valued : IsClassFault document place (C.NotSetValued document place) K.NotSetValued
  bad_value : IsClassFault document place (C.BadValue document place) K.BadValue

-- the fault that is told of documents
pub data IsTold (docs : List Doc) (document line : ℕ) (kind : Kind) : Type 0 where
  of_lexing : {place : ℕ} {fault : LexKind} → IsFirstFault docs (D.Lexing document place fault) →
      kind ≡ lexing_kind fault → line ≡ line_at docs document place → IsTold docs document line kind
  of_syntax : {lists : List (Vec Token)} {token : ℕ} → AreLexed docs lists →
      IsFirstSyntaxFault lists (D.Syntax document token) → kind ≡ K.Syntax →
      line ≡ line_at_token docs lists document token → IsTold docs document line kind
  of_modules : {parts : Parsed} {refusal : ModuleRefusal} {place : ℕ} → SayParts docs parts →
      TellsFirstFault (module_terms parts.modules.items) refusal → IsModuleFault document place refusal kind →
      line ≡ line_at docs document place → IsTold docs document line kind
  of_labels : {parts : Parsed} {refusal : LabelRefusal} {place : ℕ} → AreResolved docs parts →
      TellsFirstLabelFault (part_terms parts) refusal → IsLabelFault document place refusal kind →
      line ≡ line_at docs document place → IsTold docs document line kind
  of_classes : {parts : Parsed} {linked : Linked} {refusal : ClassRefusal} {place : ℕ} → AreLinked docs parts linked →
      TellsFirstClassFault (module_terms parts.modules.items) linked refusal →
      IsClassFault document place refusal kind → line ≡ line_at docs document place → IsTold docs document line kind

-- the cause of a refusal; want of memory has none
abbrev pub HasCause : List Doc → CompileRefusal → Type 0
HasCause docs (BadDocument document line kind) = IsTold docs document line kind
HasCause docs Memory = Unit {0}

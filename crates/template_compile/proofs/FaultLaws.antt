-- FaultLaws: from the fault of a phase to the fault that is told of documents.
use Rattle.std.proofs.Common.{◌≡◌, ℕ, List, refl, sym}
use Rattle.std.proofs.Math.Path.{subst}
use Rattle.std.specs.Global.{Vec}
use Rattle.token_grammar.specs.declared.token.Token.{Token}
use Rattle.text_lex.specs.declared.lex_refusal.LexKind.{LexKind}
use Rattle.document_parts.specs.declared.document_refusal.DocumentRefusal.{DocumentRefusal}
use Rattle.document_parts.specs.declared.document_refusal.DocumentRefusal.TheVariants as D
use Rattle.document_parts.specs.declared.documents.Doc.{Doc}
use Rattle.document_parts.specs.ReadDocuments.{AreLexed, IsFirstFault, IsFirstSyntaxFault}
use Rattle.asn1_names.specs.declared.refusal.ModuleRefusal.{ModuleRefusal}
use Rattle.asn1_names.specs.FirstModuleFault.{TellsFirstFault}
use Rattle.asn1_names.specs.TermViews.{module_terms}
use Rattle.gdmo_names.specs.FirstLabelFault.{TellsFirstFault as TellsFirstLabelFault}
use Rattle.gdmo_names.specs.PartViews.{part_terms}
use Rattle.gdmo_names.specs.declared.parsed.Parsed.{Parsed}
use Rattle.gdmo_names.specs.declared.refusal.LabelRefusal.{LabelRefusal}
use Rattle.linked_parts.specs.declared.linked.Linked.{Linked}
use Rattle.class_faults.specs.NotedFaults.{TellsFirstFault as TellsFirstClassFault}
use Rattle.class_faults.specs.declared.refusal.ClassRefusal.{ClassRefusal}
use Rattle.template_compile.specs.declared.refusal.CompileRefusal.{CompileRefusal}
use Rattle.template_compile.specs.declared.refusal.CompileRefusal.TheVariants.{BadDocument}
use Rattle.template_compile.specs.declared.refusal.Kind.{Kind}
use Rattle.template_compile.specs.declared.refusal.Kind.TheVariants as K
use Rattle.template_compile.specs.Acceptance.{AreLinked, AreResolved, SayParts}
use Rattle.template_compile.specs.DocumentFaults.{HasCause, IsClassFault, IsLabelFault, IsModuleFault, IsTold, lexing_kind}
use Rattle.template_compile.specs.DocumentFaults.IsTold.{of_lexing, of_syntax, of_modules, of_labels, of_classes}
use Rattle.template_compile.specs.Lines.{line_at, line_at_token}

-- the refusal of a fault at a place
at_place : (docs : List Doc) (document place : ℕ) {kind : Kind} {r : CompileRefusal} →
    r ≡ BadDocument document (line_at docs document place) kind →
    ((line : ℕ) → line ≡ line_at docs document place → IsTold docs document line kind) → HasCause docs r
at_place docs document place same told =
    subst (λ r. HasCause docs r) (sym same) (told (line_at docs document place) refl)

pub lexing_told : (docs : List Doc) (document place : ℕ) {fault : LexKind} {kind : Kind} {refusal : DocumentRefusal}
    {r : CompileRefusal} → refusal ≡ D.Lexing document place fault → kind ≡ lexing_kind fault →
    r ≡ BadDocument document (line_at docs document place) kind → IsFirstFault docs refusal → HasCause docs r
lexing_told docs document place is is_kind same first =
    at_place docs document place same (λ line e. of_lexing
    (subst (λ (x : DocumentRefusal). IsFirstFault docs x) is first) is_kind e)

pub module_told : (docs : List Doc) (parts : Parsed) (document place : ℕ) {kind : Kind}
    {refusal told : ModuleRefusal} {r : CompileRefusal} → refusal ≡ told → IsModuleFault document place told kind →
    r ≡ BadDocument document (line_at docs document place) kind → SayParts docs parts →
    TellsFirstFault (module_terms parts.modules.items) refusal → HasCause docs r
module_told docs parts document place {kind = kind} is fault same said first =
    at_place docs document place same (λ line e. of_modules said first
    (subst (λ (x : ModuleRefusal). IsModuleFault document place x kind) (sym is) fault) e)

pub label_told : (docs : List Doc) (parts : Parsed) (document place : ℕ) {kind : Kind}
    {refusal told : LabelRefusal} {r : CompileRefusal} → refusal ≡ told → IsLabelFault document place told kind →
    r ≡ BadDocument document (line_at docs document place) kind → AreResolved docs parts →
    TellsFirstLabelFault (part_terms parts) refusal → HasCause docs r
label_told docs parts document place {kind = kind} is fault same resolved first =
    at_place docs document place same (λ line e. of_labels resolved first
    (subst (λ (x : LabelRefusal). IsLabelFault document place x kind) (sym is) fault) e)

pub class_told : (docs : List Doc) (parts : Parsed) (linked : Linked) (document place : ℕ) {kind : Kind}
    {refusal told : ClassRefusal} {r : CompileRefusal} → refusal ≡ told → IsClassFault document place told kind →
    r ≡ BadDocument document (line_at docs document place) kind → AreLinked docs parts linked →
    TellsFirstClassFault (module_terms parts.modules.items) linked refusal → HasCause docs r
class_told docs parts linked document place {kind = kind} is fault same are_linked first =
    at_place docs document place same (λ line e. of_classes are_linked first
    (subst (λ (x : ClassRefusal). IsClassFault document place x kind) (sym is) fault) e)

pub syntax_told : (docs : List Doc) (lists : List (Vec Token)) (document token line : ℕ) {kind : Kind}
    {refusal : DocumentRefusal} → refusal ≡ D.Syntax document token → kind ≡ K.Syntax →
    line ≡ line_at_token docs lists document token → AreLexed docs lists → IsFirstSyntaxFault lists refusal →
    IsTold docs document line kind
syntax_told docs lists document token line is is_kind is_line lexed first =
    of_syntax lexed (subst (λ (x : DocumentRefusal). IsFirstSyntaxFault lists x) is first) is_kind is_line

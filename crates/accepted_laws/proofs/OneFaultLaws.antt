-- OneFaultLaws: at most one fault is told of documents: the first one of the first phase that has one (docs/PROFILE.md,
-- section 2).
use Rattle.std.specs.Global.{Vec}
use Rattle.std.specs.Prelude.{slice_get}
use Rattle.std.proofs.Common.{◌≡◌, ◌+◌, ◌-◌, ℕ, zero, suc, List, [], ◌∷◌, Option, None, Some, refl, sym, ◌∙◌, ap, arith}
use Rattle.std.proofs.Common.{map, subst}
use Rattle.token_grammar.specs.declared.token.Token.{Token}
use Rattle.token_grammar.specs.PartLaws.{ListsAgree, OptionsAgree}
use Rattle.text_lex.specs.declared.lex_refusal.LexKind.{LexKind}
use Rattle.text_lex.specs.declared.lex_refusal.LexRefusal.TheVariants.{Fault}
use Rattle.text_lex.specs.Lexed.{IsRefused}
use Rattle.text_lex.proofs.Once.{fault_once, tokens_once}
use Rattle.asn1_names.specs.ModuleTerms.{ModuleTerm}
use Rattle.document_units.specs.DocumentForms.{AreUnits, IsDocumentFault}
use Rattle.document_units.specs.UnitOutcome.{unit_term}
use Rattle.gdmo_members.specs.Agreement.{VectorsEqual}
use Rattle.gdmo_names.specs.PartTerms.{PartTerms}
use Rattle.linked_parts.specs.declared.linked.Linked.{Linked}
use Rattle.class_faults.specs.FirstClassFault.{ClassFault, IsFirstFault as IsFirstClassFault}
use Rattle.document_parts.specs.declared.document_refusal.DocumentRefusal.TheVariants.{Lexing, Syntax}
use Rattle.document_parts.specs.declared.documents.Doc.{Doc}
use Rattle.document_parts.specs.ReadDocuments.{AreLexed, AreUnitTokens, IsFirstFault, IsFirstIn, IsFirstSyntaxFault}
use Rattle.document_parts.specs.ReadDocuments.AreLexed.{no_document as lexed_end, document as lexed_document}
use Rattle.document_parts.specs.ReadDocuments.IsFirstIn.{here, behind}
use Rattle.template_compile.specs.declared.refusal.Kind.{Kind}
use Rattle.template_compile.specs.DocumentFaults.{IsTold, lexing_kind}
use Rattle.template_compile.specs.DocumentFaults.IsTold.{of_classes, of_labels, of_lexing, of_modules, of_syntax}
use Rattle.template_compile.specs.Lines.{line_among, line_at, line_at_token, line_of_token, numbered}
use Rattle.accepted_laws.specs.AlikeParts.{AreAlike}
use Rattle.accepted_laws.proofs.AcceptedLaws.{linked_determined, modules_determined, parts_determined}
use Rattle.accepted_laws.proofs.AlikeValues.{same_faults}
use Rattle.accepted_laws.proofs.FaultLaws.{never_lexing, never_modules, never_references, never_syntax}
use Rattle.accepted_laws.proofs.ToldFaults.{TellsClasses, TellsLabels, TellsModules, class_kind, classes_told}
use Rattle.accepted_laws.proofs.ToldFaults.{label_kind, labels_told, module_kind, modules_told, one_of_classes}
use Rattle.accepted_laws.proofs.ToldFaults.{one_of_labels, one_of_modules}

-- what is told of one fault and of another is the same
pub record IsOneFault (document line : ℕ) (kind : Kind) (its_document its_line : ℕ) (its_kind : Kind) : Type 0 where
  pub documents : document ≡ its_document
  pub lines : line ≡ its_line
  pub kinds : kind ≡ its_kind

-- ---- the first document that has a fault

first_once : {X : Type 0} {Sound One Other : X → Type 0} {m n k : ℕ} {xs : List X} →
    ((x : X) → Sound x → One x → ⊥) → ((x : X) → Sound x → Other x → ⊥) → IsFirstIn Sound One m xs n →
    IsFirstIn Sound Other m xs k → (n ≡ k) × ((x : X) × One x × Other x)
first_once never also (here {x = x} one) (here other) = (refl, (x, one, other))
first_once never also (here {x = x} one) (behind sound rest) = absurd (never x sound one)
first_once never also (behind {x = x} sound rest) (here other) = absurd (also x sound other)
first_once never also (behind sound rest) (behind again further) = first_once never also rest further

-- lexing
one_lexing : {docs : List Doc} {document place its_document its_place : ℕ} {fault other : LexKind} →
    IsFirstFault docs (Lexing document place fault) → IsFirstFault docs (Lexing its_document its_place other) →
    (document ≡ its_document) × (place ≡ its_place) × (fault ≡ other)
one_lexing {docs} {document} {place} {its_document} {its_place} {fault} {other} one two =
    let found = first_once {One = λ (x : Doc). IsRefused x.bytes.items (Fault place fault)}
    {Other = λ (x : Doc). IsRefused x.bytes.items (Fault its_place other)}
    (λ x lexed refused. refused.1 lexed.0 lexed.1) (λ x lexed refused. refused.1 lexed.0 lexed.1) one two in
    let same = fault_once found.1.0.bytes.items [] 0 place its_place fault other found.1.1.0 found.1.2.0 in
    (found.0, same.0, same.1)

-- ---- syntax

tokens_determined : {docs : List Doc} {lists others : List (Vec Token)} → AreLexed docs lists → AreLexed docs others →
    ListsAgree VectorsEqual lists others
tokens_determined lexed_end lexed_end = tt
tokens_determined (lexed_document {tokens = tokens} lexed lists) (lexed_document {tokens = its_tokens} too others) =
    (tokens_once _ [] 0 tokens.items its_tokens.items lexed too, tokens_determined lists others)

moved : {m n at : ℕ} (lists others : List (Vec Token)) → ListsAgree VectorsEqual lists others →
    IsFirstIn AreUnitTokens (λ x. IsDocumentFault x.items at) m lists n →
    IsFirstIn AreUnitTokens (λ x. IsDocumentFault x.items at) m others n
moved [] others a first = elim first [ ]
moved (x ∷ xs) [] a first = absurd a
moved {at = at} (x ∷ xs) (y ∷ ys) a (here fault) = here (subst (λ ts. IsDocumentFault ts at) a.0 fault)
moved {m = m} (x ∷ xs) (y ∷ ys) a (behind sound rest) = behind
    (sound.0, subst (λ ts. AreUnits ts (map unit_term sound.0)) a.0 sound.1) (moved {m = m + 1} xs ys a.1 rest)

one_syntax : {lists others : List (Vec Token)} {document token its_document its_token : ℕ} →
    ListsAgree VectorsEqual lists others → IsFirstSyntaxFault lists (Syntax document token) →
    IsFirstSyntaxFault others (Syntax its_document its_token) → (document ≡ its_document) × (token ≡ its_token)
one_syntax {lists} {others} {token = token} {its_token = its_token} a one two =
    let found = first_once {One = λ (x : Vec Token). IsDocumentFault x.items token}
    {Other = λ (x : Vec Token). IsDocumentFault x.items its_token}
    (λ x units fault. fault.unspelt (map unit_term units.0) units.1.spelt)
    (λ x units fault. fault.unspelt (map unit_term units.0) units.1.spelt) (moved lists others a one) two in
    let most = found.1.1.furthest its_token found.1.2.begun in
    let least = found.1.2.furthest token found.1.1.begun in
    (found.0, omega (arith, most, least))

tokens_at : (lists others : List (Vec Token)) → ListsAgree VectorsEqual lists others → (k : ℕ) →
    OptionsAgree VectorsEqual (slice_get lists k) (slice_get others k)
tokens_at [] [] a k = tt
tokens_at [] (y ∷ ys) a k = absurd a
tokens_at (x ∷ xs) [] a k = absurd a
tokens_at (x ∷ xs) (y ∷ ys) a zero = a.0
tokens_at (x ∷ xs) (y ∷ ys) a (suc k) = tokens_at xs ys a.1 k

one_line : (doc : Option Doc) (x y : Option (Vec Token)) (at : ℕ) → OptionsAgree VectorsEqual x y →
    line_among doc x at ≡ line_among doc y at
one_line None x y at a = refl
one_line (Some doc) None None at a = refl
one_line (Some doc) None (Some y) at a = absurd a
one_line (Some doc) (Some x) None at a = absurd a
one_line (Some doc) (Some x) (Some y) at a = ap (λ ts. line_of_token doc.bytes.items (slice_get ts at)) a

-- ---- classes

first_alike : {ms others : List ModuleTerm} {linked other : Linked} {document place : ℕ} {kind : Kind} →
    ms ≡ others → AreAlike linked other → AreAlike other linked → TellsClasses others other document place kind →
    TellsClasses ms linked document place kind
first_alike {ms} {others} {linked} {other} {document} {place} {kind} same alike back told = record {
  fault = told.fault;
  first = moved_back (subst (λ xs. IsFirstClassFault xs other told.fault document place) (sym same) told.first);
  told = told.told;
}
  where
    moved_back : {fault : ClassFault} → IsFirstClassFault ms other fault document place →
        IsFirstClassFault ms linked fault document place
    moved_back {fault} first = record {
      there = same_faults ms fault document place back alike first.there;
      least = λ f d t has. first.least f d t (same_faults ms f d t alike back has);
    }

-- ---- one fault

module _ (docs : List Doc) where
  at_one_place : {document place line its_document its_place its_line : ℕ} → document ≡ its_document →
      place ≡ its_place → line ≡ line_at docs document place → its_line ≡ line_at docs its_document its_place →
      line ≡ its_line
  at_one_place document place is too = is ∙ (λ i. line_at docs (document i) (place i)) ∙ sym too

  same_module_fault : {ms others : List ModuleTerm} {document place line its_document its_place its_line : ℕ}
      {kind its_kind : Kind} → ms ≡ others → TellsModules ms document place kind →
      TellsModules others its_document its_place its_kind → line ≡ line_at docs document place →
      its_line ≡ line_at docs its_document its_place → IsOneFault document line kind its_document its_line its_kind
  same_module_fault {its_document = d} {its_place = p} {its_kind = k} same one two is too =
      let other = subst (λ xs. TellsModules xs d p k) (sym same) two in
      let found = one_of_modules one.first other.first in
      record {
        documents = found.documents;
        lines = at_one_place found.documents found.tokens is too;
        kinds = one.told ∙ ap module_kind found.ranks ∙ sym other.told;
      }

  same_label_fault : {parts others : PartTerms} {document place line its_document its_place its_line : ℕ}
      {kind its_kind : Kind} → parts ≡ others → TellsLabels parts document place kind →
      TellsLabels others its_document its_place its_kind → line ≡ line_at docs document place →
      its_line ≡ line_at docs its_document its_place → IsOneFault document line kind its_document its_line its_kind
  same_label_fault {its_document = d} {its_place = p} {its_kind = k} same one two is too =
      let other = subst (λ xs. TellsLabels xs d p k) (sym same) two in
      let found = one_of_labels one.first other.first in
      record {
        documents = found.documents;
        lines = at_one_place found.documents found.tokens is too;
        kinds = one.told ∙ ap label_kind found.ranks ∙ sym other.told;
      }

  same_class_fault : {ms : List ModuleTerm} {linked : Linked}
      {document place line its_document its_place its_line : ℕ} {kind its_kind : Kind} →
      TellsClasses ms linked document place kind → TellsClasses ms linked its_document its_place its_kind →
      line ≡ line_at docs document place → its_line ≡ line_at docs its_document its_place →
      IsOneFault document line kind its_document its_line its_kind
  same_class_fault one other is too =
      let found = one_of_classes one.first other.first in
      record {
        documents = found.documents;
        lines = at_one_place found.documents found.tokens is too;
        kinds = one.told ∙ ap class_kind found.ranks ∙ sym other.told;
      }

  same_lexing : {document place line its_document its_place its_line : ℕ} {fault other : LexKind}
      {kind its_kind : Kind} → IsFirstFault docs (Lexing document place fault) →
      IsFirstFault docs (Lexing its_document its_place other) → kind ≡ lexing_kind fault →
      its_kind ≡ lexing_kind other → line ≡ line_at docs document place →
      its_line ≡ line_at docs its_document its_place → IsOneFault document line kind its_document its_line its_kind
  same_lexing one two is_kind its_kind is too =
      let found = one_lexing one two in
      record {
        documents = found.0;
        lines = at_one_place found.0 found.1 is too;
        kinds = is_kind ∙ ap lexing_kind found.2 ∙ sym its_kind;
      }

  same_syntax : {lists others : List (Vec Token)} {document token line its_document its_token its_line : ℕ}
      {kind its_kind told : Kind} → AreLexed docs lists → AreLexed docs others →
      IsFirstSyntaxFault lists (Syntax document token) → IsFirstSyntaxFault others (Syntax its_document its_token) →
      kind ≡ told → its_kind ≡ told → line ≡ line_at_token docs lists document token →
      its_line ≡ line_at_token docs others its_document its_token →
      IsOneFault document line kind its_document its_line its_kind
  same_syntax {lists} {others} {its_document = d} {its_token = t} lexed again one two is_kind its_kind is too =
      let a = tokens_determined lexed again in
      let found = one_syntax a one two in
      record {
        documents = found.0;
        lines = is ∙ (λ i. line_at_token docs lists (found.0 i) (found.1 i))
            ∙ one_line (numbered docs d) (numbered lists d) (numbered others d) t (tokens_at lists others a (d - 1))
            ∙ sym too;
        kinds = is_kind ∙ sym its_kind;
      }

-- documents have one fault at most
pub one_fault : {docs : List Doc} {document line its_document its_line : ℕ} {kind its_kind : Kind} →
    IsTold docs document line kind → IsTold docs its_document its_line its_kind →
    IsOneFault document line kind its_document its_line its_kind
one_fault {docs} (of_lexing one is_kind is) (of_lexing two its_kind too) =
    same_lexing docs one two is_kind its_kind is too
one_fault (of_lexing one _ _) (of_syntax lexed _ _ _) = absurd (never_lexing lexed one)
one_fault (of_lexing one _ _) (of_modules said _ _ _) = absurd (never_lexing said.lexed one)
one_fault (of_lexing one _ _) (of_labels resolved _ _ _) = absurd (never_lexing resolved.said.lexed one)
one_fault (of_lexing one _ _) (of_classes linked _ _ _) =
    absurd (never_lexing linked.referenced.resolved.said.lexed one)
one_fault (of_syntax lexed _ _ _) (of_lexing two _ _) = absurd (never_lexing lexed two)
one_fault {docs} (of_syntax lexed one is_kind is) (of_syntax again two its_kind too) =
    same_syntax docs lexed again one two is_kind its_kind is too
one_fault (of_syntax lexed one _ _) (of_modules said _ _ _) = absurd (never_syntax said.lexed said.read lexed one)
one_fault (of_syntax lexed one _ _) (of_labels resolved _ _ _) =
    absurd (never_syntax resolved.said.lexed resolved.said.read lexed one)
one_fault (of_syntax lexed one _ _) (of_classes linked _ _ _) =
    let said = linked.referenced.resolved.said in
    absurd (never_syntax said.lexed said.read lexed one)
one_fault (of_modules said _ _ _) (of_lexing two _ _) = absurd (never_lexing said.lexed two)
one_fault (of_modules said _ _ _) (of_syntax lexed two _ _) = absurd (never_syntax said.lexed said.read lexed two)
one_fault {docs} (of_modules said one tells is) (of_modules other two told too) = same_module_fault docs
    (modules_determined said other) (modules_told one tells) (modules_told two told) is too
one_fault (of_modules said one tells _) (of_labels resolved _ _ _) = absurd (never_modules
    (modules_determined resolved.said said) resolved.faultless (modules_told one tells).first)
one_fault (of_modules said one tells _) (of_classes linked _ _ _) =
    let resolved = linked.referenced.resolved in
    absurd (never_modules (modules_determined resolved.said said) resolved.faultless (modules_told one tells).first)
one_fault (of_labels resolved _ _ _) (of_lexing two _ _) = absurd (never_lexing resolved.said.lexed two)
one_fault (of_labels resolved _ _ _) (of_syntax lexed two _ _) =
    absurd (never_syntax resolved.said.lexed resolved.said.read lexed two)
one_fault (of_labels resolved _ _ _) (of_modules said two told _) = absurd (never_modules
    (modules_determined resolved.said said) resolved.faultless (modules_told two told).first)
one_fault {docs} (of_labels resolved one tells is) (of_labels other two told too) = same_label_fault docs
    (parts_determined resolved.said other.said) (labels_told one tells) (labels_told two told) is too
one_fault (of_labels resolved one tells _) (of_classes linked _ _ _) = absurd (never_references
    (parts_determined linked.referenced.resolved.said resolved.said) linked.referenced.have_targets
    (labels_told one tells).first)
one_fault (of_classes linked _ _ _) (of_lexing two _ _) =
    absurd (never_lexing linked.referenced.resolved.said.lexed two)
one_fault (of_classes linked _ _ _) (of_syntax lexed two _ _) =
    let said = linked.referenced.resolved.said in
    absurd (never_syntax said.lexed said.read lexed two)
one_fault (of_classes linked _ _ _) (of_modules said two told _) =
    let resolved = linked.referenced.resolved in
    absurd (never_modules (modules_determined resolved.said said) resolved.faultless (modules_told two told).first)
one_fault (of_classes linked _ _ _) (of_labels resolved two told _) = absurd (never_references
    (parts_determined linked.referenced.resolved.said resolved.said) linked.referenced.have_targets
    (labels_told two told).first)
one_fault {docs} (of_classes linked one tells is) (of_classes other two told too) =
    let alike = linked_determined linked other in
    let same = modules_determined linked.referenced.resolved.said other.referenced.resolved.said in
    same_class_fault docs (classes_told one tells) (first_alike same alike.0 alike.1 (classes_told two told)) is too

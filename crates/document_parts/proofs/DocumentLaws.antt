-- DocumentLaws: what was read of a set of documents, and what is left.
use Rattle.std.proofs.Common.{◌≡◌, ℕ, ◌<◌, ◌≤◌, ◌+◌, List, [], ◌∷◌, ◌++◌, refl, sym, ◌∙◌, ap, arith, length, map, drop}
use Rattle.std.proofs.Common.{subst, get_or, suc}
use Rattle.std.proofs.lemmas.List.{append_assoc, append-nil, drop_more}
use Rattle.std.proofs.Math.ListN.{drop_of_length-le}
use Rattle.std.specs.Prelude.{flat_map}
use Rattle.std.specs.Global.{Vec}
use Rattle.token_grammar.specs.declared.token.Token.{Token}
use Rattle.text_lex.specs.declared.lex_refusal.LexKind.{LexKind}
use Rattle.text_lex.specs.declared.lex_refusal.LexRefusal.{LexRefusal}
use Rattle.text_lex.specs.declared.lex_refusal.LexRefusal.TheVariants as L
use Rattle.token_grammar.specs.declared.syntax_refusal.SyntaxRefusal.{SyntaxRefusal}
use Rattle.token_grammar.specs.declared.syntax_refusal.SyntaxRefusal.TheVariants as S
use Rattle.text_lex.specs.Lexed.{AreTokensOf, IsRefused}
use Rattle.document_units.specs.declared.unit.DocumentUnit.{DocumentUnit}
use Rattle.document_units.specs.DocumentForms.{AreUnits, IsDocumentFault}
use Rattle.document_units.specs.UnitOutcome.{unit_term}
use Rattle.gdmo_names.specs.declared.parsed.Parsed.{Parsed}
use Rattle.document_parts.specs.declared.documents.Doc.{Doc}
use Rattle.document_parts.specs.DocumentParts.{AreParts, Gathers, classes_in, in_documents, members_in, modules_in}
use Rattle.document_parts.specs.DocumentParts.{sections_in}
use Rattle.document_parts.specs.declared.document_refusal.DocumentRefusal.{DocumentRefusal}
use Rattle.document_parts.specs.ReadDocuments.{AreLexed, AreRead, AreUnitTokens, IsFirstFault, IsFirstIn}
use Rattle.document_parts.specs.ReadDocuments.{IsFirstSyntaxFault}
use Rattle.document_parts.specs.ReadDocuments.{IsLexed, refusal_of_lexing, refusal_of_syntax}
use Rattle.document_parts.specs.ReadDocuments.AreLexed.{document as lexed_document, no_document as lexed_end}
use Rattle.document_parts.specs.ReadDocuments.AreRead.{document as read_document, no_document as read_end}
use Rattle.document_parts.specs.ReadDocuments.IsFirstIn.{behind, here}

-- ---- what is left of a list

pub rest_here : {X : Type 0} (xs : List X) (i : ℕ) (x : X) → i < length xs → x ≡ get_or xs i x →
    drop i xs ≡ x ∷ drop (i + 1) xs
rest_here xs i x within is = drop_more xs i x within ∙ ap (λ y. y ∷ drop (i + 1) xs) (sym is)

pub rest_gone : {X : Type 0} (xs : List X) (i : ℕ) → length xs ≤ i → drop i xs ≡ []
rest_gone xs i past = drop_of_length-le xs past

-- ---- the parts of one document more

behind_none : (n m : ℕ) → m ≡ 0 + n → m ≡ n
behind_none n m e = omega (arith, e)

behind_one : (n m k : ℕ) → m ≡ suc k + n → m ≡ k + (n + 1)
behind_one n m k e = omega (arith, e)

one_more : {X : Type 0} (kind : ℕ → DocumentUnit → List X) (n m : ℕ) (documents : List (List DocumentUnit))
    (us : List DocumentUnit) → m ≡ length documents + n →
    in_documents kind n (documents ++ us ∷ []) ≡ in_documents kind n documents ++ flat_map (kind m) us
one_more kind n m [] us e = append-nil (flat_map (kind n) us) ∙ ap (λ k. flat_map (kind k) us) (sym (behind_none n m e))
one_more kind n m (vs ∷ documents) us e = ap (λ xs. flat_map (kind n) vs ++ xs)
    (one_more kind (n + 1) m documents us (behind_one n m (length documents) e))
    ∙ sym (append_assoc (flat_map (kind n) vs) (in_documents kind (n + 1) documents) (flat_map (kind m) us))

parts_more : {n : ℕ} {documents : List (List DocumentUnit)} {us : List DocumentUnit} {before after : Parsed} →
    n ≡ length documents + 1 → AreParts documents before → Gathers n us before after →
    AreParts (documents ++ us ∷ []) after
parts_more {n} {documents} {us} e so_far gathers = record {
  modules = gathers.modules ∙ (ap (λ xs. xs ++ flat_map (modules_in n) us) so_far.modules
      ∙ sym (one_more modules_in 1 n documents us e));
  classes = gathers.classes ∙ (ap (λ xs. xs ++ flat_map (classes_in n) us) so_far.classes
      ∙ sym (one_more classes_in 1 n documents us e));
  members = gathers.members ∙ (ap (λ xs. xs ++ flat_map (members_in n) us) so_far.members
      ∙ sym (one_more members_in 1 n documents us e));
  sections = gathers.sections ∙ (ap (λ xs. xs ++ flat_map (sections_in n) us) so_far.sections
      ∙ sym (one_more sections_in 1 n documents us e));
}

length_more : {X : Type 0} (xs : List X) (x : X) → length (xs ++ x ∷ []) ≡ length xs + 1
length_more [] x = refl
length_more (y ∷ xs) x = one_longer (length (xs ++ x ∷ [])) (length xs) (length_more xs x)
  where
    one_longer : (k n : ℕ) → k ≡ n + 1 → suc k ≡ suc n + 1
    one_longer k n e = omega (arith, e)

-- ---- the units of documents

-- the first i documents were read
pub record AreReadUpTo (lists : List (Vec Token)) (i number : ℕ) (parts : Parsed) : Type 0 where
  pub documents : List (List DocumentUnit)
  pub counted : number ≡ i
  pub many : number ≡ length documents
  pub read : (others : List (List DocumentUnit)) → AreRead (drop i lists) others → AreRead lists (documents ++ others)
  pub gathered : AreParts documents parts
  pub fault : (k n : ℕ) → IsFirstIn AreUnitTokens (λ x. IsDocumentFault x.items k) (number + 1) (drop i lists) n →
      IsFirstIn AreUnitTokens (λ x. IsDocumentFault x.items k) 1 lists n

pub read_start : (lists : List (Vec Token)) (parts : Parsed) → parts.modules.items ≡ [] → parts.classes.items ≡ [] →
    parts.members.items ≡ [] → parts.sections.items ≡ [] → AreReadUpTo lists 0 0 parts
read_start lists parts no_module no_class no_member no_section = record {
  documents = [];
  counted = refl;
  many = refl;
  read = λ others r. r;
  gathered = record { modules = no_module; classes = no_class; members = no_member; sections = no_section };
  fault = λ k n f. f;
}

pub read_step : {lists : List (Vec Token)} {i number : ℕ} {tokens : Vec Token} {before after : Parsed} →
    AreReadUpTo lists i number before → drop i lists ≡ tokens ∷ drop (i + 1) lists →
    (us : List DocumentUnit) × AreUnits tokens.items (map unit_term us) × Gathers (number + 1) us before after →
    AreReadUpTo lists (i + 1) (number + 1) after
read_step {lists} {i} {number} {tokens} so_far next one = record {
  documents = so_far.documents ++ one.0 ∷ [];
  counted = ap (λ k. k + 1) so_far.counted;
  many = ap (λ k. k + 1) so_far.many ∙ sym (length_more so_far.documents one.0);
  read = λ others r. subst (λ ds. AreRead lists ds) (sym (append_assoc so_far.documents (one.0 ∷ []) others))
      (so_far.read (one.0 ∷ others) (subst (λ ts. AreRead ts (one.0 ∷ others)) (sym next) (read_document one.1 r)));
  gathered = parts_more (ap (λ k. k + 1) so_far.many) so_far.gathered one.2;
  fault = λ k n f. so_far.fault k n
      (subst (λ ts. IsFirstIn AreUnitTokens (λ x. IsDocumentFault x.items k) (number + 1) ts n)
      (sym next) (behind (one.0, one.1) f));
}

pub all_documents : {lists : List (Vec Token)} {i number : ℕ} {parts : Parsed} → AreReadUpTo lists i number parts →
    drop i lists ≡ [] → (documents : List (List DocumentUnit)) × AreRead lists documents × AreParts documents parts
all_documents {lists} so_far end = (
  so_far.documents,
  subst (λ ds. AreRead lists ds) (append-nil so_far.documents)
      (so_far.read [] (subst (λ ts. AreRead ts []) (sym end) read_end)),
  so_far.gathered,
)

pub syntax_fault : {lists : List (Vec Token)} {i number k : ℕ} {tokens : Vec Token} {parts : Parsed} →
    AreReadUpTo lists i number parts → drop i lists ≡ tokens ∷ drop (i + 1) lists → IsDocumentFault tokens.items k →
    IsFirstIn AreUnitTokens (λ x. IsDocumentFault x.items k) 1 lists (number + 1)
syntax_fault {lists} {i} {number} {k} so_far next fault = so_far.fault k (number + 1)
    (subst (λ ts. IsFirstIn AreUnitTokens (λ x. IsDocumentFault x.items k) (number + 1) ts (number + 1)) (sym next)
    (here fault))

-- ---- the tokens of documents

-- the first i documents were lexed
pub record AreLexedUpTo (documents : List Doc) (i number : ℕ) (lists : List (Vec Token)) : Type 0 where
  pub counted : number ≡ i
  pub lexed : (others : List (Vec Token)) → AreLexed (drop i documents) others → AreLexed documents (lists ++ others)
  pub fault : (at : ℕ) (kind : LexKind) (n : ℕ) →
      IsFirstIn IsLexed (λ x. IsRefused x.bytes.items (L.Fault at kind)) (number + 1) (drop i documents) n →
      IsFirstIn IsLexed (λ x. IsRefused x.bytes.items (L.Fault at kind)) 1 documents n

pub lexed_start : (documents : List Doc) → AreLexedUpTo documents 0 0 []
lexed_start documents = record { counted = refl; lexed = λ others r. r; fault = λ at kind n f. f }

pub lexed_step : {documents : List Doc} {i number : ℕ} {x : Doc} {lists : List (Vec Token)} (tokens : Vec Token) →
    AreLexedUpTo documents i number lists → drop i documents ≡ x ∷ drop (i + 1) documents →
    AreTokensOf x.bytes.items tokens.items →
    AreLexedUpTo documents (i + 1) (number + 1) (lists ++ tokens ∷ [])
lexed_step {documents} {i} {number} {x} {lists} tokens so_far next one = record {
  counted = ap (λ k. k + 1) so_far.counted;
  lexed = λ others r. subst (λ ts. AreLexed documents ts) (sym (append_assoc lists (tokens ∷ []) others))
      (so_far.lexed (tokens ∷ others) (subst (λ ds. AreLexed ds (tokens ∷ others)) (sym next) (lexed_document one r)));
  fault = λ at kind n f. so_far.fault at kind n
      (subst (λ ds. IsFirstIn IsLexed (λ y. IsRefused y.bytes.items (L.Fault at kind)) (number + 1) ds n) (sym next)
      (behind (tokens.items, one) f));
}

pub all_lexed : {documents : List Doc} {i number : ℕ} {lists : List (Vec Token)} →
    AreLexedUpTo documents i number lists → drop i documents ≡ [] → AreLexed documents lists
all_lexed {documents} {i} {number} {lists} so_far end = subst (λ ts. AreLexed documents ts) (append-nil lists)
    (so_far.lexed [] (subst (λ ds. AreLexed ds []) (sym end) lexed_end))

pub lexing_fault : {documents : List Doc} {i number at : ℕ} {kind : LexKind} {x : Doc} {lists : List (Vec Token)} →
    AreLexedUpTo documents i number lists → drop i documents ≡ x ∷ drop (i + 1) documents →
    IsRefused x.bytes.items (L.Fault at kind) →
    IsFirstIn IsLexed (λ y. IsRefused y.bytes.items (L.Fault at kind)) 1 documents (number + 1)
lexing_fault {documents} {i} {number} {at} {kind} so_far next fault = so_far.fault at kind (number + 1)
    (subst (λ ds. IsFirstIn IsLexed (λ y. IsRefused y.bytes.items (L.Fault at kind)) (number + 1) ds (number + 1))
    (sym next) (here fault))

-- ---- refusals

pub lexing_refused : {documents : List Doc} {i number : ℕ} {x : Doc} {lists : List (Vec Token)} (octets : List ℕ)
    (r : LexRefusal) (result : DocumentRefusal) → AreLexedUpTo documents i number lists →
    drop i documents ≡ x ∷ drop (i + 1) documents → octets ≡ x.bytes.items → IsRefused octets r →
    result ≡ refusal_of_lexing (number + 1) r → IsFirstFault documents result
lexing_refused {documents} octets (L.Fault at kind) result so_far next same refused e =
    subst (λ d. IsFirstFault documents d) (sym e)
    (lexing_fault so_far next (subst (λ xs. IsRefused xs (L.Fault at kind)) same refused))
lexing_refused {documents} octets L.Memory result so_far next same refused e =
    subst (λ d. IsFirstFault documents d) (sym e) tt

pub syntax_refused : {lists : List (Vec Token)} {i number : ℕ} {tokens : Vec Token} {parts : Parsed} (seen : List Token)
    (r : SyntaxRefusal) (result : DocumentRefusal) → AreReadUpTo lists i number parts →
    drop i lists ≡ tokens ∷ drop (i + 1) lists → seen ≡ tokens.items →
    ((k : ℕ) → r ≡ S.Syntax k → IsDocumentFault seen k) → result ≡ refusal_of_syntax (number + 1) r →
    IsFirstSyntaxFault lists result
syntax_refused {lists} seen (S.Syntax k) result so_far next same fails e =
    subst (λ d. IsFirstSyntaxFault lists d) (sym e)
    (syntax_fault so_far next (subst (λ xs. IsDocumentFault xs k) same (fails k refl)))
syntax_refused {lists} seen S.Memory result so_far next same fails e =
    subst (λ d. IsFirstSyntaxFault lists d) (sym e) tt

-- the same tokens
pub units_same : {n : ℕ} {before after : Parsed} (seen tokens : List Token) → seen ≡ tokens →
    (us : List DocumentUnit) × AreUnits seen (map unit_term us) × Gathers n us before after →
    (us : List DocumentUnit) × AreUnits tokens (map unit_term us) × Gathers n us before after
units_same seen tokens same one = (one.0, subst (λ xs. AreUnits xs (map unit_term one.0)) same one.1, one.2)

-- ReadDocuments: what the reading of a set of documents answers: what they say, or the first fault, by document and
-- place (X.722, section 8.2; docs/PROFILE.md, sections 1 and 2).
use Rattle.std.specs.Prelude.{◌≡◌, ℕ, ◌+◌, List, [], ◌∷◌, Result, Ok, Err, map}
use Rattle.std.specs.Global.{Vec}
use Rattle.token_grammar.specs.declared.syntax_refusal.SyntaxRefusal.{SyntaxRefusal}
use Rattle.token_grammar.specs.declared.syntax_refusal.SyntaxRefusal.TheVariants as S
use Rattle.token_grammar.specs.declared.token.Token.{Token}
use Rattle.text_lex.specs.declared.lex_refusal.LexRefusal.{LexRefusal}
use Rattle.text_lex.specs.declared.lex_refusal.LexRefusal.TheVariants as L
use Rattle.text_lex.specs.Lexed.{AreTokensOf, IsRefused}
use Rattle.document_units.specs.declared.unit.DocumentUnit.{DocumentUnit}
use Rattle.document_units.specs.DocumentForms.{AreUnits, IsDocumentFault, IsStep, IsFaultHere}
use Rattle.document_units.specs.UnitOutcome.{unit_term}
use Rattle.gdmo_names.specs.declared.parsed.Parsed.{Parsed}
use Rattle.document_parts.specs.declared.document_refusal.DocumentRefusal.{DocumentRefusal}
use Rattle.document_parts.specs.declared.document_refusal.DocumentRefusal.TheVariants.{Lexing, Syntax, Memory}
use Rattle.document_parts.specs.declared.documents.Doc.{Doc}
use Rattle.document_parts.specs.DocumentParts.{AreParts, Gathers}

abbrev pub refusal_of_lexing : ℕ → LexRefusal → DocumentRefusal
refusal_of_lexing n (L.Fault at kind) = Lexing n at kind
refusal_of_lexing n L.Memory = Memory

abbrev pub refusal_of_syntax : ℕ → SyntaxRefusal → DocumentRefusal
refusal_of_syntax n (S.Syntax token) = Syntax n token
refusal_of_syntax n S.Memory = Memory

-- these are the tokens of the documents, in their order
pub data AreLexed : List Doc → List (Vec Token) → Type 0 where
  no_document : AreLexed [] []
  document : {x : Doc} {tokens : Vec Token} {xs : List Doc} {lists : List (Vec Token)} →
      AreTokensOf x.bytes.items tokens.items → AreLexed xs lists → AreLexed (x ∷ xs) (tokens ∷ lists)

-- these are the units of the documents that have these tokens, in their order
pub data AreRead : List (Vec Token) → List (List DocumentUnit) → Type 0 where
  no_document : AreRead [] []
  document : {tokens : Vec Token} {us : List DocumentUnit} {lists : List (Vec Token)}
      {documents : List (List DocumentUnit)} → AreUnits tokens.items (map unit_term us) → AreRead lists documents →
      AreRead (tokens ∷ lists) (us ∷ documents)

-- the document with the number n, counted from m, has the fault, and each before it is as it should be
pub data IsFirstIn {X : Type 0} (Sound : X → Type 0) (Faulty : X → Type 0) : ℕ → List X → ℕ → Type 0 where
  here : {m : ℕ} {x : X} {xs : List X} → Faulty x → IsFirstIn Sound Faulty m (x ∷ xs) m
  behind : {m n : ℕ} {x : X} {xs : List X} → Sound x → IsFirstIn Sound Faulty (m + 1) xs n →
      IsFirstIn Sound Faulty m (x ∷ xs) n

-- a document that has tokens
abbrev pub IsLexed : Doc → Type 0
IsLexed x = (tokens : List Token) × AreTokensOf x.bytes.items tokens

-- tokens that are units
abbrev pub AreUnitTokens : Vec Token → Type 0
AreUnitTokens tokens = (us : List DocumentUnit) × AreUnits tokens.items (map unit_term us)

abbrev pub IsFirstFault : List Doc → DocumentRefusal → Type 0
IsFirstFault xs (Lexing n at kind) = IsFirstIn IsLexed (λ x. IsRefused x.bytes.items (L.Fault at kind)) 1 xs n
IsFirstFault xs (Syntax n token) = ⊥
IsFirstFault xs Memory = Unit {0}

abbrev pub IsFirstSyntaxFault : List (Vec Token) → DocumentRefusal → Type 0
IsFirstSyntaxFault xs (Lexing n at kind) = ⊥
IsFirstSyntaxFault xs (Syntax n token) = IsFirstIn AreUnitTokens (λ x. IsDocumentFault x.items token) 1 xs n
IsFirstSyntaxFault xs Memory = Unit {0}

-- what the lexing of all documents answers
abbrev pub LexesAll : List Doc → Result (Vec (Vec Token)) DocumentRefusal → Type 0
LexesAll xs (Ok lists) = AreLexed xs lists.items
LexesAll xs (Err refusal) = IsFirstFault xs refusal

-- what the reading of all documents answers
abbrev pub ReadsAll : List (Vec Token) → Result Parsed DocumentRefusal → Type 0
ReadsAll lists (Ok parts) = (documents : List (List DocumentUnit)) × AreRead lists documents × AreParts documents parts
ReadsAll lists (Err refusal) = IsFirstSyntaxFault lists refusal

-- one document
abbrev pub GathersUnits : List Token → ℕ → Parsed → Parsed → Result Unit SyntaxRefusal → Type 0
GathersUnits tokens n before after (Ok _) =
    (us : List DocumentUnit) × AreUnits tokens (map unit_term us) × Gathers n us before after
GathersUnits tokens n before after (Err e) = (k : ℕ) → e ≡ S.Syntax k → IsDocumentFault tokens k

-- one step of it: an empty semicolon, or one unit more
abbrev pub GathersNext : List Token → ℕ → ℕ → Parsed → Parsed → Result ℕ SyntaxRefusal → Type 0
GathersNext tokens i n before after (Ok k) =
    (us : List DocumentUnit) × IsStep tokens i [] us k × Gathers n us before after
GathersNext tokens i n before after (Err e) = (k : ℕ) → e ≡ S.Syntax k → IsFaultHere tokens i k

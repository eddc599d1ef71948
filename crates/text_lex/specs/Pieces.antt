-- What a document goes on with at a place: a gap, a token or a fault. X.722, section 8.2.
use Rattle.std.specs.Prelude.{◌≡◌, ℕ, ◌+◌, ◌<◌, ◌≤◌, List, Bool, length, slice_index}
use Rattle.text_lex.specs.Octets.{start_of}
use Rattle.text_lex.specs.Comments.{AreHyphens, CommentRest}
use Rattle.text_lex.specs.Lexemes.{Spells}
use Rattle.text_lex.specs.declared.lexing_octets.Start.{Start}
use Rattle.text_lex.specs.declared.lexing_octets.Start.TheVariants.{Blank, Delimiter, Letter, Digit, Apostrophe, Sign}
use Rattle.text_lex.specs.declared.lexing_octets.Start.TheVariants.{Nothing}
use Rattle.text_lex.specs.declared.lex_refusal.LexKind.{LexKind}
use Rattle.text_lex.specs.declared.lex_refusal.LexKind.TheVariants.{BadByte, OpenString, BadNumber, BadBits}
use Rattle.text_lex.specs.declared.lexing_pieces.Piece.{Piece}
use Rattle.text_lex.specs.declared.lexing_pieces.Piece.TheVariants.{Gap, Lexeme, Wrong}

-- from i to k stands one blank or one comment
pub data IsGap (text : List ℕ) (announced : Bool) (i k : ℕ) : Type 0 where
  blank : start_of announced (slice_index text i) ≡ Blank → k ≡ i + 1 → IsGap text announced i k
  comment : AreHyphens text i → CommentRest text (i + 2) k → IsGap text announced i k

-- from i to k stands a token of a kind, which begins no comment and than which none is longer there
pub record IsLexeme (text : List ℕ) (announced : Bool) (kind i k : ℕ) : Type 0 where
  pub no_comment : ¬ AreHyphens text i
  pub spelt : Spells text announced kind i k
  pub longest : (other m : ℕ) → Spells text announced other i m → m ≤ k
  pub within : k ≤ length text

-- what is wrong where an octet begins no token
abbrev pub fault_of : Start → LexKind
fault_of Delimiter = OpenString
fault_of Digit = BadNumber
fault_of Apostrophe = BadBits
fault_of Blank = BadByte
fault_of Letter = BadByte
fault_of Sign = BadByte
fault_of Nothing = BadByte

-- at i the text goes on with no gap and no token
pub record IsFault (text : List ℕ) (announced : Bool) (i : ℕ) (kind : LexKind) : Type 0 where
  pub within : i < length text
  pub no_gap : (k : ℕ) → ¬ IsGap text announced i k
  pub no_token : (other k : ℕ) → ¬ Spells text announced other i k
  pub kind_is : kind ≡ fault_of (start_of announced (slice_index text i))

-- what the code finds at a place
abbrev pub IsPiece : List ℕ → Bool → ℕ → Piece → Type 0
IsPiece text announced i (Gap end) = IsGap text announced i end × (i < end) × (end ≤ length text)
IsPiece text announced i (Lexeme kind end) = IsLexeme text announced kind i end × (i < end)
IsPiece text announced i (Wrong kind) = IsFault text announced i kind

-- the same where no comment begins and the octet begins this
abbrev pub IsPieceFrom : Start → List ℕ → ℕ → Piece → Type 0
IsPieceFrom start text i piece =
    (announced : Bool) → ¬ AreHyphens text i → start_of announced (slice_index text i) ≡ start
    → IsPiece text announced i piece

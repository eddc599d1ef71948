-- DefaultTexts: which texts of DEFAULT stand beside the syntax of a type, and where: a component is told by its number
-- in its SEQUENCE or SET, from the outermost one to its own (X.680, section 25.1; docs/PROFILE.md, section 11).
use Rattle.std.specs.Prelude.{◌≡◌, ℕ, zero, suc, List, [], ◌∷◌, Option, None, Some}
use Rattle.token_grammar.specs.declared.token.Token.{Token}
use Rattle.token_grammar.specs.Form.{Tree}
use Rattle.term_values.specs.Syntaxes.{TypeSyntax, TypeParts}
use Rattle.term_values.specs.Syntaxes.TypeSyntax.{Sequence, SetType, SequenceOf, SetOf, Choice, Tagged}
use Rattle.term_values.specs.Syntaxes.TypeParts.{NoParts, Part}
use Rattle.asn1_names.specs.ModuleTerms.{RangeTerm, LimitTerm, TagTerm, PresenceTerm, TypeTerm, MemberTerms}
use Rattle.asn1_names.specs.ModuleTerms.{ModuleTerm}
use Rattle.asn1_names.specs.ModuleTerms.PresenceTerm.{DefaultTerm}
use Rattle.asn1_names.specs.ModuleTerms.TypeTerm.{Under, Structure, Repeated, Alternatives, Reference}
use Rattle.asn1_names.specs.Containment.{IsMember}
use Rattle.asn1_names.specs.NameMeaning.{reference_meaning}
use Rattle.asn1_names.specs.NameMeaning.Meaning.{TypeAt}

-- in a type of the module at the place m the component at this path has DEFAULT with this text, which is written in the
-- module at the place v
pub data HasDefault (ms : List ModuleTerm) : ℕ → TypeTerm → List ℕ → ℕ → Tree → Type 0 where
  here : {m k : ℕ} {word : Token} {members : MemberTerms} {limits : List LimitTerm} {of : TypeTerm} {text : Tree} →
      IsMember members k of (DefaultTerm text) → HasDefault ms m (Structure word members limits) (k ∷ []) m text
  component : {m v k : ℕ} {word : Token} {members : MemberTerms} {limits : List LimitTerm} {of : TypeTerm}
      {presence : PresenceTerm} {path : List ℕ} {text : Tree} → IsMember members k of presence →
      HasDefault ms m of path v text → HasDefault ms m (Structure word members limits) (k ∷ path) v text
  alternative : {m v k : ℕ} {word : Token} {members : MemberTerms} {limits : List LimitTerm} {of : TypeTerm}
      {presence : PresenceTerm} {path : List ℕ} {text : Tree} → IsMember members k of presence →
      HasDefault ms m of path v text → HasDefault ms m (Alternatives word members limits) (k ∷ path) v text
  tagged : {m v : ℕ} {tag : TagTerm} {mode : Option Token} {of : TypeTerm} {path : List ℕ} {text : Tree} →
      HasDefault ms m of path v text → HasDefault ms m (Under tag mode of) path v text
  element : {m v : ℕ} {word : Token} {size : Option (List RangeTerm)} {of : TypeTerm} {path : List ℕ} {text : Tree} →
      HasDefault ms m of path v text → HasDefault ms m (Repeated word size of) path v text
  named : {m v w i : ℕ} {module_name : Option Token} {name : Token} {limits : List LimitTerm} {of : TypeTerm}
      {path : List ℕ} {text : Tree} → reference_meaning ms m module_name name ≡ TypeAt v i of →
      HasDefault ms v of path w text → HasDefault ms m (Reference module_name name limits) path w text

-- Which part of a syntax a path tells: of a SEQUENCE, a SET or a CHOICE the one of its first number, and of this the
-- one of the rest; tags, and lists, take no number.
abbrev mutual
  pub part_at : TypeSyntax → List ℕ → Option TypeSyntax
  part_at (Tagged tag explicit of) path = part_at of path
  part_at (SequenceOf member sizes) path = part_at member path
  part_at (SetOf member sizes) path = part_at member path
  part_at (Sequence parts) (k ∷ path) = member_at parts k path
  part_at (SetType parts) (k ∷ path) = member_at parts k path
  part_at (Choice parts) (k ∷ path) = member_at parts k path
  part_at syntax path = None

  -- of the part at the place k the one of the rest; itself where the path ends there
  pub member_at : TypeParts → ℕ → List ℕ → Option TypeSyntax
  member_at NoParts k path = None
  member_at (Part name syntax optional default rest) (suc k) path = member_at rest k path
  member_at (Part name syntax optional default rest) zero [] = Some syntax
  member_at (Part name syntax optional default rest) zero (j ∷ path) = part_at syntax (j ∷ path)

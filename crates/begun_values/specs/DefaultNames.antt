-- DefaultNames: with which first names the values begin that stand behind DEFAULT in a type (X.680, section 25;
-- docs/PROFILE.md, section 12).
use Rattle.std.specs.Prelude.{◌⊎◌, ℕ, zero, suc, List, Option, None, Some}
use Rattle.token_grammar.specs.declared.token.Token.{Token}
use Rattle.token_grammar.specs.Form.{Tree}
use Rattle.term_values.specs.Syntaxes.{TypeSyntax, TypeParts}
use Rattle.term_values.specs.Syntaxes.TypeSyntax.{Sequence, SetType, SequenceOf, SetOf, Choice, Tagged}
use Rattle.term_values.specs.Syntaxes.TypeParts.{NoParts, Part}
use Rattle.asn1_syntax.specs.declared.type_text.Alternative.{Alternative}
use Rattle.asn1_syntax.specs.declared.type_text.Component.{Component}
use Rattle.asn1_names.specs.Containment.{IsMember, Within}
use Rattle.asn1_names.specs.DenotedSyntax.{Denotes}
use Rattle.asn1_names.specs.ModuleTerms.{LimitTerm, MemberTerms, ModuleTerm, PresenceTerm, TypeTerm}
use Rattle.asn1_names.specs.ModuleTerms.PresenceTerm.{DefaultTerm}
use Rattle.asn1_names.specs.ModuleTerms.TypeTerm.{Structure}
use Rattle.asn1_names.specs.TermViews.{presence_term, type_term}
use Rattle.gdmo_begun_names.specs.BegunMarks.{FirstSet}
use Rattle.gdmo_begun_names.specs.PartNames.{MayBeginValue}
use Rattle.begun_values.specs.MeantSyntaxes.{BeginsOf}

-- first names of a text that stands for a value of a type
abbrev pub TextFirsts : Type 1
TextFirsts = TypeTerm → Tree → FirstSet

-- those of a value of the syntax that the type denotes in the module at the place m
abbrev pub DenotedFirsts : List ModuleTerm → ℕ → TextFirsts
DenotedFirsts ms m of text = BeginsOf (Denotes ms m of) text

-- those of braces that can be arcs
abbrev pub MayFirsts : TextFirsts
MayFirsts of text = MayBeginValue text

-- in a type stands a component with DEFAULT, whose text has the first name
pub record DefaultFirsts (Firsts : TextFirsts) (of : TypeTerm) (first : Token) : Type 0 where
  pub word : Token
  pub members : MemberTerms
  pub limits : List LimitTerm
  pub place : ℕ
  pub inner : TypeTerm
  pub text : Tree
  pub within : Within (Structure word members limits) of
  pub stands : IsMember members place inner (DefaultTerm text)
  pub begins : Firsts inner text first

-- the text behind DEFAULT
abbrev pub default_text : PresenceTerm → Option Tree
default_text (DefaultTerm text) = Some text
default_text presence = None

abbrev pub OwnFirsts : TextFirsts → TypeTerm → Option Tree → FirstSet
OwnFirsts Firsts of None first = ⊥
OwnFirsts Firsts of (Some text) first = Firsts of text first

-- those of a component, and of an alternative
abbrev pub ComponentFirsts : TextFirsts → Component → FirstSet
ComponentFirsts Firsts x first = OwnFirsts Firsts (type_term x.of) (default_text (presence_term x.presence)) first
    ⊎ DefaultFirsts Firsts (type_term x.of) first

abbrev pub AlternativeFirsts : TextFirsts → Alternative → FirstSet
AlternativeFirsts Firsts x first = DefaultFirsts Firsts (type_term x.of) first

-- the syntax beneath a tag, or of the elements of a list
abbrev pub syntax_beneath : Option TypeSyntax → Option TypeSyntax
syntax_beneath (Some (Tagged tag explicit of)) = Some of
syntax_beneath (Some (SequenceOf of sizes)) = Some of
syntax_beneath (Some (SetOf of sizes)) = Some of
syntax_beneath _ = None

-- the syntax of the component or alternative at a place
abbrev pub nth_part : TypeParts → ℕ → Option TypeSyntax
nth_part NoParts k = None
nth_part (Part name syntax optional default rest) zero = Some syntax
nth_part (Part name syntax optional default rest) (suc k) = nth_part rest k

abbrev pub parts_in : TypeSyntax → Option TypeParts
parts_in (Sequence parts) = Some parts
parts_in (SetType parts) = Some parts
parts_in (Choice parts) = Some parts
parts_in _ = None

abbrev pub part_of : Option TypeParts → ℕ → Option TypeSyntax
part_of None k = None
part_of (Some parts) k = nth_part parts k

abbrev pub part_at : Option TypeSyntax → ℕ → Option TypeSyntax
part_at None k = None
part_at (Some syntax) k = part_of (parts_in syntax) k

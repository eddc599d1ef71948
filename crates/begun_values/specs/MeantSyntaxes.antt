-- MeantSyntaxes: which syntaxes the code's meaning of a name has, and with which first names a text begins in these
-- (X.680, sections 17 to 32; docs/PROFILE.md, sections 11 and 12).
use Rattle.std.specs.Prelude.{◌≢◌, ◌↔◌, ℕ, List, Option, None, Some}
use Rattle.token_grammar.specs.Form.{Tree}
use Rattle.term_values.specs.Syntaxes.{TypeSyntax}
use Rattle.asn1_names.specs.CodeMeanings.{Means}
use Rattle.asn1_names.specs.DenotedSyntax.{Denotes}
use Rattle.asn1_names.specs.ModuleTerms.{ModuleTerm, TypeTerm}
use Rattle.asn1_names.specs.NameMeaning.{Meaning}
use Rattle.asn1_names.specs.NameMeaning.Meaning.{Nothing}
use Rattle.asn1_names.specs.ResolvedTypes.{HasSyntax}
use Rattle.asn1_names.specs.declared.name_tables.Meaning.{Meaning as CodeMeaning}
use Rattle.gdmo_names.specs.ValueNames.{BeginsIn}
use Rattle.gdmo_begun_names.specs.BegunMarks.{FirstSet}

-- the text begins with the name in one of these syntaxes
abbrev pub BeginsOf : (TypeSyntax → Type 0) → Tree → FirstSet
BeginsOf Of text first = (syntax : TypeSyntax) × Of syntax × BeginsIn first syntax text

-- in a syntax that may be missing
abbrev pub BeginsMaybe : Option TypeSyntax → Tree → FirstSet
BeginsMaybe None text first = ⊥
BeginsMaybe (Some syntax) text first = BeginsIn first syntax text

-- what is meant has exactly these syntaxes
pub record MeansSyntaxes (ms : List ModuleTerm) (Of : TypeSyntax → Type 0) (code : CodeMeaning) : Type 0 where
  pub meant : Meaning
  pub means : Means ms code meant
  pub has : (syntax : TypeSyntax) → Of syntax ↔ HasSyntax ms meant syntax

-- the same, where nothing is meant if there are none
abbrev pub MayMean : List ModuleTerm → (TypeSyntax → Type 0) → Option CodeMeaning → Type 0
MayMean ms Of None = (syntax : TypeSyntax) → ¬ Of syntax
MayMean ms Of (Some code) = MeansSyntaxes ms Of code

-- what is meant is a type of the module at the place m, or a value of it
pub record MeansType (ms : List ModuleTerm) (m : ℕ) (of : TypeTerm) (code : CodeMeaning) : Type 0 where
  pub meant : Meaning
  pub means : Means ms code meant
  pub is_there : meant ≢ Nothing
  pub has : (syntax : TypeSyntax) → HasSyntax ms meant syntax → Denotes ms m of syntax

-- a type of the module at the place m has this syntax
abbrev pub DenotesThis : List ModuleTerm → ℕ → TypeTerm → Option TypeSyntax → Type 0
DenotesThis ms m of None = ⊥
DenotesThis ms m of (Some syntax) = Denotes ms m of syntax

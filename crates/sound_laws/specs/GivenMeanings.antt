-- GivenMeanings: what is asked of modules beside that they have no fault, so that their syntaxes are sound, and which
-- meanings they give (X.680, sections 16 and 29; docs/PROFILE.md, section 11).
use Rattle.std.specs.Prelude.{◌≡◌, ℕ, List}
use Rattle.token_grammar.specs.declared.token.Token.{Token}
use Rattle.asn1_names.specs.ModuleTerms.{LimitTerm, ModuleTerm}
use Rattle.asn1_names.specs.ModuleTerms.MemberTerms.{NoMembers}
use Rattle.asn1_names.specs.ModuleTerms.TypeTerm.{Alternatives}
use Rattle.asn1_names.specs.NameMeaning.{Meaning, standard_meaning}
use Rattle.asn1_names.specs.Occurrences.{Stands}
use Rattle.asn1_names.specs.StandardModule.{standard_type}
use Rattle.filled_syntaxes.specs.LinkedMeanings.{assignment_meaning}

-- each CHOICE has an alternative, as the text of each has (X.680, section 29.1)
abbrev pub HaveAlternatives : List ModuleTerm → Type 0
HaveAlternatives ms = (document m : ℕ) (word : Token) (limits : List LimitTerm) →
    ¬ Stands ms document m (Alternatives word NoMembers limits)

-- an assignment of the modules, or CMIP-1, gives the meaning
pub data IsGiven (ms : List ModuleTerm) (meant : Meaning) : Type 0 where
  of_assignment : (m i : ℕ) → assignment_meaning ms m i ≡ meant → IsGiven ms meant
  of_standard : (name : List ℕ) → standard_meaning (standard_type name) ≡ meant → IsGiven ms meant

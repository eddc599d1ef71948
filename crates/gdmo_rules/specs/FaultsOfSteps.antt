-- FaultsOfSteps: what the steps of rules may not say, as a set of faults: a case for each sentence (docs/PROFILE.md,
-- sections 9 and 12).
use Rattle.std.specs.Prelude.{◌≡◌, ℕ}
use Rattle.token_grammar.specs.declared.token.Token.{Token}
use Rattle.gdmo_names.specs.FirstLabelFault.{LabelFault}
use Rattle.gdmo_names.specs.FirstLabelFault.LabelFault.{KindWrong}
use Rattle.gdmo_names.specs.PartTerms.{RuleTerm, PartTerms}
use Rattle.gdmo_names.specs.RuleFaults.{AddsToOther, HasOtherType, NamesForeignAttribute, NamesNamingAttribute}
use Rattle.gdmo_names.specs.SectionFaults.{FaultsOfReplies}

pub data FaultsOfSteps (parts : PartTerms) (kind : LabelFault) (document token : ℕ) : Type 0 where
  naming_attribute : {rule : RuleTerm} {label : Token} → NamesNamingAttribute parts rule label → KindWrong ≡ kind →
      rule.document ≡ document → label.at ≡ token → FaultsOfSteps parts kind document token
  foreign_attribute : {rule : RuleTerm} {label : Token} → NamesForeignAttribute parts rule label → KindWrong ≡ kind →
      rule.document ≡ document → label.at ≡ token → FaultsOfSteps parts kind document token
  other_type : {rule : RuleTerm} {word : Token} → HasOtherType parts rule word → KindWrong ≡ kind →
      rule.document ≡ document → word.at ≡ token → FaultsOfSteps parts kind document token
  no_whole_number : {rule : RuleTerm} {label : Token} → AddsToOther parts rule label → KindWrong ≡ kind →
      rule.document ≡ document → label.at ≡ token → FaultsOfSteps parts kind document token
  of_reply : FaultsOfReplies parts kind document token → FaultsOfSteps parts kind document token

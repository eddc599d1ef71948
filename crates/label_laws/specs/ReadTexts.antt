-- ReadTexts: what holds of every set of documents that is read: digits are numbers below 2^64, labels of templates stand
-- at places of their own, and a word alone behind REPLY isn't ARGUMENT (docs/PROFILE.md, sections 1, 2 and 9).
use Rattle.std.specs.Prelude.{◌≡◌, false, codes}
use Rattle.token_grammar.specs.declared.token.Token.{Token}
use Rattle.token_grammar.specs.TokenTests.{is_word_of}
use Rattle.gdmo_first_names.specs.ReadModules.{AreWhole, IsWhole}
use Rattle.gdmo_names.specs.PartTerms.{PartTerms, RuleTerm}
use Rattle.gdmo_names.specs.PartTerms.StepTerm.{AddTo, ReplyWith}
use Rattle.gdmo_names.specs.PartTerms.TakenTerm.{OneWord}
use Rattle.gdmo_names.specs.RuleWords.{HasStep}
use Rattle.gdmo_names.specs.TargetTables.{ArePlacedApart}

pub record AreReadParts (parts : PartTerms) : Type 0 where
  pub whole : AreWhole parts
  pub numbers : (rule : RuleTerm) (number label : Token) → HasStep parts rule (AddTo number label) → IsWhole number
  pub words : (rule : RuleTerm) (word : Token) → HasStep parts rule (ReplyWith (OneWord word)) →
      is_word_of (codes "ARGUMENT") word ≡ false
  pub apart : ArePlacedApart parts

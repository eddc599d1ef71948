-- Examples of the definitions of this crate, computed: an action that states no types, whose argument isn't its reply,
-- and the fault of `ON c ACTION restart DO REPLY ARGUMENT`, at ARGUMENT.
use Rattle.std.specs.Prelude.{◌≡◌, [], ◌∷◌, None, Some, codes, false, refl}
use Rattle.std.proofs.Common.{arith}
use Rattle.gdmo_names.specs.DocumentTemplates.{templates}
use Rattle.gdmo_names.specs.FirstLabelFault.LabelFault.{KindWrong}
use Rattle.gdmo_names.specs.LabelMeaning.{first_called, label_meaning, target}
use Rattle.gdmo_names.specs.PartTerms.{Placed, PartTerms, RuleTerm}
use Rattle.gdmo_names.specs.PartTerms.StepTerm.{ReplyWith}
use Rattle.gdmo_names.specs.PartTerms.TakenTerm.{TheArgument}
use Rattle.gdmo_names.specs.RuleFaults.HasOtherType.{reply_argument}
use Rattle.gdmo_names.specs.RuleWords.{IsOfAction}
use Rattle.gdmo_names.specs.TemplateTerms.BodyTerm.{ActionBody}
use Rattle.gdmo_names.specs.TemplateTerms.ReferenceTerms.{NoReferences}
use Rattle.gdmo_names.specs.TemplateTerms.TemplateTerm.{Template}
use Rattle.gdmo_names.proofs.Texts.{placed, word}
use Rattle.gdmo_rules.specs.FaultsOfSteps.{FaultsOfSteps}
use Rattle.gdmo_rules.specs.FaultsOfSteps.FaultsOfSteps.{other_type}
use Rattle.gdmo_rules.specs.TypeFaults.{IsOtherReply}

abbrev silent : Placed
silent = placed 1 (Template (word 0 (codes "restart")) None (ActionBody NoReferences false NoReferences None None))

abbrev replying : RuleTerm
replying = record {
  document = 1;
  class = word 510 (codes "c");
  action = word 520 (codes "restart");
  steps = ReplyWith (TheArgument (word 530 (codes "ARGUMENT"))) ∷ [];
}

abbrev documents : PartTerms
documents = record { modules = []; outermost = silent ∷ []; rules = replying ∷ []; instances = [] }

no_types : IsOtherReply documents silent
no_types = (tt, tt, λ one. one)

restart_means : label_meaning documents (codes "restart") ≡ Some silent
unfolding label_meaning first_called templates
restart_means = refl

of_restart : IsOfAction documents replying silent
unfolding target
of_restart = record { is_target = restart_means; of_kind = refl }

argument_fault : FaultsOfSteps documents KindWrong 1 530
argument_fault = other_type {rule = replying} {word = word 530 (codes "ARGUMENT")} (reply_argument {action = silent}
    (record { stands = (0, omega arith, refl); has = (0, omega arith, refl) }) of_restart tt tt (λ one. one)) refl refl
    refl

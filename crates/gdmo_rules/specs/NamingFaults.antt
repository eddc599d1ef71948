-- NamingFaults: the steps of rules that name attributes that they may not name, by the classes of the rules, as sets of
-- faults (docs/PROFILE.md, sections 9 and 12).
use Rattle.std.specs.Prelude.{◌≡◌, ◌<◌, ℕ, List, Option, None, Some, Contains, length, map, slice_get}
use Rattle.std.specs.declared.alloc.Global.{Global}
use Rattle.std.specs.declared.vec.Vec.{Vec}
use Rattle.token_grammar.specs.declared.token.Token.{Token}
use Rattle.link_graphs.specs.Marking.{IsTarget}
use Rattle.gdmo_names.specs.FaultSets.{AnyOf, FaultSet, OneFault}
use Rattle.gdmo_names.specs.FirstLabelFault.LabelFault.{KindWrong}
use Rattle.gdmo_names.specs.LabelMeaning.{Means}
use Rattle.gdmo_names.specs.Mentions.Role.{StepAttribute}
use Rattle.gdmo_names.specs.PartTerms.{Placed, StepTerm, RuleTerm, PartTerms}
use Rattle.gdmo_names.specs.PartTerms.TakenTerm.{TheArgument, OneWord, OtherValue}
use Rattle.gdmo_names.specs.PartTerms.StepTerm.{SetTo, AddTo, EmitOf, ReplyWith}
use Rattle.gdmo_names.specs.RuleWords.{IsOfClass}
use Rattle.gdmo_names.specs.SectionFaults.{NoFault}
use Rattle.gdmo_names.specs.TemplateTerms.ReferenceTerm.{ByLabel}
use Rattle.gdmo_targets.specs.declared.section_references.RuleTargets.{RuleTargets}
use Rattle.class_graphs.specs.ClassGraphs.{MayNotName}
use Rattle.gdmo_rules.specs.declared.type_faults.Naming.{Naming}

-- the label by which a step may name an attribute
abbrev pub step_label : StepTerm → Option Token
step_label (SetTo label value) = Some label
step_label (AddTo number label) = Some label
step_label (EmitOf label value) = None
step_label (ReplyWith (TheArgument word)) = None
step_label (ReplyWith (OneWord word)) = Some word
step_label (ReplyWith (OtherValue value)) = None

-- the label means an attribute that a step of a rule for the class may not name
pub record NamesForbidden (parts : PartTerms) (class : Placed) (document : ℕ) (label : Token) : Type 0 where
  pub attribute : Placed
  pub means : Means parts document StepAttribute (ByLabel label) attribute
  pub may_not : MayNotName parts class attribute

abbrev pub LabelNamingFaults : PartTerms → Placed → ℕ → Option Token → FaultSet
LabelNamingFaults parts class document None = NoFault
LabelNamingFaults parts class document (Some label) =
    OneFault (NamesForbidden parts class document label) KindWrong document label.at

abbrev pub StepNamingFaults : PartTerms → Placed → ℕ → StepTerm → FaultSet
StepNamingFaults parts class document step = LabelNamingFaults parts class document (step_label step)

abbrev pub RuleNamingFaults : PartTerms → Placed → RuleTerm → FaultSet
RuleNamingFaults parts class rule = AnyOf (StepNamingFaults parts class rule.document) rule.steps

-- those of the rule at a place, and of all rules
abbrev pub NamingFaultsAt : PartTerms → Placed → ℕ → FaultSet
NamingFaultsAt parts class place kind document token =
    (rule : RuleTerm) × (slice_get parts.rules place ≡ Some rule)
    × RuleNamingFaults parts class rule kind document token

abbrev pub AllNamingFaults : PartTerms → FaultSet
AllNamingFaults parts kind document token = (rule : RuleTerm) × (class : Placed) × Contains parts.rules rule
    × IsOfClass parts rule class × RuleNamingFaults parts class rule kind document token

-- ---- what the code knows

-- the attribute that a label means, with its number
pub record TellsIt (parts : PartTerms) (views : List Placed) (document : ℕ) (label : Option Token) (naming : Naming)
    : Type 0 where
  pub is_in : naming.document ≡ document
  pub is_label : label ≡ Some naming.label.now
  pub attribute : Placed
  pub at : slice_get views naming.attribute ≡ Some attribute
  pub means : Means parts document StepAttribute (ByLabel naming.label.now) attribute

abbrev pub TellsNaming : PartTerms → List Placed → ℕ → Option Token → Option Naming → Type 0
TellsNaming parts views document label None = (own : Token) (attribute : Placed) → label ≡ Some own →
    ¬ Means parts document StepAttribute (ByLabel own) attribute
TellsNaming parts views document label (Some naming) = TellsIt parts views document label naming

-- the rows of numbers
abbrev pub row_lists : List (Vec ℕ Global) → List (List ℕ)
row_lists rows = map (λ row. row.items) rows

-- from the number of each class to the places of its rules
pub record AreByClass (targets : List RuleTargets) (lists : List (List ℕ)) : Type 0 where
  pub sound : (class place : ℕ) → IsTarget lists class place →
      (own : RuleTargets) × (slice_get targets place ≡ Some own) × (own.class ≡ Some class)
  pub whole : (class place : ℕ) (own : RuleTargets) → slice_get targets place ≡ Some own → own.class ≡ Some class →
      class < length lists → IsTarget lists class place

-- StatedRules: for which classes and actions rules are stated, and those that are stated again (docs/PROFILE.md,
-- sections 9 and 12). Classes and actions are told by the numbers of their templates.
use Rattle.std.specs.Prelude.{◌≡◌, ◌<◌, ◌&&◌, ◌==◌, ℕ, List, Bool, true, false, Option, None, Some, map, option_map}
use Rattle.std.specs.Prelude.{option_and_then, slice_get, take}
use Rattle.std.specs.List.{list_any}
use Rattle.std.specs.BTreeSet.{BTreeSet, contains}
use Rattle.std.specs.Ordering.{nat_cmp, ordering_then}
use Rattle.std.specs.declared.cmp.Ordering.{Ordering}
use Rattle.gdmo_names.specs.FaultSets.{FaultSet, ThisFault}
use Rattle.gdmo_names.specs.FirstLabelFault.{LabelFault}
use Rattle.gdmo_names.specs.FirstLabelFault.LabelFault.{KindWrong}
use Rattle.gdmo_names.specs.FoundViews.{numbered}
use Rattle.gdmo_names.specs.PartTerms.{Placed, RuleTerm}
use Rattle.gdmo_names.specs.PartViews.{rule_term}
use Rattle.gdmo_targets.specs.declared.section_references.RuleTargets.{RuleTargets}
use Rattle.gdmo_targets.specs.declared.stated_rules.RuleText.{RuleText}

-- rules, each with the number of its document
abbrev pub text_term : RuleText → RuleTerm
text_term x = rule_term x.document x.rule.now

abbrev pub rule_terms : List RuleText → List RuleTerm
rule_terms xs = map text_term xs

-- two numbers, in order by the first and then by the second
abbrev pub pair_cmp : ℕ × ℕ → ℕ × ℕ → Ordering
pair_cmp x y = ordering_then (nat_cmp x.0 y.0) (nat_cmp x.1 y.1)

abbrev pub is_same_pair : ℕ × ℕ → ℕ × ℕ → Bool
is_same_pair x y = (x.0 == y.0) && (x.1 == y.1)

abbrev pub has_pair : BTreeSet (ℕ × ℕ) → ℕ × ℕ → Bool
has_pair stated pair = contains pair_cmp stated pair

-- the same of a pair that there may be
abbrev pub is_that_pair : Option (ℕ × ℕ) → ℕ × ℕ → Bool
is_that_pair None other = false
is_that_pair (Some pair) other = is_same_pair pair other

abbrev pub has_that_pair : BTreeSet (ℕ × ℕ) → Option (ℕ × ℕ) → Bool
has_that_pair stated None = false
has_that_pair stated (Some pair) = has_pair stated pair

-- a number, where it is that of a template
abbrev pub number_of : Option Placed → Option ℕ → Option ℕ
number_of None n = None
number_of (Some to) n = n

abbrev pub known_number : List Placed → Option ℕ → Option ℕ
known_number views n = number_of (numbered views n) n

-- the numbers of the class and the action of a rule, where it has both
abbrev pub stated_pair : List Placed → RuleTargets → Option (ℕ × ℕ)
stated_pair views own = option_and_then (λ class. option_map (λ action. (class, action))
    (known_number views own.action)) (known_number views own.class)

-- they are those of one of the first n rules
abbrev pub stated_before : List Placed → List RuleTargets → ℕ → ℕ × ℕ → Bool
stated_before views targets n pair = list_any (λ own. is_that_pair (stated_pair views own) pair) (take n targets)

-- the fault of a rule whose class and action are those of an earlier one
pub record AgainAt (views : List Placed) (rules : List RuleTerm) (targets : List RuleTargets) (k : ℕ)
    (kind : LabelFault) (document token : ℕ) : Type 0 where
  pub rule : RuleTerm
  pub stands : slice_get rules k ≡ Some rule
  pub pair : ℕ × ℕ
  pub is_for : option_and_then (stated_pair views) (slice_get targets k) ≡ Some pair
  pub again : stated_before views targets k pair ≡ true
  pub fault : ThisFault KindWrong rule.document rule.class.at kind document token

-- those of all rules, and those of the first n
abbrev pub AgainIn : List Placed → List RuleTerm → List RuleTargets → FaultSet
AgainIn views rules targets kind document token = (k : ℕ) × AgainAt views rules targets k kind document token

abbrev pub AgainBefore : List Placed → List RuleTerm → List RuleTargets → ℕ → FaultSet
AgainBefore views rules targets n kind document token =
    (k : ℕ) × (k < n) × AgainAt views rules targets k kind document token

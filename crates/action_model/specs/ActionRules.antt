-- Which rule an action follows in an object: the rule of the first class that has one for it, in the order of the class,
-- then its superclasses depth first from left to right. RULES sections are this project's own (docs/PROFILE.md, section
-- 9); classes and what they derive from: X.722, section 5.2.
use Rattle.std.specs.Prelude.{ℕ, zero, suc, List, [], ◌∷◌, Bool, ◌&&◌, Option, None, Some, find, flat_map, length}
use Rattle.std.specs.Option.{option_map_or}
use Rattle.term_model.specs.declared.rule.RuleRec.{RuleRec}
use Rattle.term_model.specs.declared.rule.RuleStep.{RuleStep}
use Rattle.term_model.specs.declared.schema.ClassRec.{ClassRec}
use Rattle.term_model.specs.declared.schema.Set.{Set}
use Rattle.term_model.specs.Comparing.{is_same_oid}
use Rattle.term_model.specs.PresentPackages.{superclasses}

-- a class, then its superclasses depth first from left to right, at most so far above it. One to which several ways lead
-- stands there once for each.
abbrev pub depth_first : List ClassRec → ℕ → List ℕ → List (List ℕ)
depth_first records zero class = class ∷ []
depth_first records (suc height) class = class ∷ flat_map (depth_first records height) (superclasses records class)

-- no class is further above another than there are records
abbrev pub lineage : List ClassRec → List ℕ → List (List ℕ)
lineage records class = depth_first records (length records) class

-- the rule that is stated for the action and the class itself
abbrev pub is_rule_of : List ℕ → List ℕ → RuleRec → Bool
is_rule_of action class rule = is_same_oid rule.class class && is_same_oid rule.action action

abbrev pub own_rule : List RuleRec → List ℕ → List ℕ → Option RuleRec
own_rule rules action class = find (is_rule_of action class) rules

-- the rule of the first of these classes that has one
abbrev pub or_later : Option RuleRec → Option RuleRec → Option RuleRec
or_later (Some rule) later = Some rule
or_later None later = later

abbrev pub first_rule : List RuleRec → List ℕ → List (List ℕ) → Option RuleRec
first_rule rules action [] = None
first_rule rules action (class ∷ classes) = or_later (own_rule rules action class) (first_rule rules action classes)

-- the rule of an action in objects of a class
abbrev pub rule_for : Set → List ℕ → List ℕ → Option RuleRec
rule_for schema class action = first_rule schema.rules action (lineage schema.classes class)

-- and its steps; without a rule there are none
abbrev pub steps_for : Set → List ℕ → List ℕ → List RuleStep
steps_for schema class action =
    option_map_or (λ (rule : RuleRec). rule.steps) (rule_for schema class action) []

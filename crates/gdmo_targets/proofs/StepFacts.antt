-- StepFacts: examples, computed: a group to which an attribute is added, and rules for one class and one action.
use Rattle.std.specs.Prelude.{◌≡◌, ◌<◌, ℕ, List, [], ◌∷◌, true, false, None, Some, codes, refl, slice_get}
use Rattle.gdmo_names.specs.GroupFaults.{has_role, is_added_role, is_group_role}
use Rattle.gdmo_names.specs.Mentions.{row_mentions}
use Rattle.gdmo_names.specs.Mentions.Role.{AddedAttribute, PackageGroup}
use Rattle.gdmo_names.specs.PartTerms.{Placed}
use Rattle.gdmo_names.specs.TemplateTerms.{RowTerms, TemplateTerm}
use Rattle.gdmo_names.specs.TemplateTerms.BodyTerm.{GroupBody}
use Rattle.gdmo_names.specs.TemplateTerms.ReferenceTerm.{ByLabel}
use Rattle.gdmo_names.specs.TemplateTerms.ReferenceTerms.{NoReferences}
use Rattle.gdmo_names.specs.TemplateTerms.RowTerms.{NoRows, Row}
use Rattle.gdmo_names.specs.TemplateTerms.TemplateTerm.{Template}
use Rattle.gdmo_names.proofs.Texts.{one_reference, placed, word}
use Rattle.gdmo_targets.specs.GroupSteps.{is_fixed_group}
use Rattle.gdmo_targets.specs.StatedRules.{is_same_pair, known_number}

-- ATTRIBUTE GROUPS a, b c
abbrev rows : RowTerms
rows = Row (ByLabel (word 40 (codes "a"))) NoReferences (Row (ByLabel (word 43 (codes "b")))
    (one_reference (ByLabel (word 45 (codes "c")))) NoRows)

-- nothing is added to a, and c is added to b
not_to_a : has_role is_added_role (slice_get (row_mentions PackageGroup AddedAttribute rows) 1) ≡ false
not_to_a = refl

to_b : has_role is_added_role (slice_get (row_mentions PackageGroup AddedAttribute rows) 2) ≡ true
to_b = refl

group_b : has_role is_group_role (slice_get (row_mentions PackageGroup AddedAttribute rows) 1) ≡ true
group_b = refl

-- b ATTRIBUTE GROUP FIXED
abbrev fixed_b : Placed
fixed_b = placed 1 (Template (word 90 (codes "b")) None (GroupBody NoReferences true))

is_fixed_b : is_fixed_group (Some fixed_b) ≡ true
is_fixed_b = refl

-- of one template the first number is 0, and there is no second one
there : known_number (fixed_b ∷ []) (Some 0) ≡ Some 0
there = refl

past_it : known_number (fixed_b ∷ []) (Some 1) ≡ None
past_it = refl

same : is_same_pair (0, 3) (0, 3) ≡ true
same = refl

other : is_same_pair (0, 3) (0, 4) ≡ false
other = refl

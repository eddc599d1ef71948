-- The sets of groups and of their members that a Get goes by: X.722, sections 8.4 and 8.8.
use Rattle.std.specs.Prelude.{◌≡◌, ◌||◌, ◌&&◌, ◌++◌, ℕ, List, [], Bool, false, filter}
use Rattle.std.specs.List.{list_any}
use Rattle.std.specs.Option.{option_map_or}
use Rattle.std.specs.BTreeSet.{BTreeSet}
use Rattle.term_model.specs.declared.packages.GroupUse.{GroupUse}
use Rattle.term_model.specs.declared.packages.PackageRec.{PackageRec}
use Rattle.term_model.specs.declared.schema.ClassRec.{ClassRec}
use Rattle.term_model.specs.declared.schema.GroupRec.{GroupRec}
use Rattle.term_model.specs.ObjectGet.{is_used}
use Rattle.term_model.specs.ObjectOperation.{class_record}
use Rattle.term_model.specs.PresentPackages.{is_among}
use Rattle.op_object.specs.IdSets.{has_id}

-- the uses of a group whose identifier is in the set, by which the attribute is a member
abbrev pub adds_member : BTreeSet (List ℕ) → List GroupUse → List ℕ → Bool
adds_member asked uses attribute =
    list_any (λ (use_of : GroupUse). has_id asked use_of.group && is_among use_of.added attribute) uses

-- the sets of used groups and of members, before and after these uses
pub record AddsUses (asked : BTreeSet (List ℕ)) (uses : List GroupUse)
    (used_before used members_before members : BTreeSet (List ℕ)) : Type 0 where
  pub groups : (q : List ℕ) → has_id used q ≡ (has_id used_before q || is_used uses q)
  pub added : (q : List ℕ) → has_id members q ≡ (has_id members_before q || adds_member asked uses q)

-- by the templates of the groups: those that are asked for and used have these members
abbrev pub has_template_member : BTreeSet (List ℕ) → BTreeSet (List ℕ) → List GroupRec → List ℕ → Bool
has_template_member asked used groups attribute =
    list_any
    (λ (of_group : GroupRec).
    has_id asked of_group.id && has_id used of_group.id && is_among of_group.members attribute) groups

-- the package is registered, and its identifier in the set of those that a creation chose
abbrev pub has_package : BTreeSet (List ℕ) → PackageRec → Bool
has_package chosen of_package = option_map_or (has_id chosen) of_package.id false

-- the packages that an object has by what a class itself states
abbrev pub packages_stated : BTreeSet (List ℕ) → ClassRec → List PackageRec
packages_stated chosen of_class = of_class.mandatory ++ filter (has_package chosen) of_class.conditional

abbrev pub packages_stated_by : List ClassRec → BTreeSet (List ℕ) → List ℕ → List PackageRec
packages_stated_by records chosen class = option_map_or (packages_stated chosen) (class_record records class) []

-- GroupFaults: the groups of a package that are FIXED and to which attributes are added, as a set of faults (X.722,
-- section 8.4; docs/PROFILE.md, section 12).
use Rattle.std.specs.Prelude.{◌≡◌, ◌+◌, ℕ, List, Bool, true, false, Option, None, Some, slice_get}
use Rattle.gdmo_names.specs.DocumentTemplates.{templates}
use Rattle.gdmo_names.specs.FaultSets.{AnyOf, FaultSet, OneFault}
use Rattle.gdmo_names.specs.FirstLabelFault.{LabelFault}
use Rattle.gdmo_names.specs.FirstLabelFault.LabelFault.{KindWrong}
use Rattle.gdmo_names.specs.LabelMeaning.{Means, reference_token}
use Rattle.gdmo_names.specs.Mentions.{Role, Mention}
use Rattle.gdmo_names.specs.Mentions.Role.{PackageGroup, AddedAttribute}
use Rattle.gdmo_names.specs.PartTerms.{Placed, PartTerms, body_of}
use Rattle.gdmo_names.specs.Roles.{role_term}
use Rattle.gdmo_names.specs.TemplateTerms.{ReferenceTerm, ReferenceTerms, RowTerms}
use Rattle.gdmo_names.specs.TemplateTerms.ReferenceTerms.{Reference}
use Rattle.gdmo_names.specs.WrongKinds.{IsRow, groups_of, is_fixed}
use Rattle.gdmo_names.specs.declared.found.Mention.{Mention as FoundMention}

-- a reference in a document means a group that is FIXED
pub record IsFixedGroup (parts : PartTerms) (document : ℕ) (role : Role) (reference : ReferenceTerm) : Type 0 where
  pub to : Placed
  pub means : Means parts document role reference to
  pub fixed : is_fixed (body_of to.template) ≡ true

-- a template has this group and adds an attribute to it
pub record AddsToGroup (by : Placed) (reference : ReferenceTerm) : Type 0 where
  pub groups : RowTerms
  pub has : groups_of (body_of by.template) ≡ Some groups
  pub added : ReferenceTerm
  pub others : ReferenceTerms
  pub row : IsRow reference (Reference added others) groups

-- the groups of one template that are FIXED and added to, and those of all
pub record FaultsOfGroups (parts : PartTerms) (by : Placed) (kind : LabelFault) (document token : ℕ) : Type 0 where
  pub reference : ReferenceTerm
  pub adds : AddsToGroup by reference
  pub fault : OneFault (IsFixedGroup parts by.document PackageGroup reference) KindWrong by.document
      (reference_token reference).at kind document token

abbrev pub FaultsOfAllGroups : PartTerms → FaultSet
FaultsOfAllGroups parts = AnyOf (FaultsOfGroups parts) (templates parts)

-- In what a template names, a group to which an attribute is added stands right before an added attribute.
abbrev pub is_group_role : Role → Bool
is_group_role PackageGroup = true
is_group_role _ = false

abbrev pub is_added_role : Role → Bool
is_added_role AddedAttribute = true
is_added_role _ = false

abbrev pub has_role : (Role → Bool) → Option Mention → Bool
has_role is None = false
has_role is (Some x) = is x.role

-- the same of what was found to be named
abbrev pub has_found_role : (Role → Bool) → Option FoundMention → Bool
has_found_role is None = false
has_found_role is (Some x) = is (role_term x.role)

-- the fault of the group that is named at a place, where an attribute is added to it
pub record FaultsOfGroupAt (parts : PartTerms) (its : ℕ) (named : List Mention) (k : ℕ) (kind : LabelFault)
    (document token : ℕ) : Type 0 where
  pub group : Mention
  pub is : slice_get named k ≡ Some group
  pub is_group : is_group_role group.role ≡ true
  pub is_added : has_role is_added_role (slice_get named (k + 1)) ≡ true
  pub fault : OneFault (IsFixedGroup parts its group.role group.reference) KindWrong its
      (reference_token group.reference).at kind document token

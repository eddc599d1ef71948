-- GroupSteps: the groups that a template names, each looked at at its place (X.722, section 8.4; docs/PROFILE.md,
-- section 12).
use Rattle.std.specs.Prelude.{◌≡◌, ◌<◌, ℕ, List, Bool, true, false, Option, None, Some}
use Rattle.gdmo_names.specs.FaultSets.{FaultSet}
use Rattle.gdmo_names.specs.GroupFaults.{FaultsOfGroupAt, IsFixedGroup, is_group_role}
use Rattle.gdmo_names.specs.Mentions.{Mention}
use Rattle.gdmo_names.specs.PartTerms.{Placed, PartTerms, body_of}
use Rattle.gdmo_names.specs.WrongKinds.{is_fixed}

-- there is such a template, and it is a group that is FIXED
abbrev pub is_fixed_group : Option Placed → Bool
is_fixed_group None = false
is_fixed_group (Some x) = is_fixed (body_of x.template)

-- what is named in a document is a group that is FIXED, and an attribute is added to it
abbrev pub IsAddedTo : PartTerms → ℕ → Mention → Bool → Type 0
IsAddedTo parts document x added =
    (is_group_role x.role ≡ true) × (added ≡ true) × IsFixedGroup parts document x.role x.reference

-- the faults of the groups before a place
abbrev pub GroupsBefore : PartTerms → ℕ → List Mention → ℕ → FaultSet
GroupsBefore parts its named n kind document token =
    (k : ℕ) × (k < n) × FaultsOfGroupAt parts its named k kind document token

-- The numbers of the mentions so far.
use Rattle.std.proofs.Common.{ℕ}
use Rattle.gdmo_names.specs.PartTerms.{PartTerms}
use Rattle.gdmo_names.specs.Roles.{role_term}
use Rattle.gdmo_types.proofs.RoleLaws.{InRoleSoFar}
use Rattle.gdmo_types.proofs.role_targets.numbers_in_role.Given as goal

abbrev pub invariant-loop-k : goal.invariant-loop-k
invariant-loop-k l = (parts : PartTerms) (document : ℕ) →
    InRoleSoFar parts l.templates document (role_term l.role) l.mentions l.numbers l.k l.own.items

-- The mention is in the role, or it isn't.
use Rattle.std.proofs.Common.{◌≡◌, ◌≢◌, ◌∙◌, ◌++◌, ◌∷◌, [], rules, sym}
use Rattle.std.proofs.Math.Path.{subst}
use Rattle.gdmo_names.specs.Roles.{role_term}
use Rattle.gdmo_types.specs.RoleTargets.{AreInRole, MeansNumber}
use Rattle.gdmo_types.proofs.RoleLaws.{role_left, role_pushed}
use Rattle.gdmo_types.proofs.role_targets.keep_in_role.Goals as goal

pub returns-then-not-is_in_role : goal.returns-then-not-is_in_role
returns-then-not-is_in_role c = λ parts document xs x is tells are.
    let apart : role_term c.args.mention.now.role ≢ role_term c.args.role = search rules in
    role_left x are (λ same. apart (is.in_role ∙ same))

pub returns : goal.returns
returns c = λ parts document xs x is tells are.
    let same : role_term c.args.mention.now.role ≡ role_term c.args.role = search rules in
    subst (AreInRole (MeansNumber parts c.args.templates.now document) (role_term c.args.role) (xs ++ x ∷ []))
    (sym c.in_ok-push.ensures.items)
    (role_pushed are (sym is.in_role ∙ same) (c.known_number.ensures parts document x tells))

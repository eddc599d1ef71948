-- A template that is named in the role, or in another one.
use Rattle.std.proofs.Common.{◌∙◌, ap, sym}
use Rattle.gdmo_names.specs.Roles.{role_term}
use Rattle.gdmo_linking.specs.InRoles.{is_role}
use Rattle.gdmo_linking.proofs.LinkLaws.{passed_in_role, pushed_in_role}
use Rattle.gdmo_linking.proofs.linking.Linker.push_in_role.Goals as goal

pub returns-in_ok-push : goal.returns-in_ok-push
returns-in_ok-push c = λ parts document before x is meant named tells each.
    pushed_in_role parts document (role_term c.args.role) before x c.args.places.now.items c.push.new.self.items
    c.place.result
    (ap (is_role (role_term c.args.role)) (sym named) ∙ sym c.is_in.ensures ∙ c.if-is_in.true)
    (c.place.ensures parts document x is meant tells) each c.in_ok-push.ensures.items

pub returns-else-is_in : goal.returns-else-is_in
returns-else-is_in c = λ parts document before x is meant named tells each.
    passed_in_role parts document (role_term c.args.role) before x c.args.places.now.items
    (ap (is_role (role_term c.args.role)) (sym named) ∙ sym c.is_in.ensures ∙ c.if-is_in.false) each

-- One more is linked.
use Rattle.std.proofs.Common.{sym}
use Rattle.std.proofs.Math.Path.{subst}
use Rattle.gdmo_linking.specs.LinkedNames.{IsHead}
use Rattle.gdmo_names.specs.FoundViews.{found_view}
use Rattle.linked_templates.proofs.TableLaws.{of_groups, template_pushed}
use Rattle.linked_templates.proofs.linking_templates.push_group.Goals as goal

pub returns : goal.returns
returns c = λ parts before is body head each.
    let x = found_view c.args.found.now in
    let linked = c.in_ok-linked.linked in
    template_pushed (of_groups parts) before x c.args.groups.now.items c.push.new.self.items linked each
    (subst (λ h. IsHead parts x h) (sym c.in_ok-linked.ensures.head) head, (c.in_ok-linked.ensures.is parts is body))
    c.in_ok-push.ensures.items

-- Where the templates before a number lead.
use Rattle.link_graphs.specs.Leading.{target_lists}
use Rattle.gdmo_names.specs.FoundViews.{found_views}
use Rattle.gdmo_names.specs.PartTerms.{PartTerms}
use Rattle.gdmo_names.specs.Roles.{role_term}
use Rattle.gdmo_types.specs.Linkages.{IsLinkage}
use Rattle.class_graphs.specs.ClassLinks.{LeadsBy, LostBy}
use Rattle.class_graphs.specs.NamedLinks.{AreLinks, ByBefore}
use Rattle.class_graphs.proofs.role_links.role_links.Given as goal

abbrev pub invariant-loop-number : goal.invariant-loop-number
invariant-loop-number l = (parts : PartTerms) → IsLinkage parts l.linkage →
    AreLinks (found_views l.linkage.templates.now)
    (ByBefore (found_views l.linkage.templates.now) (LeadsBy parts (role_term l.role)) l.number)
    (target_lists l.own.links)
    × AreLinks (found_views l.linkage.templates.now)
    (ByBefore (found_views l.linkage.templates.now) (LostBy parts (role_term l.role)) l.number)
    (target_lists l.own.lost)

-- What the name bindings before a number name.
use Rattle.link_graphs.specs.Leading.{target_lists}
use Rattle.gdmo_names.specs.FoundViews.{found_views}
use Rattle.gdmo_names.specs.PartTerms.{PartTerms}
use Rattle.gdmo_types.specs.Linkages.{IsLinkage}
use Rattle.class_graphs.specs.ClassLinks.{NamesBy}
use Rattle.class_graphs.specs.NamedLinks.{AreLinks, ByBefore}
use Rattle.class_graphs.proofs.naming_links.binding_links.Given as goal

abbrev pub invariant-loop-number : goal.invariant-loop-number
invariant-loop-number l = (parts : PartTerms) → IsLinkage parts l.linkage →
    AreLinks (found_views l.linkage.templates.now)
    (ByBefore (found_views l.linkage.templates.now) (NamesBy parts l.with_subclasses) l.number) (target_lists l.graph)

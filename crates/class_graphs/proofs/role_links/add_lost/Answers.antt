-- A template to itself, or no link.
use Rattle.std.proofs.Common.{refl}
use Rattle.std.proofs.lemmas.Bool.{false≢true}
use Rattle.link_graphs.specs.Leading.{target_lists}
use Rattle.class_graphs.proofs.NamedLaws.{itself_added, nothing_lost}
use Rattle.class_graphs.proofs.role_links.add_lost.Goals as goal

pub returns-in_ok-add_links : goal.returns-in_ok-add_links
returns-in_ok-add_links c = λ views by at.
    itself_added views c.args.number by at (c.if-has_none.ensures.0 refl) c.in_ok-add_links.ensures

pub returns-else-has_none : goal.returns-else-has_none
returns-else-has_none c = λ views by at. nothing_lost views by (target_lists c.args.graph.now)
    (λ none. false≢true (c.if-has_none.ensures.1 none))

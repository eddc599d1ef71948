-- One more template, and all of them.
use Rattle.std.proofs.Common.{◌≤◌, arith, length, sym}
use Rattle.std.proofs.lemmas.List.{length-map}
use Rattle.link_graphs.specs.Leading.{target_lists}
use Rattle.gdmo_names.specs.FoundViews.{found_view, found_views}
use Rattle.gdmo_names.specs.Roles.{role_term}
use Rattle.gdmo_types.proofs.StepLaws.{there}
use Rattle.class_graphs.specs.ClassLinks.{LeadsBy, LostBy}
use Rattle.class_graphs.specs.NamedLinks.{ByBefore}
use Rattle.class_graphs.proofs.NamedLaws.{before_none, links_all, links_none, links_step}
use Rattle.class_graphs.proofs.role_links.role_links.Goals as goal

pub loop-number-init : goal.loop-number-init
loop-number-init c = λ parts is.
    let xs = c.args.linkage.now.templates.now in
    let views = found_views xs in
    let role = role_term c.args.role in (
      links_none views (target_lists c.in_ok-unlinked.field-0) (length xs) (ByBefore views (LeadsBy parts role) 0)
          c.in_ok-unlinked.ensures (sym (length-map xs found_view)) (before_none views (LeadsBy parts role)),
      links_none views (target_lists c.in_ok-unlinked-2.field-0) (length xs) (ByBefore views (LostBy parts role) 0)
          c.in_ok-unlinked-2.ensures (sym (length-map xs found_view)) (before_none views (LostBy parts role)),
    )

pub loop-number-preserved : goal.loop-number-preserved
loop-number-preserved c = λ parts is.
    let xs = c.args.linkage.now.templates.now in
    let n = c.loop-number.number in
    let by = there (found_views xs) n
    (let l = length-map xs found_view in let t = c.loop-number-test.true in omega arith) in (
      links_step n by.0 by.1 (c.loop-number.invariant parts is).0 (c.in_ok-add_role.ensures.links parts by.0 is by.1),
      links_step n by.0 by.1 (c.loop-number.invariant parts is).1 (c.in_ok-add_role.ensures.lost parts by.0 is by.1),
    )

pub returns : goal.returns
returns c = λ parts is.
    let xs = c.args.linkage.now.templates.now in
    let past : length (found_views xs) ≤ c.loop-number.number =
    (let l = length-map xs found_view in let t = c.loop-number-test.false in omega arith) in record {
      links = links_all c.loop-number.number past (c.loop-number.invariant parts is).0;
      lost = links_all c.loop-number.number past (c.loop-number.invariant parts is).1;
    }

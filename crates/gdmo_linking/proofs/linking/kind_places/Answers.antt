-- One template more, and all of them.
use Rattle.std.proofs.Common.{◌≡◌, ◌<◌, ◌≤◌, ◌+◌, ◌^◌, ◌∙◌, [], Some, ap, arith, get_or, length, rules, set, slice_get, sym}
use Rattle.std.proofs.Common.{take}
use Rattle.std.proofs.Math.Path.{subst}
use Rattle.std.proofs.lemmas.List.{length-map, take_all}
use Rattle.gdmo_linking.specs.LinkedTables.{kind_number}
use Rattle.gdmo_linking.specs.Linkers.{ArePlaces}
use Rattle.gdmo_linking.proofs.CountLaws.{AreCounts, counts_more, kind_below, none_counted, place_fits}
use Rattle.gdmo_linking.proofs.KindLaws.{places_more}
use Rattle.gdmo_linking.proofs.StepLaws.{at_place, map_at, taken}
use Rattle.gdmo_names.specs.FoundViews.{found_view, found_views}
use Rattle.gdmo_names.specs.PartTerms.{kind_of}
use Rattle.gdmo_names.specs.Roles.{kind_term}
use Rattle.gdmo_linking.proofs.linking.kind_places.Goals as goal

pub loop-found-init : goal.loop-found-init
loop-found-init c = (none_counted, subst (λ ys. ArePlaces [] ys) (sym c.new-places.ensures.items) tt)

pub loop-found-preserved : goal.loop-found-preserved
loop-found-preserved c =
    let xs = c.args.templates.now in
    let views = found_views xs in
    let i = c.loop-found.found-index in
    let x = found_view c.found-item.result in
    let within : i < length xs = omega (arith, c.loop-found-test.true) in
    let at : slice_get views i ≡ Some x =
    map_at found_view xs i c.found-item.result (at_place xs i c.found-item.result within c.found-item.is) in
    let own : kind_number (kind_term c.kind_of.result) ≡ kind_number (kind_of x.template) =
    ap kind_number c.kind_of.ensures in
    let are = c.loop-found.invariant.0 in
    let here : get_or c.loop-found.counts (kind_number (kind_term c.kind_of.result)) 0 ≡
    get_or c.loop-found.counts (kind_number (kind_of x.template)) 0 =
    ap (λ k. get_or c.loop-found.counts k 0) own in
    let small : length xs < 2 ^ 64 = search rules in
    let fits : get_or c.loop-found.counts (kind_number (kind_term c.kind_of.result)) 0 + 1 < 2 ^ 64 =
    subst (λ n. n + 1 < 2 ^ 64) (sym here) (place_fits views c.loop-found.counts (kind_of x.template) i
    (subst (λ n. i < n) (sym (length-map xs found_view)) within)
    (subst (λ n. n < 2 ^ 64) (sym (length-map xs found_view)) small) are) in
    let less : kind_number (kind_term c.kind_of.result) < length c.loop-found.counts =
    subst (λ n. n < length c.loop-found.counts) (sym own)
    (let below = kind_below (kind_of x.template) in let size = are.size in omega (arith, below, size)) in
    let counted : c.next_place.new.counts ≡ set c.loop-found.counts (kind_number (kind_of x.template))
    (get_or c.loop-found.counts (kind_number (kind_of x.template)) 0 + 1) =
    subst (λ k. c.next_place.new.counts ≡ set c.loop-found.counts k (get_or c.loop-found.counts k 0 + 1)) own
    (c.next_place.ensures.counts less fits) in (
      subst (λ ys. AreCounts ys c.next_place.new.counts) (sym (taken views i x at))
          (counts_more (take i views) x c.loop-found.counts c.next_place.new.counts are counted),
      subst (λ ys. ArePlaces ys c.push.new.self.items) (sym (taken views i x at))
          (places_more (take i views) x c.loop-found.places.items c.push.new.self.items c.next_place.result
          c.loop-found.invariant.1 (c.next_place.ensures.place ∙ here ∙ are.each (kind_of x.template))
          c.in_ok-push.ensures.items),
    )

pub returns : goal.returns
returns c =
    let views = found_views c.args.templates.now in
    let past : length views ≤ c.loop-found.found-index =
    (let size = length-map c.args.templates.now found_view in omega (arith, size, c.loop-found-test.false)) in
    subst (λ ys. ArePlaces ys c.loop-found.places.items) (take_all c.loop-found.found-index views past)
    c.loop-found.invariant.1

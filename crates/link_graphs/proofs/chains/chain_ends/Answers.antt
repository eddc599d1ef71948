-- The end of one element more.
use Rattle.std.proofs.Common.{◌≡◌, ◌<◌, ◌+◌, ◌∙◌, sym, ap, ℕ, List, Option, Some, subst, refl, length, arith}
use Rattle.std.proofs.Common.{set, get_or}
use Rattle.std.specs.List.{slice_get}
use Rattle.std.proofs.lemmas.List.{length-map}
use Rattle.std.proofs.lemmas.Option.{slice_get_read, slice_get-get_or}
use Rattle.link_graphs.specs.declared.chains.Link.TheVariants.{End}
use Rattle.link_graphs.specs.ChainEnds.{end_now, link_targets}
use Rattle.link_graphs.specs.Finishing.{IsFinishing}
use Rattle.link_graphs.proofs.ChainLaws.{ToldBefore, link_lists, one_told, all_told}
use Rattle.link_graphs.proofs.chains.chain_ends.Goals as goal

pub loop-place-preserved : goal.loop-place-preserved
loop-place-preserved c =
    let links = c.args.links.now in
    let order = c.in_ok-order.order.items in
    let e = c.index-element.result.now in
    let place = c.loop-place.place in
    let less : place < length order =
    (let t = c.loop-place-test.true in let n = c.len-place-end.ensures in omega (arith, c.in_ok-order.order.ok.0)) in
    let at : slice_get order place ≡ Some e =
    slice_get_read order (length order) place e refl less c.index-element.ensures in
    let finishing : IsFinishing (link_lists links) order =
    subst (λ (lists : List (List ℕ)). IsFinishing lists order) c.in_ok-graph.ensures c.in_ok-order.ensures in
    let ends = c.loop-place.ends.items in
    let link = get_or links e End in
    let has : slice_get links e ≡ Some link =
    slice_get-get_or links e End
    (let i = finishing.elements place e at in let l = length-map links link_targets in omega arith) in
    subst (λ (end : Option ℕ). ToldBefore links order (place + 1) (set ends e end))
    (sym (c.end_of.ensures ∙ ap (λ (xs : List (Option ℕ)). end_now link e xs) c.as_slice.ensures.value))
    (one_told links order finishing place e at ends c.loop-place.invariant link has)

pub returns : goal.returns
returns c =
    let links = c.args.links.now in
    let order = c.in_ok-order.order.items in
    let finishing : IsFinishing (link_lists links) order =
    subst (λ (lists : List (List ℕ)). IsFinishing lists order) c.in_ok-graph.ensures c.in_ok-order.ensures in
    all_told links order c.loop-place.place c.loop-place.ends.items finishing
    (let t = c.loop-place-test.false in let n = c.len-place-end.ensures in omega (arith, c.in_ok-order.order.ok.0))
    c.loop-place.invariant

-- A place more, and all of them.
use Rattle.std.proofs.Common.{◌∙◌, ◌∷◌, [], map, sym, subst, ap}
use Rattle.std.proofs.lemmas.List.{map-append}
use Rattle.std.proofs.lemmas.Map.Iter.{iter_end}
use Rattle.std.specs.Map.Iter.{deref}
use Rattle.permitted_bounds.specs.LeftBounds.{IsLeft}
use Rattle.property_faults.specs.TableFaults.{types_at}
use Rattle.property_faults.proofs.PlacedTypes.{types_more}
use Rattle.property_faults.proofs.property_faults.narrowed.Goals as goal

pub loop-place-preserved : goal.loop-place-preserved
loop-place-preserved c = λ syntax begun.
    let table = c.args.table.now in
    let done = map deref c.loop-place.yielded in
    let more = ap (types_at table) (map-append deref c.loop-place.yielded (c.in-Some.place ∷ []))
    ∙ types_more table done c.in-Some.place.now in
    subst (λ types. IsLeft syntax types c.in_ok-left.left) (sym more)
    (c.in_ok-left.ensures syntax (types_at table done) (c.loop-place.invariant syntax begun))

pub returns : goal.returns
returns c = λ syntax begun.
    let all = iter_end deref c.args.places.now.keys c.loop-place.yielded c.into_iter-place-iterator.result
    c.loop-place.place-iterator c.next.new.self c.next.result
    (c.into_iter-place-iterator.ensures.into_iter_gives ∙ c.iter-place-items.ensures.rest)
    c.loop-place.yielded_by c.in-None.is c.next.ensures.steps in
    subst (λ places. IsLeft syntax (types_at c.args.table.now places) c.loop-place.left) all.0
    (c.loop-place.invariant syntax begun)

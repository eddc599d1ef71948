-- A place more, and all of them.
use Rattle.std.proofs.Common.{◌≡◌, ◌++◌, ◌∷◌, [], map, sym, ap, ◌∙◌}
use Rattle.std.proofs.lemmas.List.{append_assoc, append-nil, map-append}
use Rattle.std.specs.List.{filter_map}
use Rattle.std.specs.Map.Iter.{deref}
use Rattle.schema_records.specs.PropertyRecords.{type_name}
use Rattle.schema_records.proofs.PlaceLaws.{found_pushed}
use Rattle.schema_records.proofs.property_records.names_at.Goals as goal

pub loop-place-preserved : goal.loop-place-preserved
loop-place-preserved c =
    let found = type_name c.args.parts.now.table.now in
    let done = map deref c.loop-place.yielded in
    let place = c.in-Some.place.now in
    let rest = c.next.new.self in
    let split = map-append deref c.loop-place.yielded (c.in-Some.place ∷ []) in (
      ap (λ xs. xs ++ rest) split ∙ append_assoc done (place ∷ []) rest
          ∙ ap (λ xs. done ++ xs) (sym c.in-Some.ensures.steps) ∙ c.loop-place.invariant.0,
      found_pushed found done place c.loop-place.items.items c.push_name.new.items.items c.loop-place.invariant.1
          c.in_ok-push_name.ensures ∙ ap (filter_map found) (sym split),
    )

pub returns : goal.returns
returns c =
    let done = map deref c.loop-place.yielded in
    let all : done ≡ c.args.places.now.keys =
    sym (append-nil done) ∙ ap (λ xs. done ++ xs) (sym c.in-None.ensures.steps.0) ∙ c.loop-place.invariant.0 in record {
      rise = c.iter-place-items.ensures.ordered;
      are = c.loop-place.invariant.1 ∙ ap (filter_map (type_name c.args.parts.now.table.now)) all;
    }

-- The objects between the two places, one after the other.
use Rattle.std.proofs.Common.{◌≡◌, ◌+◌, ◌++◌, ◌∷◌, ◌∙◌, [], ap, arith, get_or, length, length-append, sym, take}
use Rattle.std.proofs.lemmas.List.{map-append}
use Rattle.std.specs.Arc.{arc_value}
use Rattle.std.specs.Borrow.{Bor}
use Rattle.term_model.specs.declared.objects.NamedObject.{NamedObject}
use Rattle.scope_select.specs.Subtrees.{referred, subtree_of}
use Rattle.mo_list.specs.Entries.{objects_in}
use Rattle.mo_list.proofs.CutLaws.{all_in_front, in_order, none_in_front, one_further, one_subtree, taken_fewer}
use Rattle.mo_list.proofs.PlaceLaws.{Entry, length_objects}
use Rattle.mo_list.proofs.places.subtree_in.Goals as goal

pub loop-at-init : goal.loop-at-init
loop-at-init g c =
    let objects = objects_in c.args.entries.now in
    let place = c.place_of-first.ensures.place in
    let base = c.args.base.now in
    let none : length (referred c.new-found.result.items) ≡ 0 =
    ap (λ found. length (referred found)) c.new-found.ensures.items in (
      omega arith,
      in_order base objects c.place_of-first.result c.end_of-end.result place.front c.end_of-end.ensures.end.behind
          place.within,
      ap referred c.new-found.ensures.items
          ∙ sym (none_in_front base (take c.place_of-first.result objects) place.front),
      omega (arith, none),
    )

pub returns-in_err-push-clause-visits : goal.returns-in_err-push-clause-visits
returns-in_err-push-clause-visits g c =
    let entries = c.args.entries.now in
    let base = c.args.base.now in
    let place = c.place_of-first.ensures.place in
    let end = c.end_of-end.ensures.end in
    let so_far = c.loop-at.invariant in
    let more =
    ap length (one_further base entries c.place_of-first.result c.end_of-end.result c.loop-at.at c.index-entries-at.result
    place.behind end.front so_far.0 (omega arith) (omega (arith, end.within, length_objects entries))) in
    let fewer = taken_fewer base (objects_in entries) (c.loop-at.at + 1) in
    let found = length (referred c.loop-at.found.items) in
    one_subtree entries base c.args.steps.now c.place_of-first.new.steps c.end_of-end.new.steps (found + 1)
    c.visit.new.self c.place_of-first.ensures.rises c.place_of-first.ensures.some c.place_of-first.ensures.few
    c.end_of-end.ensures.rises c.end_of-end.ensures.few (omega (arith, so_far.3, c.visit.ensures))
    (omega (arith, so_far.3, c.visit.ensures))
    (omega (
      arith,
      more,
      fewer,
      ap length so_far.2,
      length-append
          (subtree_of (take c.loop-at.at (objects_in entries)) base)
          (arc_value (get_or entries c.loop-at.at c.index-entries-at.result) ∷ []),
    ))

pub loop-at-preserved : goal.loop-at-preserved
loop-at-preserved g c =
    let entries = c.args.entries.now in
    let base = c.args.base.now in
    let place = c.place_of-first.ensures.place in
    let end = c.end_of-end.ensures.end in
    let so_far = c.loop-at.invariant in
    let there = c.deref-entry.ensures ∙ ap (λ (e : Entry). arc_value e) c.index-entries-at.is in
    let pushed : referred c.push.new.self.items ≡ referred c.loop-at.found.items ++ c.deref-entry.result.now ∷ [] =
    ap referred c.in_ok-push.ensures.items
    ∙ map-append (λ (entry : Bor NamedObject). entry.now) c.loop-at.found.items (c.deref-entry.result ∷ []) in
    let further =
    one_further base entries c.place_of-first.result c.end_of-end.result c.loop-at.at c.index-entries-at.result
    place.behind end.front so_far.0 (omega arith) (omega (arith, end.within, length_objects entries)) in (
      omega (arith, so_far.0),
      omega arith,
      pushed ∙ ap (λ found. found ++ c.deref-entry.result.now ∷ []) so_far.2
          ∙ ap (λ x. subtree_of (take c.loop-at.at (objects_in entries)) base ++ x ∷ []) there ∙ sym further,
      omega (
        arith,
        so_far.3,
        c.visit.ensures,
        ap length pushed,
        length-append (referred c.loop-at.found.items)
            (c.deref-entry.result.now ∷ []),
      ),
    )

pub returns-clause-found : goal.returns-clause-found
returns-clause-found g c =
    let objects = objects_in c.args.entries.now in
    let so_far = c.loop-at.invariant in
    let met : c.loop-at.at ≡ c.end_of-end.result = omega (arith, so_far.1) in
    so_far.2 ∙ ap (λ n. subtree_of (take n objects) c.args.base.now) met
    ∙ all_in_front c.args.base.now objects c.end_of-end.result c.end_of-end.ensures.end.behind

pub returns-clause-visits : goal.returns-clause-visits
returns-clause-visits g c =
    let entries = c.args.entries.now in
    let base = c.args.base.now in
    let so_far = c.loop-at.invariant in
    let found = length (referred c.loop-at.found.items) in
    one_subtree entries base c.args.steps.now c.place_of-first.new.steps c.end_of-end.new.steps found c.loop-at.steps
    c.place_of-first.ensures.rises c.place_of-first.ensures.some c.place_of-first.ensures.few
    c.end_of-end.ensures.rises c.end_of-end.ensures.few (omega (arith, so_far.3)) (omega (arith, so_far.3))
    (omega (arith, ap length so_far.2, taken_fewer base (objects_in entries) c.loop-at.at))

pub returns-clause-each : goal.returns-clause-each
returns-clause-each g c =
    let objects = objects_in c.args.entries.now in
    let so_far = c.loop-at.invariant in
    let met : c.loop-at.at ≡ c.end_of-end.result = omega (arith, so_far.1) in
    let all =
    so_far.2 ∙ ap (λ n. subtree_of (take n objects) c.args.base.now) met
    ∙ all_in_front c.args.base.now objects c.end_of-end.result c.end_of-end.ensures.end.behind in
    omega (arith, ap length all, so_far.3, c.place_of-first.ensures.rises, c.end_of-end.ensures.rises)

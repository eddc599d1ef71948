-- LogFull is taken away, and what was known of what it is taken from.
use Rattle.std.proofs.Common.{rules, ◌≡◌, true, ap, ◌∙◌}
use Rattle.object_modifications.specs.Knowing.{forgotten}
use Rattle.object_modifications.specs.Settling.{ends_full_by}
use Rattle.object_modifications.specs.StatusPlaces.{full_taken}
use Rattle.object_modifications.proofs.KnowingLaws.{known_freed_by}
use Rattle.object_modifications.proofs.StatusLaws.{freed_full}
use Rattle.object_modifications.proofs.settling.end_full.Goals as goal

pub returns-in_ok-take_full-clause-attributes : goal.returns-in_ok-take_full-clause-attributes
returns-in_ok-take_full-clause-attributes c = λ places.
    let records = c.args.records.now in
    let ends : ends_full_by records c.args.seen.now.bound c.args.id.now ≡ true = search rules in
    let slice : c.as_slice.result.now ≡ c.args.seen.now.statuses.items = search rules in
    c.in_ok-take_full.ensures
    ∙ freed_full records c.args.seen.now.bound c.args.id.now c.as_slice.result.now c.args.attributes.now.items ends
    (slice ∙ places)

pub returns-in_ok-take_full-clause-knowledge : goal.returns-in_ok-take_full-clause-knowledge
returns-in_ok-take_full-clause-knowledge c = λ schema class same places all.
    let records = c.args.records.now in
    let xs = c.args.attributes.now.items in
    let slice : c.as_slice.result.now ≡ c.args.seen.now.statuses.items = search rules in
    let forgets : c.forget.new.knowledge.items ≡ forgotten c.args.seen.now.statuses.items c.args.knowledge.now.items =
    search rules in
    known_freed_by schema class records c.args.seen.now.statuses.items xs c.take_full.new.attributes.items
    c.args.knowledge.now.items c.forget.new.knowledge.items same places all
    (c.in_ok-take_full.ensures ∙ ap (λ ps. full_taken records ps xs) slice) forgets

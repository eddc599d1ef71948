use Rattle.std.proofs.Common.{◌≡◌, ◌<◌, ◌/◌, length, arith, rules}
use Rattle.std.specs.declared.cmp.Ordering.TheVariants.{Less, Equal, Greater}
use Rattle.term_model.specs.FilterTruth.{value_in}
use Rattle.cmis_filter.proofs.HalvesLaws.{found_at, left_before, left_behind, order}
use Rattle.cmis_filter.proofs.held_values.value_by_halves.Goals as goal

pub halves-preserved-in-Less : goal.halves-preserved-in-Less
halves-preserved-in-Less c =
    let rest = c.halves.rest.now in
    let id = c.args.id.now in
    let within : length c.halves.rest.now / 2 < length c.halves.rest.now = first_of (search rules, omega arith) in
    let low : order c.index-rest-middle.result.id c.args.id.now ≡ Less = first_of (search rules, cc) in
    left_behind rest id (length rest / 2) c.index-rest-middle.result (value_in c.args.attributes.now id)
    (length c.args.attributes.now) c.halves.invariant within c.index-rest-middle.is low

pub halves-preserved : goal.halves-preserved
halves-preserved c =
    let rest = c.halves.rest.now in
    let id = c.args.id.now in
    let within : length c.halves.rest.now / 2 < length c.halves.rest.now = first_of (search rules, omega arith) in
    let high : order c.index-rest-middle.result.id c.args.id.now ≡ Greater = first_of (search rules, cc) in
    left_before rest id (length rest / 2) c.index-rest-middle.result (value_in c.args.attributes.now id)
    (length c.args.attributes.now) c.halves.invariant within c.index-rest-middle.is high

pub returns-in-Equal : goal.returns-in-Equal
returns-in-Equal c =
    let rest = c.halves.rest.now in
    let id = c.args.id.now in
    let within : length c.halves.rest.now / 2 < length c.halves.rest.now = first_of (search rules, omega arith) in
    let same : order c.index-rest-middle.result.id c.args.id.now ≡ Equal = first_of (search rules, cc) in
    found_at rest id (length rest / 2) c.index-rest-middle.result _ (value_in c.args.attributes.now id)
    (length c.args.attributes.now) c.halves.invariant within c.index-rest-middle.is same

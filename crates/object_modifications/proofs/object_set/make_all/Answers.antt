-- The object is seen and weighed, and then each modification is made.
use Rattle.std.proofs.Common.{rules, ◌≡◌}
use Rattle.term_values.specs.Lengths.{counted}
use Rattle.attribute_rules.specs.Weights.{weights}
use Rattle.object_modifications.proofs.StartLaws.{begun_made, made_all, weighed}
use Rattle.object_modifications.proofs.object_set.make_all.Goals as goal

pub modify_all-requires : goal.modify_all-requires
modify_all-requires c =
    let sum : c.in_ok-size.size
    ≡ counted (weights c.args.schema.now.attributes c.in_ok-seen.seen.bound c.args.object.now.attrs) =
    search rules in
    begun_made c.args.schema.now c.args.object.now c.in_ok-seen.seen c.in_ok-size.size c.in_ok-made.made
    c.in_ok-made.ensures.made c.in_ok-made.ensures.size c.in_ok-made.ensures.untried
    (weighed c.args.schema.now c.args.object.now c.in_ok-seen.seen c.in_ok-size.size c.in_ok-seen.ensures sum
    c.requires.small)

pub returns : goal.returns
returns c =
    let named : c.as_slice-2.result.now ≡ c.args.name.now = search rules in
    made_all c.args.schema.now c.args.name.now c.as_slice-2.result.now c.args.object.now c.in_ok-made.made
    c.args.changes.now _ named c.in_ok-made.ensures.made c.in_ok-modify_all.ensures.made

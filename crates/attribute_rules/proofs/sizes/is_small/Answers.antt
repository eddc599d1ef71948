-- The count tells.
use Rattle.std.proofs.Common.{rules, ◌≡◌}
use Rattle.term_values.specs.Lengths.{counted}
use Rattle.term_model.specs.BoundClasses.{is_bound_log}
use Rattle.attribute_rules.specs.Weights.{weights}
use Rattle.attribute_rules.proofs.WeightLaws.{size_large, size_small}
use Rattle.attribute_rules.proofs.sizes.is_small.Goals as goal

pub returns-clause-small : goal.returns-clause-small
returns-clause-small c =
    let class : c.in_ok-bound.bound ≡ is_bound_log c.args.schema.now c.args.object.now.class = search rules in
    let sum : c.in_ok-size.size
    ≡ counted (weights c.args.schema.now.attributes c.in_ok-bound.bound c.args.object.now.attrs) =
    search rules in
    size_small c.args.schema.now c.args.object.now c.in_ok-bound.bound c.in_ok-size.size c.is_within.result class sum
    c.is_within.ensures

pub returns-clause-large : goal.returns-clause-large
returns-clause-large c =
    let class : c.in_ok-bound.bound ≡ is_bound_log c.args.schema.now c.args.object.now.class = search rules in
    let sum : c.in_ok-size.size
    ≡ counted (weights c.args.schema.now.attributes c.in_ok-bound.bound c.args.object.now.attrs) =
    search rules in
    size_large c.args.schema.now c.args.object.now c.in_ok-bound.bound c.in_ok-size.size c.is_within.result class sum
    c.is_within.ensures

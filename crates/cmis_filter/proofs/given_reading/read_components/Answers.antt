use Rattle.std.proofs.Common.{rules, ◌≡◌, sym, arith}
use Rattle.term_values.specs.Tree.{listed}
use Rattle.cmis_filter.proofs.PartCounts.{no_given}
use Rattle.cmis_filter.proofs.given_reading.read_components.Goals as goal

pub returns-in-len1 : goal.returns-in-len1
returns-in-len1 c =
    let whole : c.args.trees.now ≡ listed c.as_slice.result.now = search rules in
    rw whole (sym (no_given c.args.set.now.attributes c.as_slice.result.now (λ two. omega arith)))

pub returns-in-len3-up : goal.returns-in-len3-up
returns-in-len3-up c =
    let whole : c.args.trees.now ≡ listed c.as_slice.result.now = search rules in
    rw whole (sym (no_given c.args.set.now.attributes c.as_slice.result.now (λ two. omega arith)))

use Rattle.std.proofs.Common.{rules, ◌≡◌, sym, arith}
use Rattle.term_values.specs.FilterTrees.{is_one_attribute_id}
use Rattle.term_values.specs.Tree.{listed}
use Rattle.ber_values.proofs.CountLaws.{no_one_id}
use Rattle.ber_values.proofs.filter_reading.is_one_attribute_id.Goals as goal

pub returns-in-len2-up : goal.returns-in-len2-up
returns-in-len2-up c =
    let whole : c.args.trees.now ≡ listed c.as_slice.result.now = search rules in
    rw whole (sym (no_one_id c.as_slice.result.now (omega arith)))

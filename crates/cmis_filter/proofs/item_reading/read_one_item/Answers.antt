use Rattle.std.proofs.Common.{rules, ◌≡◌, sym, arith}
use Rattle.term_values.specs.Tree.{listed}
use Rattle.cmis_filter.proofs.PartCounts.{no_one_item}
use Rattle.cmis_filter.proofs.item_reading.read_one_item.Goals as goal

pub returns-in-len2-up : goal.returns-in-len2-up
returns-in-len2-up c =
    let whole : c.args.trees.now ≡ listed c.as_slice.result.now = search rules in
    rw whole (sym (no_one_item c.args.set.now.attributes c.as_slice.result.now (omega arith)))

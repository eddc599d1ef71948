use Rattle.std.proofs.Common.{rules, ◌≡◌, sym, arith}
use Rattle.term_values.specs.Tree.{listed}
use Rattle.cmis_filter.proofs.PartCounts.{no_one_id}
use Rattle.cmis_filter.proofs.item_reading.read_one_id.Goals as goal

pub returns-in-len2-up : goal.returns-in-len2-up
returns-in-len2-up c =
    let whole : c.args.trees.now ≡ listed c.as_slice.result.now = search rules in
    rw whole (sym (no_one_id c.as_slice.result.now (omega arith)))

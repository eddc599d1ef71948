use Rattle.std.proofs.Common.{rules, ◌≡◌, sym, arith}
use Rattle.term_values.specs.FilterTrees.{is_one_filter}
use Rattle.term_values.specs.Tree.{listed}
use Rattle.ber_values.proofs.CountLaws.{no_one_filter}
use Rattle.ber_values.proofs.filter_reading.+filters.Goals as goal

pub is_one_filter-returns-in-len2-up : goal.is_one_filter-returns-in-len2-up
is_one_filter-returns-in-len2-up t c =
    let whole : c.args.trees.now ≡ listed c.as_slice.result.now = search rules in
    rw whole (sym (no_one_filter c.as_slice.result.now (omega arith)))

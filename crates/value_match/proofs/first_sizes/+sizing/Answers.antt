use Rattle.std.proofs.Common.{rules, ◌≡◌, sym, arith}
use Rattle.term_values.specs.PartsView.{parts_listed}
use Rattle.value_match.proofs.SizeLaws.{size_past}
use Rattle.value_match.proofs.first_sizes.+sizing.Goals as goal

pub pick_size-returns : goal.pick_size-returns
pick_size-returns t c =
    let parts : c.args.parts.now ≡ parts_listed c.as_slice-items.result.now = search rules in
    rw parts (sym (size_past c.as_slice-items.result.now c.args.index c.args.value.now (omega arith)))

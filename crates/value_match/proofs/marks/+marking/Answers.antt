use Rattle.std.proofs.Common.{rules, ◌≡◌, sym, arith}
use Rattle.term_values.specs.PartsView.{parts_listed}
use Rattle.value_match.proofs.KeyLaws.{mark_past}
use Rattle.value_match.proofs.marks.+marking.Goals as goal

pub pick_mark-returns : goal.pick_mark-returns
pick_mark-returns t c =
    let parts : c.args.parts.now ≡ parts_listed c.as_slice-items.result.now = search rules in
    rw parts (sym (mark_past c.as_slice-items.result.now c.args.index c.args.value.now (omega arith)))

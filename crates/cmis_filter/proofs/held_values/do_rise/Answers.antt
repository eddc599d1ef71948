use Rattle.std.proofs.Common.{◌-◌, ◌≤◌, drop, length, length-drop, sym, ◌∙◌, arith}
use Rattle.cmis_filter.proofs.HalvesLaws.{short_rises}
use Rattle.cmis_filter.proofs.held_values.do_rise.Goals as goal

pub returns : goal.returns
returns c =
    let left = drop (c.loop-next.next - 1) c.args.attributes.now in
    let short : length (drop (c.loop-next.next - 1) c.args.attributes.now) ≤ 1 =
    omega (arith, length-drop (c.loop-next.next - 1) c.args.attributes.now) in
    sym (short_rises left short) ∙ c.loop-next.invariant

use Rattle.std.proofs.Common.{◌<◌, arith}
use Rattle.ber_tree.proofs.SubidentifierLaws.{five_groups, grouped-take_more, group_more}
use Rattle.ber_tree.proofs.tree_reading.read_groups.Goals as goal

pub overflow_mul-value : goal.overflow_mul-value
overflow_mul-value c = let e = five_groups c.loop-octet.octet-index (omega arith) in omega arith

pub overflow_add-value : goal.overflow_add-value
overflow_add-value c = let e = five_groups c.loop-octet.octet-index (omega arith) in let f =
    c.from.ensures in omega arith

pub loop-octet-preserved : goal.loop-octet-preserved
loop-octet-preserved c =
    let octets = c.args.octets.now in
    let i = c.loop-octet.octet-index in
    let f = c.from.ensures in
    let small : c.from.result < 128 = omega arith in
    let e = grouped-take_more octets i (omega arith) in
    (omega arith, group_more i c.loop-octet.value c.from.result c.loop-octet.invariant.1 small)

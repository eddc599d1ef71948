use Rattle.std.proofs.Common.{◌≡◌, ◌<◌, ◌+◌, ◌*◌, ◌∙◌, sym, ap, get_or, arith}
use Rattle.ber_tree.proofs.IntegerLaws.{eight_octets, turned_more, turned_below, power_more}
use Rattle.ber_tree.specs.Integers.{octet_turned}
use Rattle.ber_tree.proofs.tree_reading.read_turned.Goals as goal
use Rattle.ber_tree.proofs.tree_reading.read_turned.Goals.{then-negative, else-negative}

pub overflow_mul-value : goal.overflow_mul-value
overflow_mul-value c = let e = eight_octets c.loop-octet.octet-index (omega arith) in omega arith

pub overflow_add-value : goal.overflow_add-value
overflow_add-value c =
    let octets = c.args.octets.now in
    let i = c.loop-octet.octet-index in
    let bits : c.if-negative.bits ≡ octet_turned c.args.negative (get_or octets i 0) =
    elim c.if-negative.branch [
      | then-negative w ↦ rw w.if-negative.true w.bits-is
      | else-negative w ↦
          rw w.if-negative.false w.bits-is
    ] in
    let small : c.from.result < 256 =
    rw (c.from.ensures ∙ bits)
    (turned_below c.args.negative (get_or octets i 0) (omega (arith, c.type_inv.octets i))) in
    let e = eight_octets i (omega arith) in
    omega arith

pub loop-octet-preserved : goal.loop-octet-preserved
loop-octet-preserved c =
    let octets = c.args.octets.now in
    let i = c.loop-octet.octet-index in
    let bits : c.if-negative.bits ≡ octet_turned c.args.negative (get_or octets i 0) =
    elim c.if-negative.branch [
      | then-negative w ↦ rw w.if-negative.true w.bits-is
      | else-negative w ↦
          rw w.if-negative.false w.bits-is
    ] in
    let small : c.from.result < 256 =
    rw (c.from.ensures ∙ bits)
    (turned_below c.args.negative (get_or octets i 0) (omega (arith, c.type_inv.octets i))) in
    let e = turned_more c.args.negative octets i c.from.result (omega arith) (c.from.ensures ∙ bits) in (
      ap (λ n. n * 256 + c.from.result) c.loop-octet.invariant.0
          ∙ sym e,
      power_more i c.loop-octet.value c.from.result c.loop-octet.invariant.1 small,
    )

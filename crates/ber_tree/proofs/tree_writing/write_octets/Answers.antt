use Rattle.std.proofs.Common.{◌≡◌, ◌-◌, ◌/◌, ◌%◌, ◌*◌, ◌^◌, arith}
use Rattle.ber_tree.proofs.WritingLaws.{octet_pushed}
use Rattle.ber_tree.specs.Integers.{octet_turned}
use Rattle.ber_tree.proofs.Extending.{extends_trans, extends_push}
use Rattle.ber_tree.proofs.tree_writing.write_octets.Goals as goal
use Rattle.ber_tree.proofs.tree_writing.write_octets.Goals.{then-turned, else-turned}

pub loop-place-preserved : goal.loop-place-preserved
loop-place-preserved c =
    let p = c.loop-place.place - 1 in
    let value : c.if-turned.push ≡ octet_turned c.args.turned (c.args.number / 2 ^ (8 * p) % 256) =
    elim c.if-turned.branch [
      | then-turned w ↦ rw w.if-turned.true w.push-is
      | else-turned w ↦
          rw w.if-turned.false w.push-is
    ] in (
      omega arith,
      octet_pushed c.args.turned c.loop-place.into.items c.push.new.self.items _ c.loop-place.place p
          c.args.number c.if-turned.push (omega arith) value c.in_ok-push.ensures.items c.loop-place.invariant.1,
      extends_trans _ _ _ c.loop-place.invariant.2 (extends_push _ _ _ _ c.push.ensures.items),
    )

use Rattle.std.proofs.Common.{◌-◌, length, get_or, ◌<◌, arith}
use Rattle.value_fits.proofs.LeafLaws.{last_cleared}
use Rattle.value_fits.proofs.leaves.is_cleared.Goals as goal

pub returns-in-len1-up : goal.returns-in-len1-up
returns-in-len1-up c =
    let octets = c.args.octets.now in
    let small : get_or octets (length octets - 1) 0 < 256 = (c.type_inv.octets (length octets - 1)).fits in
    last_cleared octets c.args.unused (omega arith) small

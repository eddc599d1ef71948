-- The tree is no Invoke.
use Rattle.std.proofs.Common.{sym}
use Rattle.apdu_receiving.specs.Arrivals.{is_listed}
use Rattle.apdu_receiving.proofs.receiving.receive_tree.Goals as goal

pub returns-in-None : goal.returns-in-None
returns-in-None c =
    c.receive_other.ensures (sym (rw c.in-None.is at c.inside_of.ensures)) c.args.schema.now
    (is_listed c.args.in_use.now)

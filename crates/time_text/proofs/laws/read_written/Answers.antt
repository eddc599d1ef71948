use Rattle.std.proofs.Common.{arith, min}
use Rattle.time_text.proofs.SameLaws.{read_is}
use Rattle.time_text.proofs.laws.read_written.Goals as goal

pub returns : goal.returns
returns c =
    read_is c.read_time.result (min c.args.seconds 253370764799) c.write_time.result (omega arith) c.write_time.ensures
    c.read_time.ensures.told c.read_time.ensures.bad

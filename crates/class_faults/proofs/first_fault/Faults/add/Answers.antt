-- Of what was noted before and this fault the first is kept.
use Rattle.class_faults.proofs.NotingLaws.{one_noted}
use Rattle.class_faults.proofs.first_fault.Faults.add.Goals as goal

pub returns : goal.returns
returns c = one_noted c.args.self.now.first c.args.fault c.earlier_fault.result c.earlier_fault.ensures.one
    c.earlier_fault.ensures.no_later c.earlier_fault.ensures.least

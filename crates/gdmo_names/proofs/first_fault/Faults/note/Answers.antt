-- Of what was noted before and this fault the first is kept.
use Rattle.gdmo_names.proofs.NotingLaws.{one_noted}
use Rattle.gdmo_names.proofs.first_fault.Faults.note.Goals as goal

pub returns : goal.returns
returns c = one_noted c.args.self.now.first
    (record { document = c.args.document; token = c.args.token.now.at; kind = c.args.kind })
    c.earlier_fault.result c.earlier_fault.ensures.one c.earlier_fault.ensures.no_later c.earlier_fault.ensures.least

-- What was found is noted, and nothing else.
use Rattle.std.proofs.Common.{◌∙◌, sym}
use Rattle.std.proofs.lemmas.Bool.{false≢true}
use Rattle.class_faults.specs.NotedFaults.{kind_of}
use Rattle.class_faults.proofs.NotingLaws.{one_not, one_there}
use Rattle.property_faults.proofs.property_faults.note_where.Goals as goal

pub returns-then-found : goal.returns-then-found
returns-then-found c = one_there c.if-found.true c.note.ensures

pub returns : goal.returns
returns c = one_not (kind_of c.args.kind) c.args.head.now.document c.args.head.now.label.at c.args.faults.now.first
    (λ is. false≢true (sym c.if-found.false ∙ is))

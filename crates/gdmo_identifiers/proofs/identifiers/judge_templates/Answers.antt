-- What is told of the templates' arcs, and judged.
use Rattle.std.proofs.Common.{subst, sym}
use Rattle.asn1_numbers.proofs.LeadingLaws.{if_ok_by}
use Rattle.gdmo_identifiers.specs.IdentifierTables.{TellAllArcs}
use Rattle.gdmo_identifiers.proofs.identifiers.judge_templates.Goals as goal

pub returns-clause-is : goal.returns-clause-is
returns-clause-is c = if_ok_by c.judge_told.result (λ own tells parts all are known whole.
    tells parts all are (subst (TellAllArcs parts c.all_arcs.new.known.numbers.lists) (sym c.as_slice.ensures.value)
    (c.in_ok-told.ensures.is parts known whole all))) c.judge_told.ensures

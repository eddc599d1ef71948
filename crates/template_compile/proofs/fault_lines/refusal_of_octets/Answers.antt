use Rattle.template_compile.proofs.FaultLaws.{lexing_told}
use Rattle.template_compile.proofs.fault_lines.refusal_of_octets.Goals as goal

pub returns-in-Lexing : goal.returns-in-Lexing
returns-in-Lexing c = lexing_told c.args.documents.now c.in-Lexing.document c.in-Lexing.at c.in-Lexing.is
    c.lexing_kind.ensures c.fault_at.ensures

use Rattle.std.proofs.Common.{refl}
use Rattle.template_compile.proofs.FaultLaws.{syntax_told}
use Rattle.template_compile.proofs.fault_lines.refusal_of_tokens.Goals as goal

pub returns-in-Syntax : goal.returns-in-Syntax
returns-in-Syntax c = λ lexed first. syntax_told c.args.documents.now c.args.lists.now c.in-Syntax.document
    c.in-Syntax.token c.line_at_token.result c.in-Syntax.is refl c.line_at_token.ensures lexed first

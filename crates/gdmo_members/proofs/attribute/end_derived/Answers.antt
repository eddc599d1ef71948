-- The semicolon, and the attribute as it was handed in.
use Rattle.std.proofs.Common.{refl}
use Rattle.token_grammar.proofs.Exits.{exit_reads}
use Rattle.gdmo_members.specs.Templates.{templates}
use Rattle.gdmo_members.proofs.attribute.end_derived.Goals as goal

pub returns-in_err-next-clause-reads : goal.returns-in_err-next-clause-reads
returns-in_err-next-clause-reads c =
    exit_reads _ c.from_residual.result c.from_residual.ensures.1 (c.in_err-next.ensures templates)

pub returns : goal.returns
returns c = record { reads = c.in_ok-next.ensures templates; made = refl }

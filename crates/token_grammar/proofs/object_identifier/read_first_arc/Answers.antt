-- A name alone, or an arc that has its number.
use Rattle.std.proofs.Common.{◌∙◌, sym}
use Rattle.token_grammar.proofs.Sequences.{fails_by}
use Rattle.token_grammar.proofs.Exits.{exit_reads}
use Rattle.token_grammar.proofs.Parts.{bare_name, bare_name_fault, numbered_arc, numbered_arc_fault}
use Rattle.token_grammar.proofs.object_identifier.read_first_arc.Goals as goal

pub returns-in_err-name : goal.returns-in_err-name
returns-in_err-name c = λ grammar. exit_reads _ c.from_residual.result c.from_residual.ensures.1
    (fails_by (λ k r. bare_name_fault (sym c.is_name_without.ensures ∙ c.if-is_name_without.true) r)
    (c.in_err-name.ensures grammar))

pub returns-then-is_name_without : goal.returns-then-is_name_without
returns-then-is_name_without c =
    λ grammar. bare_name (sym c.is_name_without.ensures ∙ c.if-is_name_without.true) (c.in_ok-name.ensures grammar)

pub returns-in_err-arc : goal.returns-in_err-arc
returns-in_err-arc c = λ grammar. exit_reads _ c.from_residual-in_err-arc.result c.from_residual-in_err-arc.ensures.1
    (fails_by (λ k r. numbered_arc_fault (sym c.is_name_without.ensures ∙ c.if-is_name_without.false) r)
    (c.in_err-arc.ensures grammar))

pub returns : goal.returns
returns c = λ grammar. numbered_arc (sym c.is_name_without.ensures ∙ c.if-is_name_without.false)
    (c.in_ok-arc.ensures grammar)

-- The name of the document, where it stands, and then the label.
use Rattle.std.proofs.Common.{refl, false}
use Rattle.token_grammar.proofs.Sequences.{apart_by, spelt_then, fails_front, fails_rest}
use Rattle.token_grammar.proofs.Heads.{unknown, heads_unknown}
use Rattle.token_grammar.proofs.Known.{at_string}
use Rattle.token_grammar.proofs.Exits.{exit_reads}
use Rattle.token_grammar.specs.TokenTests.{is_label}
use Rattle.token_grammar.specs.Form.{Keep}
use Rattle.token_grammar.proofs.label_reference.read_label_reference.Goals as goal

pub returns-in_err-document : goal.returns-in_err-document
returns-in_err-document c =
    λ grammar. exit_reads _ c.from_residual.result c.from_residual.ensures.1
    (fails_front (apart_by unknown heads_unknown (Keep is_label) refl (at_string false is_label (λ at text. refl)))
    (c.in_err-document.ensures grammar))

pub returns-in_err-label : goal.returns-in_err-label
returns-in_err-label c =
    λ grammar. exit_reads _ c.from_residual-in_err-label.result c.from_residual-in_err-label.ensures.1
    (fails_rest (c.in_ok-document.ensures grammar)
    (apart_by unknown heads_unknown (Keep is_label) refl (at_string false is_label (λ at text. refl)))
    (c.in_err-label.ensures grammar))

pub returns : goal.returns
returns c = λ grammar. (spelt_then (c.in_ok-document.ensures grammar)
    (apart_by unknown heads_unknown (Keep is_label) refl (at_string false is_label (λ at text. refl)))
    (c.in_ok-label.ensures grammar))

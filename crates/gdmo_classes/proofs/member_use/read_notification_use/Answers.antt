-- What names it, and the references behind it.
use Rattle.std.proofs.Common.{refl, codes}
use Rattle.token_grammar.proofs.Exits.{exit_reads}
use Rattle.gdmo_members.specs.Clauses.{parameters, reference_row}
use Rattle.token_grammar.proofs.OpenParts.{fails_front_on, beside_reads_on}
use Rattle.gdmo_classes.proofs.PartEnds.{word_meets}
use Rattle.gdmo_classes.specs.ClassForms.{is_word_or_string}
use Rattle.token_grammar.specs.Parts.{vector_tree}
use Rattle.gdmo_members.specs.MemberTrees.{parameter_reference_tree}
use Rattle.gdmo_classes.specs.UseTrees.{notification_reference_tree}
use Rattle.gdmo_classes.proofs.member_use.read_notification_use.Goals as goal

pub returns-in_err-notification : goal.returns-in_err-notification
returns-in_err-notification c =
    exit_reads _ c.from_residual.result c.from_residual.ensures.1
    (fails_front_on (word_meets (codes "NOTIFICATION") is_word_or_string (reference_row parameters) (λ at. refl)
    (λ at. refl)) c.in_err-notification.ensures)

pub returns-in_err-parts : goal.returns-in_err-parts
returns-in_err-parts c = exit_reads _ c.from_residual-in_err-parts.result c.from_residual-in_err-parts.ensures.1
    (beside_reads_on c.args.tokens.now (reference_row parameters) notification_reference_tree
    (vector_tree parameter_reference_tree) _ c.read_parameter_row.result _ c.in_ok-notification.ensures
    (word_meets (codes "NOTIFICATION") is_word_or_string (reference_row parameters) (λ at. refl) (λ at. refl))
    c.read_parameter_row.ensures c.in_err-parts.ensures)

pub returns : goal.returns
returns c = (beside_reads_on c.args.tokens.now (reference_row parameters) notification_reference_tree
    (vector_tree parameter_reference_tree) _ c.read_parameter_row.result _ c.in_ok-notification.ensures
    (word_meets (codes "NOTIFICATION") is_word_or_string (reference_row parameters) (λ at. refl) (λ at. refl))
    c.read_parameter_row.ensures c.in_ok-parts.ensures)

-- What names it, and the references behind it.
use Rattle.std.proofs.Common.{refl, codes}
use Rattle.token_grammar.proofs.Exits.{exit_reads}
use Rattle.gdmo_members.specs.Clauses.{attributes, reference_row}
use Rattle.token_grammar.proofs.OpenParts.{fails_front_on, beside_reads_on}
use Rattle.gdmo_classes.proofs.PartEnds.{word_meets}
use Rattle.gdmo_classes.specs.ClassForms.{is_word_or_string}
use Rattle.token_grammar.specs.Parts.{vector_tree}
use Rattle.gdmo_members.specs.MemberTrees.{attribute_reference_tree}
use Rattle.gdmo_classes.specs.UseTrees.{group_reference_tree}
use Rattle.gdmo_classes.proofs.member_use.read_group_use.Goals as goal

pub returns-in_err-group : goal.returns-in_err-group
returns-in_err-group c =
    exit_reads _ c.from_residual.result c.from_residual.ensures.1
    (fails_front_on (word_meets (codes "ATTRIBUTE") is_word_or_string (reference_row attributes) (λ at. refl)
    (λ at. refl)) c.in_err-group.ensures)

pub returns-in_err-parts : goal.returns-in_err-parts
returns-in_err-parts c = exit_reads _ c.from_residual-in_err-parts.result c.from_residual-in_err-parts.ensures.1
    (beside_reads_on c.args.tokens.now (reference_row attributes) group_reference_tree
    (vector_tree attribute_reference_tree) _ c.read_attribute_row.result _ c.in_ok-group.ensures
    (word_meets (codes "ATTRIBUTE") is_word_or_string (reference_row attributes) (λ at. refl) (λ at. refl))
    c.read_attribute_row.ensures c.in_err-parts.ensures)

pub returns : goal.returns
returns c = (beside_reads_on c.args.tokens.now (reference_row attributes) group_reference_tree
    (vector_tree attribute_reference_tree) _ c.read_attribute_row.result _ c.in_ok-group.ensures
    (word_meets (codes "ATTRIBUTE") is_word_or_string (reference_row attributes) (λ at. refl) (λ at. refl))
    c.read_attribute_row.ensures c.in_ok-parts.ensures)

-- The attribute, and its properties and parameters.
use Rattle.std.proofs.Common.{refl, codes}
use Rattle.token_grammar.proofs.Exits.{exit_reads}
use Rattle.gdmo_members.specs.MemberTrees.{attribute_reference_tree}
use Rattle.token_grammar.proofs.OpenParts.{fails_front_on, beside_reads_on}
use Rattle.gdmo_classes.proofs.PartEnds.{word_meets}
use Rattle.gdmo_classes.specs.ClassForms.{is_word_or_string, use_parts}
use Rattle.gdmo_classes.specs.UseTrees.{use_parts_tree}
use Rattle.gdmo_classes.proofs.attribute_use.read_attribute_use.Goals as goal

pub returns-in_err-attribute : goal.returns-in_err-attribute
returns-in_err-attribute c = exit_reads _ c.from_residual.result c.from_residual.ensures.1
    (fails_front_on (word_meets (codes "ATTRIBUTE") is_word_or_string use_parts (λ at. refl) (λ at. refl))
    c.in_err-attribute.ensures)

pub returns-in_err-parts : goal.returns-in_err-parts
returns-in_err-parts c = exit_reads _ c.from_residual-in_err-parts.result c.from_residual-in_err-parts.ensures.1
    (beside_reads_on c.args.tokens.now use_parts attribute_reference_tree use_parts_tree _ c.read_use_parts.result _
    c.in_ok-attribute.ensures (word_meets (codes "ATTRIBUTE") is_word_or_string use_parts (λ at. refl) (λ at. refl))
    c.read_use_parts.ensures c.in_err-parts.ensures)

pub returns : goal.returns
returns c = beside_reads_on c.args.tokens.now use_parts attribute_reference_tree use_parts_tree _
    c.read_use_parts.result _ c.in_ok-attribute.ensures
    (word_meets (codes "ATTRIBUTE") is_word_or_string use_parts (λ at. refl) (λ at. refl)) c.read_use_parts.ensures
    c.in_ok-parts.ensures

-- The class, and whether its subclasses too.
use Rattle.std.proofs.Common.{refl, codes}
use Rattle.token_grammar.proofs.Exits.{exit_reads}
use Rattle.token_grammar.specs.Form.{Maybe}
use Rattle.token_grammar.proofs.OpenParts.{fails_front_on, beside_reads_on}
use Rattle.gdmo_classes.proofs.PartEnds.{word_meets}
use Rattle.gdmo_classes.specs.ClassForms.{is_part_end, subclasses}
use Rattle.token_grammar.specs.Parts.{optional_tree}
use Rattle.gdmo_classes.specs.ClassTrees.{class_reference_tree}
use Rattle.gdmo_classes.specs.BindingTrees.{subclasses_tree}
use Rattle.gdmo_classes.proofs.name_binding.read_class_scope.Goals as goal

pub returns-in_err-class : goal.returns-in_err-class
returns-in_err-class c =
    exit_reads _ c.from_residual.result c.from_residual.ensures.1
    (fails_front_on (word_meets (codes "MANAGED") is_part_end (Maybe subclasses) (λ at. refl) (λ at. refl))
    c.in_err-class.ensures)

pub returns-in_err-parts : goal.returns-in_err-parts
returns-in_err-parts c = exit_reads _ c.from_residual-in_err-parts.result c.from_residual-in_err-parts.ensures.1
    (beside_reads_on c.args.tokens.now (Maybe subclasses) class_reference_tree (optional_tree subclasses_tree) _
    c.read_subclasses.result _ c.in_ok-class.ensures
    (word_meets (codes "MANAGED") is_part_end (Maybe subclasses) (λ at. refl) (λ at. refl)) c.read_subclasses.ensures
    c.in_err-parts.ensures)

pub returns : goal.returns
returns c = (beside_reads_on c.args.tokens.now (Maybe subclasses) class_reference_tree (optional_tree subclasses_tree)
    _ c.read_subclasses.result _ c.in_ok-class.ensures
    (word_meets (codes "MANAGED") is_part_end (Maybe subclasses) (λ at. refl) (λ at. refl)) c.read_subclasses.ensures
    c.in_ok-parts.ensures)

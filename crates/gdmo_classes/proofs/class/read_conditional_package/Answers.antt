-- The package, and when it is present.
use Rattle.std.proofs.Common.{refl, codes}
use Rattle.token_grammar.proofs.Sequences.{fails_front}
use Rattle.token_grammar.proofs.Endings.{beside_reads}
use Rattle.token_grammar.specs.Outcome.{closed}
use Rattle.token_grammar.proofs.Exits.{exit_reads}
use Rattle.gdmo_members.proofs.Apart.{word_apart}
use Rattle.gdmo_classes.specs.ClassForms.{condition}
use Rattle.gdmo_classes.specs.PackageTrees.{package_reference_tree, condition_tree}
use Rattle.gdmo_classes.proofs.class.read_conditional_package.Goals as goal

pub returns-in_err-package : goal.returns-in_err-package
returns-in_err-package c = exit_reads _ c.from_residual.result c.from_residual.ensures.1
    (fails_front (word_apart (codes "PACKAGE") condition refl (λ at. refl)) c.in_err-package.ensures)

pub returns-in_err-parts : goal.returns-in_err-parts
returns-in_err-parts c = exit_reads _ c.from_residual-in_err-parts.result c.from_residual-in_err-parts.ensures.1
    (beside_reads c.args.tokens.now closed condition package_reference_tree condition_tree _ c.read_condition.result _
    c.in_ok-package.ensures (word_apart (codes "PACKAGE") condition refl (λ at. refl)) c.read_condition.ensures
    c.in_err-parts.ensures)

pub returns : goal.returns
returns c = beside_reads c.args.tokens.now closed condition package_reference_tree condition_tree _
    c.read_condition.result _ c.in_ok-package.ensures (word_apart (codes "PACKAGE") condition refl (λ at. refl))
    c.read_condition.ensures c.in_ok-parts.ensures

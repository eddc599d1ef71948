-- What stands beneath the tags.
use Rattle.std.proofs.Common.{◌∙◌, ap, sym}
use Rattle.std.proofs.Math.Path.{subst}
use Rattle.term_values.specs.SyntaxView.{syntax_of}
use Rattle.term_values.specs.Syntaxes.TypeSyntax.{ObjectIdentifier, SequenceOf, SetOf, Tagged}
use Rattle.gdmo_names.specs.ValueNames.{BeginsIn, arcs_name}
use Rattle.gdmo_names.specs.ValueNames.BeginsIn.{arcs, tagged}
use Rattle.gdmo_begun_names.specs.BegunMarks.{MaybeFirst}
use Rattle.gdmo_begun_names.specs.PartNames.{BeginsChosen, BeginsWithin, IsComponent, IsElement}
use Rattle.gdmo_begun_names.proofs.SyntaxLaws.{arcs_in, choice_in, in_choice, in_list, in_sequence, in_set, in_set_of}
use Rattle.gdmo_begun_names.proofs.SyntaxLaws.{list_in, sequence_in, set_in, set_of_in, untagged}
use Rattle.gdmo_begun_names.proofs.WalkLaws.{walked}
use Rattle.gdmo_begun_names.proofs.value_names.walk_of.Goals as goal

pub tags-preserved : goal.tags-preserved
tags-preserved c = walked (λ text t. BeginsIn t c.deref-left.result.now text) c.tags.left.now c.args.syntax.now
    (Tagged c.in-Tagged.field-0 c.in-Tagged.field-1 c.in-Tagged.of.value) c.tags.invariant
    (sym c.left.view_is ∙ ap syntax_of c.in-Tagged.is)
    (λ text t h. tagged (subst (λ z. BeginsIn t z text) c.deref-left.ensures h))
    (λ text t h. subst (λ z. BeginsIn t z text) (sym c.deref-left.ensures)
    (untagged c.in-Tagged.field-0 c.in-Tagged.field-1 c.in-Tagged.of.value h))

pub returns-in-Oid : goal.returns-in-Oid
returns-in-Oid c = walked (λ text. MaybeFirst (arcs_name text)) c.tags.left.now c.args.syntax.now
    ObjectIdentifier c.tags.invariant (sym c.left.view_is ∙ ap syntax_of c.in-Oid.is)
    (λ text t h. arcs h) (λ text t h. arcs_in h)

pub returns-in-Choice : goal.returns-in-Choice
returns-in-Choice c = walked (BeginsChosen c.in-Choice.parts) c.tags.left.now c.args.syntax.now
    _ c.tags.invariant (sym c.left.view_is ∙ ap syntax_of c.in-Choice.is)
    (λ text t h. choice_in c.in-Choice.parts h) (λ text t h. in_choice c.in-Choice.parts h)

pub returns-in-Seq : goal.returns-in-Seq
returns-in-Seq c = walked (BeginsWithin (IsComponent c.in-Seq.parts)) c.tags.left.now c.args.syntax.now
    _ c.tags.invariant (sym c.left.view_is ∙ ap syntax_of c.in-Seq.is)
    (λ text t h. sequence_in c.in-Seq.parts h) (λ text t h. in_sequence c.in-Seq.parts h)

pub returns-in-Unordered : goal.returns-in-Unordered
returns-in-Unordered c = walked (BeginsWithin (IsComponent c.in-Unordered.parts)) c.tags.left.now c.args.syntax.now
    _ c.tags.invariant (sym c.left.view_is ∙ ap syntax_of c.in-Unordered.is)
    (λ text t h. set_in c.in-Unordered.parts h) (λ text t h. in_set c.in-Unordered.parts h)

pub returns-in-ListOf : goal.returns-in-ListOf
returns-in-ListOf c = walked (BeginsWithin (IsElement c.deref.result.now)) c.tags.left.now c.args.syntax.now
    (SequenceOf c.in-ListOf.of.value c.in-ListOf.field-1) c.tags.invariant
    (sym c.left.view_is ∙ ap syntax_of c.in-ListOf.is)
    (λ text t h. list_in c.in-ListOf.of.value c.in-ListOf.field-1
    (subst (λ z. BeginsWithin (IsElement z) text t) c.deref.ensures h))
    (λ text t h. subst (λ z. BeginsWithin (IsElement z) text t) (sym c.deref.ensures)
    (in_list c.in-ListOf.of.value c.in-ListOf.field-1 h))

pub returns-in-SetOf : goal.returns-in-SetOf
returns-in-SetOf c = walked (BeginsWithin (IsElement c.deref-in-SetOf.result.now)) c.tags.left.now c.args.syntax.now
    (SetOf c.in-SetOf.of.value c.in-SetOf.field-1) c.tags.invariant
    (sym c.left.view_is ∙ ap syntax_of c.in-SetOf.is)
    (λ text t h. set_of_in c.in-SetOf.of.value c.in-SetOf.field-1
    (subst (λ z. BeginsWithin (IsElement z) text t) c.deref-in-SetOf.ensures h))
    (λ text t h. subst (λ z. BeginsWithin (IsElement z) text t) (sym c.deref-in-SetOf.ensures)
    (in_set_of c.in-SetOf.of.value c.in-SetOf.field-1 h))

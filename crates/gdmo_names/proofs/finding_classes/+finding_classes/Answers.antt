-- One more reference, and all of them; and the template with its parts.
use Rattle.std.proofs.Common.{◌≡◌, [], ◌∷◌, arith, rules}
use Rattle.gdmo_names.specs.DocumentTemplates.{in_reference}
use Rattle.gdmo_names.specs.ClassViews.{class_reference}
use Rattle.gdmo_names.specs.Mentions.{mention}
use Rattle.gdmo_names.specs.Mentions.Role.{Superclass}
use Rattle.gdmo_names.specs.declared.roles.Role.TheVariants as roles
use Rattle.gdmo_names.proofs.FindingLaws.{finds_as, finds_both, finds_end, finds_none, finds_one, finds_slice, finds_step}
use Rattle.gdmo_names.proofs.FindingLaws.{template_found}
use Rattle.gdmo_names.proofs.ShapeLaws.{class_found, class_fits, in_row, named_row}
use Rattle.gdmo_names.proofs.finding_classes.+finding_classes.Goals as goal

pub find_superclasses-loop-reference-init : goal.find_superclasses-loop-reference-init
find_superclasses-loop-reference-init t c = finds_none c.args.finding.now c.args.own.now.items

pub find_superclasses-loop-reference-preserved : goal.find_superclasses-loop-reference-preserved
find_superclasses-loop-reference-preserved t c =
    finds_step (λ x. in_reference (class_reference x)) (λ x. mention Superclass (class_reference x) ∷ [])
    c.deref-reference-items.result.now c.loop-reference.reference-index c.reference-item.result
    c.loop-reference-test.true c.reference-item.is c.loop-reference.invariant
    (finds_one roles.Superclass c.in_ok-target-in-Some.target (class_reference c.reference-item.result)
    (class_fits c.reference-item.result) c.in_ok-target-in-Some.ensures c.in_ok-push-in-Some.ensures.items)

pub find_class-returns : goal.find_class-returns
find_class-returns t c = template_found c.new-own.ensures.items c.in_ok-number.ensures
    (finds_both c.in_ok-find_superclasses.ensures (finds_both c.in_ok-find_mandatory_clause.ensures
    c.in_ok-find_conditional_clause.ensures)) c.end.ensures

pub find_superclasses-returns-after-loop-reference : goal.find_superclasses-returns-after-loop-reference
find_superclasses-returns-after-loop-reference t c =
    let same : c.deref-reference-items.result.now ≡ c.in-Some.references.items = search rules in
    rw c.in-Some.is (finds_slice Superclass class_reference same
    (finds_as (in_row class_reference c.deref-reference-items.result.now)
    (named_row Superclass class_reference c.deref-reference-items.result.now)
    (finds_end (λ x. in_reference (class_reference x)) (λ x. mention Superclass (class_reference x) ∷ []) c.deref-reference-items.result.now
    c.loop-reference.reference-index (omega (arith, c.loop-reference-test.false)) c.loop-reference.invariant)))

pub class_target-returns-in_ok-find_class-in-Template : goal.class_target-returns-in_ok-find_class-in-Template
class_target-returns-in_ok-find_class-in-Template t c =
    class_found c.args.reference.now c.in-Template.template c.deref.result.now (search rules) (search rules)
    c.in_ok-find_class-in-Template.ensures

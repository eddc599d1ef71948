-- The constraints, one after the other.
use Rattle.std.proofs.Common.{◌∙◌, sym}
use Rattle.std.proofs.Math.Path.{subst}
use Rattle.asn1_names.specs.Constraining.Constrains.{no_more}
use Rattle.asn1_names.specs.NumbersFound.{StatesNumbers}
use Rattle.asn1_names.specs.TermViews.{limit_term, module_terms, type_term}
use Rattle.asn1_types.proofs.ConstrainingLaws.{constrained_end, constrained_none, constrained_step, empty_list}
use Rattle.asn1_types.proofs.SaidLaws.{names_told}
use Rattle.asn1_types.proofs.constraining.constrained.Goals as goal

pub returns-then-is_empty : goal.returns-then-is_empty
returns-then-is_empty c =
    constrained_none (module_terms c.args.numbers.now) c.args.home (type_term c.args.of.now) limit_term
    c.args.constraints.now c.args.syntax (empty_list _ (sym c.is_empty.ensures ∙ c.if-is_empty.true))

pub loop-constraint-init : goal.loop-constraint-init
loop-constraint-init c = λ takes. no_more

pub loop-constraint-preserved : goal.loop-constraint-preserved
loop-constraint-preserved c =
    let ms = module_terms c.args.numbers.now in
    let of = type_term c.args.of.now in
    constrained_step ms c.args.home of limit_term c.args.constraints.now c.loop-constraint.constraint-index
    c.constraint-item.result c.args.syntax c.loop-constraint.left _ c.loop-constraint-test.true c.constraint-item.is
    (c.in_ok-left.ensures of (names_told ms c.args.home of c.base-base.result _ c.base-base.ensures.found
    c.base-base.ensures.own (subst (λ t. StatesNumbers c.in_ok-own.own t) c.beneath_tags.ensures c.in_ok-own.ensures)))
    c.loop-constraint.invariant

pub returns : goal.returns
returns c =
    constrained_end (module_terms c.args.numbers.now) c.args.home (type_term c.args.of.now) limit_term
    c.args.constraints.now c.loop-constraint.constraint-index c.args.syntax c.loop-constraint.left
    c.loop-constraint-test.false c.loop-constraint.invariant

-- The value that the text denotes, in the filled syntax of its type.
use Rattle.std.proofs.Math.Path.{subst}
use Rattle.asn1_values_syntax.specs.ValueTrees.{value_tree}
use Rattle.asn1_names.specs.TermViews.{value_number}
use Rattle.filled_syntaxes.specs.AssignedValues.{numbered_meaning}
use Rattle.filled_syntaxes.specs.BadDefaults.{TellsFilled}
use Rattle.filled_syntaxes.specs.LinkedMeanings.{linked_arcs}
use Rattle.filled_syntaxes.proofs.JudgedLaws.{unfilled_noted, unfilled_tells, value_judged, value_noted, value_tells}
use Rattle.filled_syntaxes.proofs.named_things.NamedThings.judge_value.Goals as goal

pub returns-in_ok-told-in-Some-clause-told : goal.returns-in_ok-told-in-Some-clause-told
returns-in_ok-told-in-Some-clause-told c = λ ms linked x of j.
    let stated = value_number c.args.value.now in
    let text = value_tree c.args.value.now in
    let has = subst (TellsFilled ms (linked_arcs linked) (numbered_meaning x)) c.in-Some.is
    (c.in_ok-syntax.ensures.told ms linked (numbered_meaning x) j.known (value_judged of stated text j)) in
    value_tells ms (linked_arcs linked) x of stated text c.in-Some.syntax c.in_ok-told-in-Some.told j.assigns has
    (c.in_ok-told-in-Some.ensures.told ms linked j.known)

pub returns-in_ok-told-in-Some-clause-noted : goal.returns-in_ok-told-in-Some-clause-noted
returns-in_ok-told-in-Some-clause-noted c = λ ms linked x of j is_of.
    let stated = value_number c.args.value.now in
    let text = value_tree c.args.value.now in
    let means = value_judged of stated text j in
    let has = subst (TellsFilled ms (linked_arcs linked) (numbered_meaning x)) c.in-Some.is
    (c.in_ok-syntax.ensures.told ms linked (numbered_meaning x) j.known means) in
    value_noted ms (linked_arcs linked) x of stated text c.in-Some.syntax c.args.document j.assigns is_of has
    (c.in_ok-syntax.ensures.noted ms linked (numbered_meaning x) j.known means)
    (c.in_ok-told-in-Some.ensures.noted ms linked j.known)

pub returns-in-None-clause-told : goal.returns-in-None-clause-told
returns-in-None-clause-told c = λ ms linked x of j.
    unfilled_tells ms (linked_arcs linked) (numbered_meaning x)
    (subst (TellsFilled ms (linked_arcs linked) (numbered_meaning x)) c.in-None.is
    (c.in_ok-syntax.ensures.told ms linked (numbered_meaning x) j.known
    (value_judged of (value_number c.args.value.now) (value_tree c.args.value.now) j)))

pub returns-in-None-clause-noted : goal.returns-in-None-clause-noted
returns-in-None-clause-noted c = λ ms linked x of j is_of.
    let stated = value_number c.args.value.now in
    let text = value_tree c.args.value.now in
    let means = value_judged of stated text j in
    unfilled_noted ms (linked_arcs linked) x of stated text j.assigns
    (subst (TellsFilled ms (linked_arcs linked) (numbered_meaning x)) c.in-None.is
    (c.in_ok-syntax.ensures.told ms linked (numbered_meaning x) j.known means))
    (c.in_ok-syntax.ensures.noted ms linked (numbered_meaning x) j.known means)

-- The value of the syntax, where there is one.
use Rattle.std.proofs.Common.{◌≡◌, ◌∙◌, Some, ap, sym}
use Rattle.std.specs.Option.{option_copied}
use Rattle.std.proofs.Math.Path.{subst}
use Rattle.std.proofs.lemmas.Option.{same_Some}
use Rattle.asn1_values_syntax.specs.ValueTrees.{value_tree}
use Rattle.filled_syntaxes.specs.LinkedMeanings.{linked_arcs}
use Rattle.filled_syntaxes.specs.SaidTexts.{TellsValue}
use Rattle.section_values.proofs.StepLaws.{in_syntax}
use Rattle.section_values.proofs.texts.syntax_value.Goals as goal

pub returns-in_ok-value-in-Some-clause-told : goal.returns-in_ok-value-in-Some-clause-told
returns-in_ok-value-in-Some-clause-told c = λ ms syntax known is.
    let linked = c.args.parts.now.linked.now in
    let one = c.in-Some.syntax.now in
    let found : option_copied c.args.syntax ≡ Some one = ap option_copied c.in-Some.is in
    subst (λ s. TellsValue (linked_arcs linked) s (value_tree c.args.text.now) c.in_ok-value-in-Some.value)
    (same_Some one syntax (sym found ∙ is)) (c.in_ok-value-in-Some.ensures.told ms linked known.things_are)

pub returns-in_ok-value-in-Some-clause-noted : goal.returns-in_ok-value-in-Some-clause-noted
returns-in_ok-value-in-Some-clause-noted c = λ ms known.
    let linked = c.args.parts.now.linked.now in
    in_syntax linked (option_copied c.args.syntax) c.in-Some.syntax.now c.args.text.now c.args.document
    (ap option_copied c.in-Some.is) (c.in_ok-value-in-Some.ensures.noted ms linked known.things_are)

-- The syntax of the meaning, filled.
use Rattle.std.proofs.Math.Path.{subst}
use Rattle.asn1_types.specs.ToldMeanings.{TellsSyntax}
use Rattle.filled_syntaxes.specs.LinkedMeanings.{linked_arcs}
use Rattle.filled_syntaxes.proofs.WalkLaws.{meaning_filled, meaning_noted, syntax_told}
use Rattle.filled_syntaxes.proofs.named_things.NamedThings.filled.Goals as goal

pub returns-in_ok-filled-in-Some-clause-told : goal.returns-in_ok-filled-in-Some-clause-told
returns-in_ok-filled-in-Some-clause-told c = λ ms linked meant known means.
    let has = subst (TellsSyntax ms meant) c.in-Some.is
    (syntax_told known meant c.args.meaning means c.in_ok-plain.field-0 c.in_ok-plain.ensures) in
    meaning_filled ms (linked_arcs linked) meant c.in-Some.plain c.in_ok-filled-in-Some.filled c.new-path.result.items
    c.new-path.ensures.items has
    (c.in_ok-filled-in-Some.ensures.filled ms linked meant (record { known = known; means = means }))

pub returns-in_ok-filled-in-Some-clause-noted : goal.returns-in_ok-filled-in-Some-clause-noted
returns-in_ok-filled-in-Some-clause-noted c = λ ms linked meant known means.
    let has = subst (TellsSyntax ms meant) c.in-Some.is
    (syntax_told known meant c.args.meaning means c.in_ok-plain.field-0 c.in_ok-plain.ensures) in
    let filled = meaning_filled ms (linked_arcs linked) meant c.in-Some.plain c.in_ok-filled-in-Some.filled
    c.new-path.result.items c.new-path.ensures.items has
    (c.in_ok-filled-in-Some.ensures.filled ms linked meant (record { known = known; means = means })) in
    meaning_noted ms (linked_arcs linked) meant c.in-Some.plain c.in_ok-filled-in-Some.filled c.new-path.result.items
    c.new-path.ensures.items has filled
    (c.in_ok-filled-in-Some.ensures.noted ms linked meant (record { known = known; means = means }))

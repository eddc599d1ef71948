-- The DEFAULTs of a type are noted where one is written in its text.
use Rattle.std.proofs.Common.{◌≡◌, ◌∙◌, ap, rules, true}
use Rattle.asn1_names.specs.TermViews.{type_term}
use Rattle.filled_syntaxes.specs.AssignedValues.{numbered_meaning}
use Rattle.filled_syntaxes.specs.JudgedAssignments.{shows_defaults}
use Rattle.filled_syntaxes.specs.LinkedMeanings.{linked_arcs}
use Rattle.filled_syntaxes.specs.WrittenDefaults.{writes_default}
use Rattle.filled_syntaxes.proofs.JudgedLaws.{defaults_shown, type_judged}
use Rattle.filled_syntaxes.proofs.named_things.NamedThings.judge_type.Goals as goal

pub returns : goal.returns
returns c = λ ms linked x j.
    let writes : writes_default (type_term c.args.of.now) ≡ true = search rules in
    defaults_shown ms (linked_arcs linked) x (ap shows_defaults j.assigns ∙ writes)
    (c.in_ok-_syntax.ensures.noted ms linked (numbered_meaning x) j.known (type_judged (type_term c.args.of.now) j))

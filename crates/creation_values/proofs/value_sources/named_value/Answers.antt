-- The syntax is that of the attribute's record.
use Rattle.std.proofs.Common.{ap, ◌∙◌}
use Rattle.std.specs.Prelude.{option_and_then}
use Rattle.term_values.specs.Syntaxes.{TypeSyntax}
use Rattle.term_model.specs.CreateValues.{value_of_octets}
use Rattle.creation_values.proofs.value_sources.named_value.Goals as goal

pub returns : goal.returns
returns c =
    c.in_ok-value.ensures
    ∙ ap (option_and_then (λ (found : TypeSyntax). value_of_octets found c.args.named.now.value))
    c.syntax_of-syntax.ensures

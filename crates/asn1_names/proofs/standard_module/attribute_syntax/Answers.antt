use Rattle.std.proofs.Common.{ap, ◌∙◌, rules}
use Rattle.term_values.specs.Syntaxes.TypeParts.{NoParts}
use Rattle.term_values.specs.Syntaxes.TypeSyntax.{Sequence}
use Rattle.asn1_names.proofs.PartsLaws.{front_of_none}
use Rattle.asn1_names.proofs.standard_module.attribute_syntax.Goals as goal

pub returns : goal.returns
returns c =
    c.of_form-2.ensures ∙ ap Sequence (front_of_none c.add_part-2.new.into.items
    ∙ c.in_ok-add_part-2.ensures.appended NoParts ∙ c.in_ok-add_part.ensures.appended _ ∙ search rules)

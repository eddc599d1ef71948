use Rattle.std.proofs.Common.{ap, ◌∙◌, rules}
use Rattle.term_values.specs.Syntaxes.TypeParts.{NoParts}
use Rattle.term_values.specs.Syntaxes.TypeSyntax.{Choice}
use Rattle.asn1_names.proofs.PartsLaws.{front_of_none}
use Rattle.asn1_names.proofs.standard_module.instance_parts.Goals as goal

pub returns : goal.returns
returns c =
    ap Choice (front_of_none c.add_tagged-3.new.into.items
    ∙ c.in_ok-add_tagged-3.ensures.appended NoParts ∙ c.in_ok-add_tagged-2.ensures.appended _
    ∙ c.in_ok-add_tagged.ensures.appended _ ∙ search rules)

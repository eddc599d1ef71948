-- The last part.
use Rattle.std.proofs.Common.{sym, ap, ◌∙◌}
use Rattle.term_model.specs.Modifiable.{last_attribute}
use Rattle.attribute_rules.proofs.NamingLaws.{last_of}
use Rattle.attribute_rules.proofs.lookups.last_attribute.Goals as goal

pub returns-in-Some : goal.returns-in-Some
returns-in-Some c =
    sym (ap last_attribute c.in-Some.ensures.cases.0 ∙ last_of c.in-Some.field-0-1.now c.in-Some.last.now)

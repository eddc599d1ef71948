-- A name.
use Rattle.std.proofs.Common.{◌≡◌, ◌∙◌, ap}
use Rattle.asn1_names.specs.TermViews.{plain_term}
use Rattle.asn1_names.proofs.WalkLaws.{named_is}
use Rattle.asn1_names.proofs.type_walk.plain_name.Goals as goal

pub returns-in-Named : goal.returns-in-Named
returns-in-Named c = λ limits. (limits, ap (λ p. plain_term p limits) c.in-Named.is ∙ named_is c.in-Named.name limits)

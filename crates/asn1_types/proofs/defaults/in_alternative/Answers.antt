-- An alternative.
use Rattle.asn1_types.proofs.DefaultLaws.{alternative_within}
use Rattle.asn1_types.proofs.defaults.in_alternative.Goals as goal

pub returns : goal.returns
returns c = λ ms m k word members limits there. alternative_within c.args.rest.now there

use Rattle.std.proofs.Common.{length, ap}
use Rattle.time_text.proofs.MomentLaws.{text_is}
use Rattle.time_text.proofs.SameLaws.{same_moment}
use Rattle.time_text.proofs.laws.texts_tell_moments.Goals as goal

pub returns-clause-octets : goal.returns-clause-octets
returns-clause-octets c = λ seconds. ap (λ xs. length xs) (text_is seconds)

pub returns-clause-one_moment : goal.returns-clause-one_moment
returns-clause-one_moment c = same_moment

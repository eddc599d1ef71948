use Rattle.cmis_filter.proofs.MatchLaws.{is_match, match_is}
use Rattle.cmis_filter.proofs.laws.tests_tell_matches.Goals as goal

pub returns : goal.returns
returns c = λ rule asserted held. (match_is rule asserted held, is_match rule asserted held)

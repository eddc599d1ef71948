use Rattle.agent_links.proofs.ShareLemmas.{shares_add_up, parts_joined}
use Rattle.agent_links.proofs.laws.sessions_are_dealt.Goals as goal

pub returns-clause-shares : goal.returns-clause-shares
returns-clause-shares c = shares_add_up

pub returns-clause-parts : goal.returns-clause-parts
returns-clause-parts c = parts_joined

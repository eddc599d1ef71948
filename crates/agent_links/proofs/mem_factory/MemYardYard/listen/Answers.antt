use Rattle.std.proofs.Common.{Some, map, drop, ap, ◌∙◌}
use Rattle.agent_links.specs.Shares.{shared}
use Rattle.agent_links.specs.Sessions.{told_parts}
use Rattle.agent_links.specs.Memory.{FactoryState, session_of}
use Rattle.agent_links.proofs.SessionLemmas.{parts_counted, parts_told, rest_told}
use Rattle.agent_links.proofs.mem_factory.MemYardYard.listen.Goals as goal

pub returns-in-Ok-clause-shares : goal.returns-in-Ok-clause-shares
returns-in-Ok-clause-shares c =
    parts_counted c.in-Ok.posts.items c.self.inside.sessions.items c.args.sessions c.args.workers c.in-Ok.ensures.parts

pub returns-in-Ok-clause-dealt : goal.returns-in-Ok-clause-dealt
returns-in-Ok-clause-dealt c =
    parts_told c.in-Ok.posts.items c.self.inside.sessions.items c.args.sessions c.args.workers c.in-Ok.ensures.parts
    ∙ ap (λ (yard : FactoryState). told_parts (map session_of yard.sessions) c.args.sessions c.args.workers)
    c.self.view_is

pub returns-in-Ok-clause-rest : goal.returns-in-Ok-clause-rest
returns-in-Ok-clause-rest c =
    let taken = shared c.args.sessions c.args.workers c.args.workers in
    ap (λ (yard : FactoryState). Some (map session_of yard.sessions)) c.in-Ok.ensures.rest
    ∙ ap Some (rest_told c.self.inside.sessions.items taken)
    ∙ ap (λ (yard : FactoryState). Some (drop taken (map session_of yard.sessions))) c.self.view_is

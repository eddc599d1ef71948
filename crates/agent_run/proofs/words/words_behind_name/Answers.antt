-- What is collected are the items of the line behind the first one.
use Rattle.std.proofs.Common.{◌∙◌}
use Rattle.std.proofs.lemmas.Result.{IfOk-weaker}
use Rattle.agent_run.proofs.words.words_behind_name.Goals as goal

pub returns : goal.returns
returns g c =
    IfOk-weaker c.collect.result _ _
    (λ words collected.
    let behind = collected tt in
    let line = c.skip.ensures.runs behind.0 behind.0.seen behind.1 in
    (line.0, line.1, line.2.0 ∙ behind.2, behind.3.0 ∙ line.2.2))
    c.collect.ensures.runs

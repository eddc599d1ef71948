use Rattle.std.proofs.Common.{length, ◌∙◌}
use Rattle.agent_model.specs.Texts.{journal_text}
use Rattle.script_playing.proofs.WatchingLaws.{watched_more}
use Rattle.script_playing.proofs.watching.Watch.ask.Goals as goal

pub returns : goal.returns
returns c first agent journal count o w =
    watched_more first agent journal c.args.next.now c.args.self.now c.add.new.self count w c.add.ensures.octets
    (c.add.ensures.refused ∙ c.refused_then-self.ensures agent (length (journal_text journal)) o w.counted)

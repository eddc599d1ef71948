use Rattle.script_playing.proofs.WatchingLaws.{associations_reserve}
use Rattle.script_playing.proofs.watching.Places.before.Goals as goal

pub returns-clause-places : goal.returns-clause-places
returns-clause-places g c = record {
  came = c.count_entries.ensures;
  kept = associations_reserve c.args.agent.now c.count_reserved.result c.requires.ended
      c.count_reserved.ensures.reserved;
  held = c.limits.ensures;
}

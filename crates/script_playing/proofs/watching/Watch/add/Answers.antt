use Rattle.std.proofs.Common.{rules, arith, refl}
use Rattle.script_playing.proofs.WatchingLaws.{watched_passing}
use Rattle.script_playing.proofs.watching.Watch.add.Goals as goal

pub returns-clause-watched : goal.returns-clause-watched
returns-clause-watched c first agent journal count none_ w =
    watched_passing first agent journal c.args.next.now c.args.self.now _ count none_ w
    (first_of (search rules, grind arith)) refl

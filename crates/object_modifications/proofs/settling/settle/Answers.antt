-- What is left, and what is known of it.
use Rattle.object_modifications.proofs.SettlingLaws.{settled_so}
use Rattle.object_modifications.proofs.settling.settle.Goals as goal

pub returns : goal.returns
returns c =
    settled_so c.args.records.now c.args.seen.now c.args.id.now c.in_ok-named.named c.args.size _ c.args.made.now
    c.end_full.new.attributes.items c.end_full.new.knowledge.items c.push.new.self.items c.made.view_is
    c.in_ok-end_full.ensures.attributes c.in_ok-end_full.ensures.knowledge c.in_ok-push.ensures.items
    c.in_ok-named.ensures

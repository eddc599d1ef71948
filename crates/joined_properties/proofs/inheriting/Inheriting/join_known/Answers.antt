-- The next table of the class, put in its place.
use Rattle.std.proofs.Common.{subst}
use Rattle.joined_properties.specs.JoiningSteps.{IsNext}
use Rattle.joined_properties.proofs.PutLaws.{put_step}
use Rattle.joined_properties.proofs.inheriting.Inheriting.join_known.Goals as goal

pub returns : goal.returns
returns c = λ at.
    put_step c.args.self.now.values.items.now c.args.self.now.classes.now c.args.self.now.stated.now c.args.place
    c.args.class.now c.in_ok-table.table c.args.known.now.items c.put.new.known.items c.put.result at
    (subst (λ xs. IsNext c.args.self.now.values.items.now c.args.self.now.stated.now c.args.class.now xs
    c.in_ok-table.table) c.as_slice.ensures.value c.in_ok-table.ensures)
    c.put.ensures

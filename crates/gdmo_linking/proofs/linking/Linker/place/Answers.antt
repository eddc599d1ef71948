-- The place of the template that is meant.
use Rattle.gdmo_linking.proofs.LinkLaws.{links}
use Rattle.gdmo_linking.proofs.linking.Linker.place.Goals as goal

pub returns : goal.returns
returns c = λ parts document x is meant tells.
    links parts c.args.self.now document x c.args.number c.place_at.result is meant tells c.place_at.ensures

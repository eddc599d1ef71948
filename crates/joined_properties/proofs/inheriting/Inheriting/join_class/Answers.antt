-- A class that is there, and one that isn't.
use Rattle.std.proofs.Common.{◌∙◌, ap, false}
use Rattle.std.specs.Option.{option_copied}
use Rattle.joined_properties.proofs.PutLaws.{item_is, no_step}
use Rattle.joined_properties.proofs.inheriting.Inheriting.join_class.Goals as goal

pub returns-in-Some : goal.returns-in-Some
returns-in-Some c =
    c.join_known.ensures
    (item_is c.args.self.now.classes.now c.args.place c.get.result c.get.ensures.lookup.0 c.get.ensures.lookup.1
    ∙ ap option_copied c.in-Some.is)

pub returns-in-None : goal.returns-in-None
returns-in-None c =
    no_step c.args.self.now.values.items.now c.args.self.now.classes.now c.args.self.now.stated.now c.args.place
    c.args.known.now.items false
    (item_is c.args.self.now.classes.now c.args.place c.get.result c.get.ensures.lookup.0 c.get.ensures.lookup.1
    ∙ ap option_copied c.in-None.is)

-- No package stands there.
use Rattle.std.proofs.Common.{◌∙◌, ap}
use Rattle.std.specs.BTreeMap.{get}
use Rattle.std.specs.Option.{option_copied}
use Rattle.std.specs.Ordering.{nat_cmp}
use Rattle.joined_statements.specs.declared.joined.Joining.TheVariants.{Beside}
use Rattle.joined_properties.specs.StatementChains.{said_by}
use Rattle.joined_properties.proofs.PutLaws.{item_is, no_package}
use Rattle.joined_properties.proofs.inheriting.Inheriting.join_package.Goals as goal

pub returns-in-None : goal.returns-in-None
returns-in-None c = λ q.
    no_package c.args.self.now.values.items.now Beside (said_by q) (get nat_cmp c.args.own.now q)
    c.args.self.now.stated.now c.args.place
    (item_is c.args.self.now.stated.now c.args.place c.get.result c.get.ensures.lookup.0 c.get.ensures.lookup.1
    ∙ ap option_copied c.in-None.is)

-- A superclass that is there, and one that isn't.
use Rattle.std.proofs.Common.{◌≡◌, ◌∙◌, ℕ, Option, Some, ap, subst, sym}
use Rattle.std.specs.Prelude.{OnOk, slice_get}
use Rattle.std.specs.BTreeMap.{get}
use Rattle.std.specs.Option.{option_and_then, option_copied}
use Rattle.std.specs.Ordering.{nat_cmp}
use Rattle.joined_statements.specs.JoinedStatements.{Attributes, IsJoinedOf}
use Rattle.joined_statements.specs.declared.joined.Joining.TheVariants.{Inherited}
use Rattle.joined_properties.proofs.PutLaws.{item_is, no_superclass}
use Rattle.joined_properties.proofs.inheriting.Inheriting.join_superclass.Goals as goal

pub returns-in-Some : goal.returns-in-Some
returns-in-Some c =
    let at : slice_get c.args.known.now c.args.place ≡ Some c.in-Some.others.now =
    item_is c.args.known.now c.args.place c.get.result c.get.ensures.lookup.0 c.get.ensures.lookup.1
    ∙ ap option_copied c.in-Some.is in
    subst (λ (o : Option Attributes). OnOk c.join_many.result ((q : ℕ) → IsJoinedOf c.args.self.now.values.items.now
    Inherited (get nat_cmp c.args.inherited.now q) (option_and_then (λ (table : Attributes). get nat_cmp table q) o)
    (get nat_cmp c.join_many.new.attributes q))) (sym at) c.join_many.ensures

pub returns-in-None : goal.returns-in-None
returns-in-None c = λ q.
    no_superclass c.args.self.now.values.items.now (get nat_cmp c.args.inherited.now q) c.args.known.now q c.args.place
    (item_is c.args.known.now c.args.place c.get.result c.get.ensures.lookup.0 c.get.ensures.lookup.1
    ∙ ap option_copied c.in-None.is)

-- What was told of the types of attributes and of actions holds of the later table.
use Rattle.linked_types.specs.NotedDefaults.{BadDefaults}
use Rattle.linked_types.proofs.NamingLaws.{actions_later, derived_later}
use Rattle.linked_types.proofs.TableLaws.{grows_on, names_on}
use Rattle.linked_types.proofs.member_types.types_of_parts.Goals as goal

pub returns-clause-told : goal.returns-clause-told
returns-clause-told c = λ ms known table.
    let one = c.in_ok-attributes.ensures.names ms known table in
    let two = c.in_ok-actions.ensures.names ms known one.table in
    let three = c.in_ok-notifications.ensures.names ms known two.table in record {
      of_attributes = derived_later (grows_on two.grows three.grows) (c.in_ok-attributes.ensures.told ms known table);
      of_actions = actions_later three.grows (c.in_ok-actions.ensures.told ms known one.table);
      of_notifications = c.in_ok-notifications.ensures.told ms known two.table;
    }

pub returns-clause-names : goal.returns-clause-names
returns-clause-names c = λ ms known table.
    let linked = c.args.linked.now in
    let one = c.in_ok-attributes.ensures.names ms known table in
    let two = c.in_ok-actions.ensures.names ms known one.table in
    let three = c.in_ok-notifications.ensures.names ms known two.table in
    names_on (BadDefaults ms linked) one (names_on (BadDefaults ms linked) two three)

-- Two types, one named after the other.
use Rattle.linked_types.specs.NotedDefaults.{BadDefaults}
use Rattle.linked_types.proofs.NamingLaws.{optional_later}
use Rattle.linked_types.proofs.TableLaws.{names_on}
use Rattle.linked_types.proofs.member_types.types_of.Goals as goal

pub returns-clause-told : goal.returns-clause-told
returns-clause-told c = λ ms linked known table.
    let first = c.in_ok-information.ensures.names ms linked known table in
    let second = c.in_ok-reply.ensures.names ms linked known first.table in record {
      of_information = optional_later ms linked c.args.information.now c.in_ok-information.information second.grows
          (c.in_ok-information.ensures.told ms linked known table);
      of_reply = c.in_ok-reply.ensures.told ms linked known first.table;
    }

pub returns-clause-names : goal.returns-clause-names
returns-clause-names c = λ ms linked known table.
    let first = c.in_ok-information.ensures.names ms linked known table in
    names_on (BadDefaults ms linked) first (c.in_ok-reply.ensures.names ms linked known first.table)

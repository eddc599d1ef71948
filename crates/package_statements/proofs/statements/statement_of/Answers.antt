-- What was told of the first types holds in the later table.
use Rattle.std.proofs.Common.{refl}
use Rattle.linked_types.specs.NotedDefaults.{BadDefaults}
use Rattle.linked_types.proofs.TableLaws.{names_on}
use Rattle.package_statements.proofs.StatementLaws.{places_later}
use Rattle.package_statements.proofs.statements.statement_of.Goals as goal

pub returns-clause-told : goal.returns-clause-told
returns-clause-told c = λ ms linked known values table.
    let first = c.in_ok-permitted.ensures.names ms linked known table in
    let second = c.in_ok-required.ensures.names ms linked known first.table in record {
      attribute = refl;
      gets = refl;
      replaces = refl;
      adds = c.is_some.ensures;
      removes = c.is_some-2.ensures;
      sets_default = refl;
      default_ = c.held_by.ensures ms linked known values;
      initial_ = c.held_by-2.ensures ms linked known values;
      permitted = places_later ms linked c.args.stated.now.permitted c.in_ok-permitted.permitted second.grows
          (c.in_ok-permitted.ensures.told ms linked known table);
      required = c.in_ok-required.ensures.told ms linked known first.table;
    }

pub returns-clause-names : goal.returns-clause-names
returns-clause-names c = λ ms linked known table.
    let first = c.in_ok-permitted.ensures.names ms linked known table in
    names_on (BadDefaults ms linked) first (c.in_ok-required.ensures.names ms linked known first.table)

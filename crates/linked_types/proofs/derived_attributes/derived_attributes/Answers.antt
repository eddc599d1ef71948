-- The types and the rules.
use Rattle.std.proofs.Common.{sym}
use Rattle.std.proofs.Math.Path.{subst}
use Rattle.link_graphs.specs.Cycles.{IsBehindTargets}
use Rattle.class_faults.specs.CyclicFaults.{bases_of_each}
use Rattle.linked_types.proofs.derived_attributes.derived_attributes.Goals as goal

pub returns-clause-told : goal.returns-clause-told
returns-clause-told c = λ ms known table.
    let linked = c.args.linked.now in
    let same = sym c.as_slice-attributes.ensures.value in record {
      types_are = c.in_ok-types.ensures.told ms linked known table same;
      rules_are = c.in_ok-rules.ensures linked same
          (subst (λ order. IsBehindTargets (bases_of_each c.as_slice-attributes.result.now) order)
          (sym c.as_slice.ensures.value) c.in_ok-cycles.ensures.order);
    }

pub returns-clause-names : goal.returns-clause-names
returns-clause-names c = λ ms known table. c.in_ok-types.ensures.names ms c.args.linked.now known table

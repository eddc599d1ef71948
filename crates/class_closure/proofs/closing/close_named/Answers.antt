-- What is known of types and of what packages state, and the texts that are noted with them.
use Rattle.std.proofs.Common.{List, sym}
use Rattle.std.proofs.Math.Path.{subst}
use Rattle.linked_parts.specs.declared.linked.LinkedPackage.{LinkedPackage}
use Rattle.joined_properties.specs.OwnStatements.{Stated}
use Rattle.linked_types.proofs.NamingLaws.{linked_later}
use Rattle.package_statements.specs.PackageStatements.{AreStated}
use Rattle.class_closure.proofs.ClosingLaws.{err_by, ok_by}
use Rattle.class_closure.proofs.closing.close_named.Goals as goal

pub returns-clause-closed : goal.returns-clause-closed
returns-clause-closed c =
    let linked = c.args.linked.now in
    let table = c.all_statements.new.table in
    let values = c.args.values.now in
    ok_by c.close_parts.result (λ x told ms things assigned texts.
    let begun = c.in_ok-table.ensures ms linked in
    let types = c.in_ok-types.ensures.names ms things begun in
    let statements = c.in_ok-stated.ensures.names ms linked things types.table in
    told ms (record {
      are_parts = record {
        things_are = things;
        table_is = statements.table;
        types_are = linked_later statements.grows (c.in_ok-types.ensures.told ms things begun);
        values_are = assigned;
      };
      are_stated = subst (λ (xs : Stated). AreStated ms linked table values linked.packages.items xs)
          (sym c.as_slice-2.ensures.value)
          (subst (λ (xs : List LinkedPackage). AreStated ms linked table values xs c.in_ok-stated.stated.items)
          c.as_slice.ensures.value (c.in_ok-stated.ensures.told ms linked things assigned types.table));
    }) (record {
      assigned = c.args.bad.now.first;
      of_assignments = texts;
      typed = c.types_of_parts.new.bad.first;
      of_types = types.noted;
      of_statements = statements.noted;
    }) c.in_ok-types.ensures.noted) c.close_parts.ensures.closed

pub returns-clause-cause : goal.returns-clause-cause
returns-clause-cause c =
    let linked = c.args.linked.now in
    let table = c.all_statements.new.table in
    let values = c.args.values.now in
    err_by c.close_parts.result (λ refusal told ms things assigned texts.
    let begun = c.in_ok-table.ensures ms linked in
    let types = c.in_ok-types.ensures.names ms things begun in
    let statements = c.in_ok-stated.ensures.names ms linked things types.table in
    told ms (record {
      are_parts = record {
        things_are = things;
        table_is = statements.table;
        types_are = linked_later statements.grows (c.in_ok-types.ensures.told ms things begun);
        values_are = assigned;
      };
      are_stated = subst (λ (xs : Stated). AreStated ms linked table values linked.packages.items xs)
          (sym c.as_slice-2.ensures.value)
          (subst (λ (xs : List LinkedPackage). AreStated ms linked table values xs c.in_ok-stated.stated.items)
          c.as_slice.ensures.value (c.in_ok-stated.ensures.told ms linked things assigned types.table));
    }) (record {
      assigned = c.args.bad.now.first;
      of_assignments = texts;
      typed = c.types_of_parts.new.bad.first;
      of_types = types.noted;
      of_statements = statements.noted;
    }) c.in_ok-types.ensures.noted) c.close_parts.ensures.cause

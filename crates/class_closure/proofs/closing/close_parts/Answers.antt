-- What classes have of each attribute, and which of them derive from themselves.
use Rattle.std.proofs.Common.{List, sym}
use Rattle.std.proofs.Math.Path.{subst}
use Rattle.linked_parts.specs.declared.linked.LinkedClass.{LinkedClass}
use Rattle.class_faults.specs.CyclicFaults.{CyclicClassFaults}
use Rattle.class_faults.specs.FaultSets.{Notes}
use Rattle.joined_properties.specs.ClassProperties.{ArePropertiesOfAll}
use Rattle.joined_statements.specs.JoinedStatements.{Attributes}
use Rattle.package_statements.proofs.StatementLaws.{are_statements}
use Rattle.class_closure.proofs.ClosingLaws.{err_by, ok_by}
use Rattle.class_closure.proofs.closing.close_parts.Goals as goal

pub returns-clause-closed : goal.returns-clause-closed
returns-clause-closed c =
    let parts = c.args.parts.now in
    let linked = parts.linked.now in
    let stated = c.args.stated.now in
    let is = c.as_slice.ensures.value in
    ok_by c.close_joined.result (λ x told ms known named attributes. told ms (record {
      stated = known;
      properties = subst (λ (xs : List Attributes). ArePropertiesOfAll parts.values.now linked.classes.items stated xs)
          (sym c.as_slice-2.ensures.value)
          (subst (λ (xs : List LinkedClass). ArePropertiesOfAll parts.values.now xs stated
          c.in_ok-properties.properties.items)
          is (c.in_ok-properties.ensures.properties
          (are_statements ms linked parts.table.now parts.values.now linked.packages.items stated known.are_stated)));
    }) named (record {
      attributes = c.args.faults.now.first;
      of_attributes = attributes;
      of_classes = subst (λ (xs : List LinkedClass). Notes (CyclicClassFaults xs) c.args.faults.now.first
          c.properties.new.faults.first) is c.in_ok-properties.ensures.noted;
    })) c.close_joined.ensures.closed

pub returns-clause-cause : goal.returns-clause-cause
returns-clause-cause c =
    let parts = c.args.parts.now in
    let linked = parts.linked.now in
    let stated = c.args.stated.now in
    let is = c.as_slice.ensures.value in
    err_by c.close_joined.result (λ refusal told ms known named attributes. told ms (record {
      stated = known;
      properties = subst (λ (xs : List Attributes). ArePropertiesOfAll parts.values.now linked.classes.items stated xs)
          (sym c.as_slice-2.ensures.value)
          (subst (λ (xs : List LinkedClass). ArePropertiesOfAll parts.values.now xs stated
          c.in_ok-properties.properties.items)
          is (c.in_ok-properties.ensures.properties
          (are_statements ms linked parts.table.now parts.values.now linked.packages.items stated known.are_stated)));
    }) named (record {
      attributes = c.args.faults.now.first;
      of_attributes = attributes;
      of_classes = subst (λ (xs : List LinkedClass). Notes (CyclicClassFaults xs) c.args.faults.now.first
          c.properties.new.faults.first) is c.in_ok-properties.ensures.noted;
    })) c.close_joined.ensures.cause

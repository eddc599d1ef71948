-- What is told of references and of classes, and that nothing is wrong with them.
use Rattle.std.proofs.Common.{List}
use Rattle.asn1_names.specs.ModuleTerms.{ModuleTerm}
use Rattle.asn1_names.specs.TermViews.{module_terms}
use Rattle.class_faults.specs.FirstClassFault.{AreFaultless}
use Rattle.class_faults.specs.NotedFaults.{TellsFirstFault}
use Rattle.class_closure.specs.ClosedRecords.{CanHaveRecords}
use Rattle.template_compile.proofs.RecordLaws.{can_have, instances_registered}
use Rattle.template_compile.specs.Acceptance.{IsSchemaOf}
use Rattle.template_compile.proofs.ReadLaws.{are_linked, is_read, of_modules, same_terms}
use Rattle.template_compile.proofs.compiling.closed.Goals as goal

pub returns-in-Err-clause-cause : goal.returns-in-Err-clause-cause
returns-in-Err-clause-cause c =
    let parts = c.args.parts.now in
    let resolved = c.requires.resolved in
    c.refusal_of_labels.ensures parts resolved (c.in-Err.ensures.cause
    (is_read c.args.documents.now parts resolved.said)
    (same_terms c.args.types.now parts c.requires.modules))

pub returns-in-Ok-close_classes-clause-accepted : goal.returns-in-Ok-close_classes-clause-accepted
returns-in-Ok-close_classes-clause-accepted c =
    let parts = c.args.parts.now in
    let types = c.args.types.now in
    let linked = c.in-Ok.linked in
    let closed = c.in-Ok-close_classes.ensures in
    let are = are_linked c.args.documents.now parts linked types c.requires.resolved c.requires.modules
    c.in-Ok.ensures.linked in
    let sound = of_modules parts types c.as_slice.result.now (λ (ms : List ModuleTerm). AreFaultless ms linked)
    c.requires.modules c.as_slice.ensures.value closed.faultless in
    record {
      closed = record { linked = linked; are_linked = are; sound = sound };
      is_schema = of_modules parts types c.as_slice.result.now
          (λ (ms : List ModuleTerm). CanHaveRecords ms linked →
          IsSchemaOf ms linked c.in_ok-schema_of-in-Ok-close_classes.field-0)
          c.requires.modules c.as_slice.ensures.value
          (λ same can. c.in_ok-schema_of-in-Ok-close_classes.ensures (module_terms c.as_slice.result.now)
          (closed.records same can) (instances_registered c.args.documents.now parts linked are))
          (can_have c.args.documents.now parts linked are sound);
    }

pub returns-clause-cause : goal.returns-clause-cause
returns-clause-cause c =
    let parts = c.args.parts.now in
    let linked = c.in-Ok.linked in
    let refusal = c.in-Err-close_classes.refusal in
    c.refusal_of_classes.ensures parts linked
    (are_linked c.args.documents.now parts linked c.args.types.now c.requires.resolved c.requires.modules
    c.in-Ok.ensures.linked)
    (of_modules parts c.args.types.now c.as_slice.result.now
    (λ (ms : List ModuleTerm). TellsFirstFault ms linked refusal)
    c.requires.modules c.as_slice.ensures.value c.in-Err-close_classes.ensures.cause)

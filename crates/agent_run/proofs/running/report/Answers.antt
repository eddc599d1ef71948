use Rattle.std.proofs.Common.{◌≤◌, length, map, sym}
use Rattle.std.proofs.Math.Path.{subst}
use Rattle.std.specs.Prelude.{string_bytes}
use Rattle.set_commands.specs.CommandTexts.{HasCause, IsReported}
use Rattle.agent_run.proofs.Causes.{of_reported}
use Rattle.agent_run.proofs.ReadingLaws.{few_documents}
use Rattle.agent_run.proofs.running.report.Goals as goal

pub schema_text-requires : goal.schema_text-requires
schema_text-requires g c = record {
  few = subst (λ ds. length ds ≤ 64) (sym c.as_slice.ensures.value)
      (few_documents string_bytes c.args.names.now (g.F.Files.files c.args.files.now) c.in_ok-documents.documents.items
      c.in_ok-documents.ensures.told c.requires.few);
}

pub returns-in-Ok-clause-text : goal.returns-in-Ok-clause-text
returns-in-Ok-clause-text g c = (
  c.in_ok-documents.documents.items,
  c.in_ok-documents.ensures.told,
  subst (λ ds. IsReported ds c.in-Ok.text.items) c.as_slice.ensures.value c.in-Ok.ensures.text,
)

pub returns-clause-cause : goal.returns-clause-cause
returns-clause-cause g c =
    let docs = c.in_ok-documents.documents.items in
    of_reported (g.F.Files.files c.args.files.now) (map string_bytes c.args.names.now) docs
    (g.F.Files.faults c.args.files.now) (g.F.Files.faults c.read_documents.new.files) c.of_set.result
    c.in_ok-documents.ensures.told
    (c.of_set.ensures docs (subst (λ ds. HasCause ds c.in-Err.refusal) c.as_slice.ensures.value c.in-Err.ensures.cause))

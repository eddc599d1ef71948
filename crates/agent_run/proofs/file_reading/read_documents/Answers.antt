use Rattle.std.proofs.Common.{rules, ◌∙◌, ◌+◌, [], map, take, sym, refl}
use Rattle.std.proofs.Math.Path.{subst}
use Rattle.std.specs.Prelude.{string_bytes}
use Rattle.agent_run.specs.Files.{AreDocuments, document_files}
use Rattle.agent_run.specs.Files.AreDocuments.{no_document}
use Rattle.agent_run.specs.Refusing.{HasFileCause}
use Rattle.agent_run.proofs.Causes.{exit_with}
use Rattle.agent_run.proofs.ReadingLaws.{read_more, stopped_at}
use Rattle.agent_run.proofs.file_reading.read_documents.Goals as goal

pub loop-name-init : goal.loop-name-init
loop-name-init g c = record {
  told = subst (λ ds. AreDocuments (g.F.Files.files c.args.files.now) [] ds) (sym c.new-documents.ensures.items)
      no_document;
  same = refl;
  quiet = refl;
}

pub returns-in_err-document-clause-cause : goal.returns-in_err-document-clause-cause
returns-in_err-document-clause-cause g c =
    let files = g.F.Files.files c.args.files.now in
    let names = c.args.names.now in
    let before = g.F.Files.faults c.args.files.now in
    let between = g.F.Files.faults c.loop-name.files in
    let after = g.F.Files.faults c.read_document.new.files in
    let r = c.in_err-document.field-0.0 in
    exit_with (HasFileCause files (document_files (map string_bytes names)) before after) c.from_residual.result r
    c.from_residual.ensures.1
    (stopped_at string_bytes names c.loop-name.name-index c.name-item.result c.as_str.result.now files
    (g.F.Files.files c.loop-name.files) c.loop-name.documents.items before between after r (search rules) c.name-item.is
    c.as_str.ensures.value c.loop-name.invariant.same c.loop-name.invariant.quiet c.loop-name.invariant.told
    c.in_err-document.ensures.cause)

pub loop-name-preserved : goal.loop-name-preserved
loop-name-preserved g c = record {
  told = subst (λ ds. AreDocuments (g.F.Files.files c.args.files.now)
      (map string_bytes (take (c.loop-name.name-index + 1) c.args.names.now)) ds) (search rules)
      (read_more string_bytes c.args.names.now c.loop-name.name-index c.name-item.result c.as_str.result.now
      (g.F.Files.files c.args.files.now) (g.F.Files.files c.loop-name.files) c.loop-name.documents.items
      c.in_ok-document.document (search rules) c.name-item.is c.as_str.ensures.value c.loop-name.invariant.same
      c.loop-name.invariant.told c.in_ok-document.ensures.told);
  same = c.in_ok-document.ensures.same ∙ c.loop-name.invariant.same;
  quiet = c.in_ok-document.ensures.quiet ∙ c.loop-name.invariant.quiet;
}

use Rattle.std.proofs.Common.{◌≤◌, ℕ, List, length, map, sym}
use Rattle.std.proofs.Math.Path.{subst}
use Rattle.std.specs.Prelude.{string_bytes}
use Rattle.command_line.specs.WordForms.Command.{Run}
use Rattle.agent_run.specs.Files.{FileToRead, document_files, most_script}
use Rattle.agent_run.specs.Refusing.{HasCauseBy, HasFileCause}
use Rattle.agent_run.proofs.Causes.{exit_with, of_files, of_first, of_others, of_run}
use Rattle.agent_run.proofs.ReadingLaws.{few_documents, run_files_of}
use Rattle.agent_run.proofs.playing.run.Goals as goal

abbrev script_file : List ℕ → FileToRead
script_file name = record { name = name; limit = most_script }

pub returns-in_err-text-clause-cause : goal.returns-in_err-text-clause-cause
returns-in_err-text-clause-cause g c =
    let files = g.F.Files.files c.args.files.now in
    let names = map string_bytes c.args.names.now in
    let before = g.F.Files.faults c.args.files.now in
    let after = g.F.Files.faults c.read_file.new.files in
    let r = c.in_err-text.field-0.0 in
    exit_with (HasCauseBy files (Run c.args.script.now names) before after) c.from_residual.result r
    c.from_residual.ensures.1
    (of_files files (Run c.args.script.now names) before after r
    (of_first files (script_file c.args.script.now) (document_files names) before after r c.in_err-text.ensures.cause))

pub returns-in_err-documents-clause-cause : goal.returns-in_err-documents-clause-cause
returns-in_err-documents-clause-cause g c =
    let files = g.F.Files.files c.args.files.now in
    let names = map string_bytes c.args.names.now in
    let before = g.F.Files.faults c.args.files.now in
    let between = g.F.Files.faults c.read_file.new.files in
    let after = g.F.Files.faults c.read_documents.new.files in
    let r = c.in_err-documents.field-0.0 in
    let exit = c.from_residual-in_err-documents in
    exit_with (HasCauseBy files (Run c.args.script.now names) before after) exit.result r exit.ensures.1
    (of_files files (Run c.args.script.now names) before after r
    (of_others files (script_file c.args.script.now) (document_files names) before between after r
    (record { bytes = c.in_ok-text.text.items; told = c.in_ok-text.ensures.told; small = c.in_ok-text.ensures.within })
    c.read_file.ensures.counted c.read_documents.ensures.counted
    (subst (λ told. HasFileCause told (document_files names) between after r) c.read_file.ensures.same
    c.in_err-documents.ensures.cause)))

pub run_text-requires : goal.run_text-requires
run_text-requires g c = record {
  few = subst (λ ds. length ds ≤ 64) (sym c.as_slice-2.ensures.value)
      (few_documents string_bytes c.args.names.now (g.F.Files.files c.read_file.new.files)
      c.in_ok-documents.documents.items c.in_ok-documents.ensures.told c.requires.few);
}

pub returns-in-Ok-clause-text : goal.returns-in-Ok-clause-text
returns-in-Ok-clause-text g c = (
  c.as_slice.result.now,
  c.as_slice-2.result.now,
  run_files_of (g.F.Files.files c.args.files.now) (g.F.Files.files c.read_file.new.files) c.args.script.now
      (map string_bytes c.args.names.now) c.in_ok-text.text.items c.as_slice.result.now
      c.in_ok-documents.documents.items c.as_slice-2.result.now c.in_ok-text.ensures.told c.in_ok-text.ensures.within
      c.as_slice.ensures.value c.read_file.ensures.same c.as_slice-2.ensures.value c.in_ok-documents.ensures.told,
  c.in-Ok.ensures.text,
)

pub returns-clause-cause : goal.returns-clause-cause
returns-clause-cause g c =
    let files = g.F.Files.files c.args.files.now in
    let names = map string_bytes c.args.names.now in
    let script = c.as_slice.result.now in
    let docs = c.as_slice-2.result.now in
    of_run files c.args.script.now names script docs (g.F.Files.faults c.args.files.now)
    (g.F.Files.faults c.read_documents.new.files) c.of_run.result
    (run_files_of files (g.F.Files.files c.read_file.new.files) c.args.script.now names c.in_ok-text.text.items script
    c.in_ok-documents.documents.items docs c.in_ok-text.ensures.told c.in_ok-text.ensures.within
    c.as_slice.ensures.value c.read_file.ensures.same c.as_slice-2.ensures.value c.in_ok-documents.ensures.told)
    (c.of_run.ensures script docs c.in-Err.ensures.cause)
